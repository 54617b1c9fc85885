use Rattle.std.proofs.Common.{sym}
use Rattle.hv_residual.specs.Blocks.{block_of, spot_of}
use Rattle.hv_residual.specs.Levels.{sig_question}
use Rattle.hv_residual.proofs.PuttingLemmas.{puts_bin, puts_same, puts_none}
use Rattle.hv_residual.proofs.SignificanceLemmas.{left_out_bins, coded_bins}
use Rattle.hv_residual.proofs.significance.put_flag.Goals as goal

pub returns-then-out : goal.returns-then-out
returns-then-out g c =
    puts_none g.B.BinSink.stands_for _ _
    (left_out_bins _ c.args.i c.args.sure c.args.flag c.is_left_out-out.result c.is_left_out-out.ensures
    c.if-out.true)

pub returns : goal.returns
returns g c =
    let q = sig_question (block_of c.args.block) c.args.right c.args.below (spot_of c.args.corner) in
    puts_same g.B.BinSink.stands_for _ _ _ _
    (sym (coded_bins q c.args.i c.args.sure c.args.flag c.is_left_out-out.result c.is_left_out-out.ensures
    c.if-out.false))
    (puts_bin g.B.BinSink.stands_for _ _ c.sig_context.result _ c.args.flag c.sig_context.ensures
    c.bin.ensures)
