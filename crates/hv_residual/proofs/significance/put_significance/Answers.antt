use Rattle.std.proofs.Common.{◌≡◌, ◌-◌, arith, get_or, pos, rules}
use Rattle.hv_plan.specs.Levels.{is_significant}
use Rattle.hv_residual.specs.Blocks.{block_of, spot_of}
use Rattle.hv_residual.specs.Levels.{sig_question, one_sig_bins}
use Rattle.hv_residual.proofs.PuttingLemmas.{going_by, going_done}
use Rattle.hv_residual.proofs.SignificanceLemmas.{sig_step, sig_end}
use Rattle.hv_residual.proofs.significance.put_significance.Goals as goal

pub loop-level-preserved : goal.loop-level-preserved
loop-level-preserved g c =
    let levels = c.args.levels.now in
    let i = c.loop-level.level-index in
    let q = sig_question (block_of c.args.block) c.args.right c.args.below (spot_of c.args.corner) in
    let flag : c.is_significant-flag.result ≡ is_significant (get_or levels i (pos 0)) = search rules in
    let step = sig_step q levels i (c.loop-level.left - 1) c.loop-level.still c.is_significant-flag.result
    c.still_sure-still.result c.loop-level-test.true (omega arith) flag c.still_sure-still.ensures in
    record {
      left = omega arith;
      going = going_by g.B.BinSink.stands_for _ _ _
          (one_sig_bins q (c.loop-level.left - 1) c.loop-level.still c.is_significant-flag.result) _ _ _
          c.loop-level.invariant.going step c.put_flag.ensures;
    }

pub returns : goal.returns
returns g c =
    let q = sig_question (block_of c.args.block) c.args.right c.args.below (spot_of c.args.corner) in
    going_done g.B.BinSink.stands_for _ _ _ _ c.loop-level.invariant.going
    (sig_end q c.args.levels.now c.loop-level.level-index c.loop-level.still c.loop-level-test.false)
