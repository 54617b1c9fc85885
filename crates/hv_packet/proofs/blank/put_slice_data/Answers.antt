-- Each call puts the bins of one block more.
use Rattle.std.proofs.Common.{◌≡◌, ◌*◌, ◌∙◌, ap₂, subst, arith}
use Rattle.hv_tables.specs.Bins.{Puts}
use Rattle.hv_tree_model.specs.Sites.{blocks_over}
use Rattle.hv_packet.proofs.PuttingLemmas.{leaves_less, leaves_nothing}
use Rattle.hv_packet.proofs.SliceBinLemmas.{all_bins, no_bins, first_bins}
use Rattle.hv_packet.proofs.blank.put_slice_data.Goals as goal
use Rattle.hv_tree_model.proofs.NodeLemmas.{blocks_counted}

pub loop-index-preserved : goal.loop-index-preserved
loop-index-preserved g c =
    leaves_less g.B.BinSink.stands_for _ _ _ _ _ _ _ c.loop-index.invariant
    (first_bins c.args.slice_type c.args.width c.args.height c.div_ceil-columns.result
    (c.div_ceil-columns.result * c.div_ceil.result) c.loop-index.index
    (c.div_ceil-columns.ensures ∙ blocks_counted c.args.width) c.loop-index-test.true)
    c.put_coding_tree_unit.ensures

pub returns : goal.returns
returns g c =
    let count = c.div_ceil-columns.result * c.div_ceil.result in
    let whole : count ≡ blocks_over c.args.width * blocks_over c.args.height =
    ap₂ (λ columns rows. columns * rows)
    (c.div_ceil-columns.ensures ∙ blocks_counted c.args.width)
    (c.div_ceil.ensures ∙ blocks_counted c.args.height) in
    subst (λ bins. Puts g.B.BinSink.stands_for c.args.sink.now c.loop-index.sink bins)
    (all_bins c.args.slice_type c.args.width c.args.height count whole)
    (leaves_nothing g.B.BinSink.stands_for _ _ _ _ c.loop-index.invariant
    (no_bins c.args.slice_type c.args.width c.args.height _ c.loop-index.index
    (omega (arith, c.loop-index-test.false))))
