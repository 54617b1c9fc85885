-- Each call puts the bins of one block more.
use Rattle.std.proofs.Common.{◌≡◌, ◌*◌, ◌<◌, ◌∙◌, ap, ap₂, subst, arith, length}
use Rattle.std.specs.Prelude.{slice_get, Some, option_map}
use Rattle.std.proofs.lemmas.Option.{slice_get-map, slice_get-get_or}
use Rattle.hv_tables.specs.Bins.{Puts}
use Rattle.hv_tree_model.specs.Sites.{blocks_over}
use Rattle.hv_packet.specs.BlockPlans.{plan_of, plans_of}
use Rattle.hv_packet.proofs.PuttingLemmas.{leaves_less, leaves_nothing}
use Rattle.hv_packet.proofs.PlannedLemmas.{planned_first, planned_all, planned_none}
use Rattle.hv_packet.proofs.blocks.put_blocks.Goals as goal
use Rattle.hv_tree_model.proofs.NodeLemmas.{blocks_counted}

pub loop-index-preserved : goal.loop-index-preserved
loop-index-preserved g c =
    let slice = c.args.slice in
    let blocks = g.B.Blocks.blocks c.args.blocks.now in
    let offsets = c.args.sao.now in
    let index = c.loop-index.index in
    let total = c.div_ceil.result * c.div_ceil-2.result in
    let counted : total ≡ blocks_over slice.width * blocks_over slice.height =
    ap₂ (λ columns rows. columns * rows)
    (c.div_ceil.ensures ∙ blocks_counted slice.width)
    (c.div_ceil-2.ensures ∙ blocks_counted slice.height) in
    let got : slice_get (plans_of blocks) index ≡ Some (plan_of c.block.result.now) =
    slice_get-map plan_of blocks index ∙ ap (option_map plan_of) c.block.ensures in
    let inside : index < length offsets =
    omega (arith, c.requires.offsets, counted, c.loop-index-test.true) in (
      c.put_block.ensures.whole,
      leaves_less g.S.BinSink.stands_for _ _ _ _ _ _ _ c.loop-index.invariant.1
          (planned_first slice.kind slice.references slice.width slice.height (plans_of blocks)
          offsets total index (plan_of c.block.result.now) _ c.loop-index-test.true got
          (slice_get-get_or offsets index _ inside))
          c.put_block.ensures.bins,
    )

pub returns : goal.returns
returns g c =
    let slice = c.args.slice in
    let plans = plans_of (g.B.Blocks.blocks c.args.blocks.now) in
    let offsets = c.args.sao.now in
    let total = c.div_ceil.result * c.div_ceil-2.result in
    let counted : total ≡ blocks_over slice.width * blocks_over slice.height =
    ap₂ (λ columns rows. columns * rows)
    (c.div_ceil.ensures ∙ blocks_counted slice.width)
    (c.div_ceil-2.ensures ∙ blocks_counted slice.height) in
    subst (λ bins. Puts g.S.BinSink.stands_for c.args.sink.now c.loop-index.sink bins)
    (planned_all slice.kind slice.references slice.width slice.height plans offsets total counted)
    (leaves_nothing g.S.BinSink.stands_for _ _ _ _ c.loop-index.invariant.1
    (planned_none slice.kind slice.references slice.width slice.height plans offsets _
    c.loop-index.index (omega (arith, c.loop-index-test.false))))
