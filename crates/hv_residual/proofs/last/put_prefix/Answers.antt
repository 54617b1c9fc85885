use Rattle.std.proofs.Common.{◌-◌, ◌*◌, [], ◌∷◌, true, false, refl}
use Rattle.hv_residual_model.specs.UnitBins.{unit_bin}
use Rattle.hv_residual_model.specs.ResidualContexts.{last_prefix_at}
use Rattle.hv_residual.specs.Blocks.{block_of}
use Rattle.hv_residual.proofs.PuttingLemmas.{puts_bin, going_by, going_done}
use Rattle.hv_residual.proofs.BinLemmas.{one_more, closed_at, full}
use Rattle.hv_residual.proofs.last.put_prefix.Goals as goal

pub loop-bin-preserved : goal.loop-bin-preserved
loop-bin-preserved g c =
    let q = last_prefix_at c.args.table (block_of c.args.block) in
    going_by g.B.BinSink.stands_for _ _ _ (unit_bin (q c.loop-bin.bin) true ∷ []) _ _ _
    c.loop-bin.invariant
    (one_more q (2 * c.args.block.log2 - 1) c.loop-bin.bin c.args.prefix c.loop-bin-test.true c.requires)
    (puts_bin g.B.BinSink.stands_for _ _ c.last_context.result _ true c.last_context.ensures c.bin.ensures)

pub returns-then-prefix-block : goal.returns-then-prefix-block
returns-then-prefix-block g c =
    let q = last_prefix_at c.args.table (block_of c.args.block) in
    going_done g.B.BinSink.stands_for _ _ _ _
    (going_by g.B.BinSink.stands_for _ _ _ (unit_bin (q c.args.prefix) false ∷ []) _ [] _
    c.loop-bin.invariant
    (closed_at q (2 * c.args.block.log2 - 1) c.loop-bin.bin c.args.prefix c.loop-bin.auto.bin-end
    c.loop-bin-test.false c.if-prefix-block.true)
    (puts_bin g.B.BinSink.stands_for _ _ c.last_context-then-prefix-block.result _ false
    c.last_context-then-prefix-block.ensures c.bin-then-prefix-block.ensures)) refl

pub returns-else-prefix-block : goal.returns-else-prefix-block
returns-else-prefix-block g c =
    let q = last_prefix_at c.args.table (block_of c.args.block) in
    going_done g.B.BinSink.stands_for _ _ _ _ c.loop-bin.invariant
    (full q (2 * c.args.block.log2 - 1) c.loop-bin.bin c.args.prefix c.loop-bin.auto.bin-end
    c.loop-bin-test.false c.if-prefix-block.false c.requires)
