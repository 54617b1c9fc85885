use Rattle.std.proofs.Common.{[], ◌∷◌, nat_lt, get_or, ap, arith}
use Rattle.hv_residual_model.specs.UnitBins.{UnitQuestion, ByContext, unit_bin}
use Rattle.hv_residual_model.specs.ResidualContexts.{greater1_at}
use Rattle.hv_residual.specs.Blocks.{block_of}
use Rattle.hv_residual.proofs.PuttingLemmas.{puts_same, going_by, going_done}
use Rattle.hv_residual.proofs.FlagLemmas.{first_flag, none_left, no_more}
use Rattle.hv_residual.proofs.flags.put_greater1.Goals as goal

pub loop-m-preserved : goal.loop-m-preserved
loop-m-preserved g c =
    let f = first_flag (block_of c.args.block) c.args.set c.loop-m.left c.args.magnitudes.now c.loop-m.m-index
    c.loop-m.greater1_ctx (omega arith) (omega arith) in
    let p = puts_same g.B.BinSink.stands_for _ _
    (unit_bin (ByContext c.greater1_context.result) (nat_lt 1 (get_or c.args.magnitudes.now c.loop-m.m-index 0)) ∷ [])
    (unit_bin (greater1_at (block_of c.args.block) c.args.set c.loop-m.greater1_ctx) (nat_lt 1 (get_or c.args.magnitudes.now c.loop-m.m-index 0)) ∷ [])
    (ap (λ (q : UnitQuestion). unit_bin q (nat_lt 1 (get_or c.args.magnitudes.now c.loop-m.m-index 0)) ∷ []) c.greater1_context.ensures) c.bin.ensures in
    record {
      few = omega arith;
      going = rw c.next_greater1_ctx-greater1_ctx.ensures.value
          (going_by g.B.BinSink.stands_for _ _ _
          (unit_bin (greater1_at (block_of c.args.block) c.args.set c.loop-m.greater1_ctx) _ ∷ []) _ _ _
          c.loop-m.invariant.going f p);
    }

pub returns-after-loop-m : goal.returns-after-loop-m
returns-after-loop-m g c = going_done g.B.BinSink.stands_for _ _ _ _ c.loop-m.invariant.going
    (none_left (block_of c.args.block) c.args.set c.loop-m.left c.args.magnitudes.now c.loop-m.m-index
    c.loop-m.greater1_ctx c.loop-m-test.false)

pub returns-then-left-eq0 : goal.returns-then-left-eq0
returns-then-left-eq0 g c = going_done g.B.BinSink.stands_for _ _ _ _ c.loop-m.invariant.going
    (no_more (block_of c.args.block) c.args.set c.loop-m.left _ c.loop-m.greater1_ctx
    c.if-left-eq0.true)
