use Rattle.std.proofs.Common.{[], ◌∷◌, refl}
use Rattle.hv_residual_model.specs.UnitBins.{InBypass, unit_bin}
use Rattle.hv_residual_model.specs.Binarization.{bypass_at}
use Rattle.hv_residual.proofs.PuttingLemmas.{going_by, going_done}
use Rattle.hv_residual.proofs.BinLemmas.{one_more, closed, full}
use Rattle.hv_residual.proofs.binarization.put_truncated_unary.Goals as goal

pub loop-i-preserved : goal.loop-i-preserved
loop-i-preserved g c = going_by g.B.BinSink.stands_for _ _ _ (unit_bin InBypass _ ∷ []) _ _ _
    c.loop-i.invariant (one_more bypass_at c.args.most c.loop-i.i c.args.value c.loop-i-test.true c.requires)
    c.bypass.ensures

pub returns-then-value-most : goal.returns-then-value-most
returns-then-value-most g c = going_done g.B.BinSink.stands_for _ _ _ _
    (going_by g.B.BinSink.stands_for _ _ _ (unit_bin InBypass _ ∷ []) _ [] _ c.loop-i.invariant
    (closed bypass_at c.args.most c.loop-i.i c.args.value c.loop-i.auto.i-end c.loop-i-test.false
    c.if-value-most.true) c.bypass-then-value-most.ensures) refl

pub returns-else-value-most : goal.returns-else-value-most
returns-else-value-most g c = going_done g.B.BinSink.stands_for _ _ _ _ c.loop-i.invariant
    (full bypass_at c.args.most c.loop-i.i c.args.value c.loop-i.auto.i-end c.loop-i-test.false
    c.if-value-most.false c.requires)
