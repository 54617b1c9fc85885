use Rattle.std.proofs.Common.{[], ◌∷◌}
use Rattle.hv_residual_model.specs.UnitBins.{InBypass, unit_bin}
use Rattle.hv_residual.proofs.PuttingLemmas.{going_by, going_done}
use Rattle.hv_residual.proofs.FlagLemmas.{first_sign, no_sign}
use Rattle.hv_residual.proofs.flags.put_signs.Goals as goal

pub loop-sign-preserved : goal.loop-sign-preserved
loop-sign-preserved g c = going_by g.B.BinSink.stands_for _ _ _ (unit_bin InBypass _ ∷ []) _ _ _
    c.loop-sign.invariant (first_sign c.args.signs.now c.loop-sign.sign-index c.loop-sign-test.true)
    c.bypass.ensures

pub returns : goal.returns
returns g c = going_done g.B.BinSink.stands_for _ _ _ _ c.loop-sign.invariant
    (no_sign c.args.signs.now c.loop-sign.sign-index c.loop-sign-test.false)
