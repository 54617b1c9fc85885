use Rattle.std.proofs.Common.{[], ◌∷◌, arith}
use Rattle.hv_residual_model.specs.UnitBins.{InBypass, unit_bin}
use Rattle.hv_residual.proofs.PuttingLemmas.{going_start, going_by, going_done}
use Rattle.hv_residual.proofs.BinLemmas.{first_digit, no_digit}
use Rattle.hv_residual.proofs.binarization.put_fixed_length.Goals as goal

pub loop-left-init : goal.loop-left-init
loop-left-init g c = record { few = omega arith; going = going_start _ _ _ }

pub loop-left-preserved : goal.loop-left-preserved
loop-left-preserved g c = record {
  few = omega arith;
  going = going_by g.B.BinSink.stands_for _ _ _ (unit_bin InBypass _ ∷ []) _ _ _
      c.loop-left.invariant.going (first_digit c.loop-left.left c.args.value c.loop-left-test.true)
      c.bypass.ensures;
}

pub returns : goal.returns
returns g c = going_done g.B.BinSink.stands_for _ _ _ _ c.loop-left.invariant.going
    (no_digit c.loop-left.left c.args.value c.loop-left-test.false)
