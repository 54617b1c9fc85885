use Rattle.hv_types.specs.Samples.{IsPlane}
use Rattle.hv_deblock.proofs.tests.with_step.Given as goal

abbrev pub invariant-loop-y : goal.invariant-loop-y
invariant-loop-y l = IsPlane l.width l.height l.plane

abbrev pub invariant-loop-x : goal.invariant-loop-x
invariant-loop-x l = IsPlane l.width l.height l.plane
