use Rattle.hv_types.specs.Samples.{IsPlane}
use Rattle.hv_sao.proofs.tests.uneven.Given as goal

abbrev pub invariant-loop-x : goal.invariant-loop-x
invariant-loop-x l = IsPlane 4 4 l.plane
