use Rattle.hv_types.specs.Samples.{IsPlane}
use Rattle.hv_sao.proofs.tests.sloped.Given as goal

abbrev pub invariant-loop-x : goal.invariant-loop-x
invariant-loop-x l = IsPlane 24 8 l.plane
