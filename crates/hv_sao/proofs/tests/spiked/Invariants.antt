use Rattle.hv_types.specs.Samples.{IsPlane}
use Rattle.hv_sao.proofs.tests.spiked.Given as goal

abbrev pub invariant-loop-y : goal.invariant-loop-y
invariant-loop-y l = IsPlane 8 8 l.plane
