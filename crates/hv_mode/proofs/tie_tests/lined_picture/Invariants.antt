use Rattle.hv_types.specs.Samples.{IsPlane}
use Rattle.hv_mode.proofs.tie_tests.lined_picture.Given as goal

abbrev pub invariant-loop-y : goal.invariant-loop-y
invariant-loop-y l = IsPlane 16 16 l.luma

abbrev pub invariant-loop-x : goal.invariant-loop-x
invariant-loop-x l = IsPlane 16 16 l.luma
