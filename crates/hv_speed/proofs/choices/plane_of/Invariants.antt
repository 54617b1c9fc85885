use Rattle.hv_types.specs.Samples.{IsPlane}
use Rattle.hv_speed.proofs.choices.plane_of.Given as goal

abbrev pub invariant-loop-y : goal.invariant-loop-y
invariant-loop-y l = IsPlane l.side l.side l.plane

abbrev pub invariant-loop-x : goal.invariant-loop-x
invariant-loop-x l = IsPlane l.side l.side l.plane
