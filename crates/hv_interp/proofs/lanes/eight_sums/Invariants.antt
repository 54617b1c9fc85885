use Rattle.std.proofs.Common.{map, to_z, ◌+◌, ◌*◌}
use mir.Syntax.{w16}
use Rattle.hv_interp.specs.Lanes.{AreSums}
use Rattle.hv_interp.proofs.lanes.eight_sums.Given as goal

abbrev pub invariant-loop-k : goal.invariant-loop-k
invariant-loop-k g l = AreSums l.k l.taps l.samples (λ j k. l.at + j + k * l.step) (map (to_z w16) l.sums)
