use Rattle.std.proofs.Common.{map, to_z, ◌+◌, ◌*◌}
use mir.Syntax.{w16}
use Rattle.hv_interp.specs.Filters.{paired_place}
use Rattle.hv_interp.specs.Lanes.{AreSums}
use Rattle.hv_interp.proofs.pairs.paired_sums.Given as goal

abbrev pub invariant-loop-p : goal.invariant-loop-p
invariant-loop-p g l = AreSums (2 * l.p) l.taps l.samples (λ j. paired_place (l.at + 2 * j) l.step) (map (to_z w16) l.sums)
