use Rattle.std.proofs.Common.{map, to_z, w32, ◌*◌}
use Rattle.hv_interp.specs.Lanes.{AreTotals}
use Rattle.hv_interp.proofs.totals.eight_totals.Given as goal

abbrev pub invariant-loop-p : goal.invariant-loop-p
invariant-loop-p g l = AreTotals (2 * l.p) l.taps l.numbers l.at l.step (map (to_z w32) l.sums)
