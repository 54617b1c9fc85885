use Rattle.std.proofs.Common.{◌≡◌, max, drop}
use Rattle.hv_residual.specs.Counts.{greatest_magnitude}
use Rattle.hv_residual.proofs.counting.greatest_magnitude.Given as goal

abbrev pub invariant-loop-level : goal.invariant-loop-level
invariant-loop-level l =
    max l.greatest (greatest_magnitude (drop l.level-index l.levels)) ≡ greatest_magnitude l.levels
