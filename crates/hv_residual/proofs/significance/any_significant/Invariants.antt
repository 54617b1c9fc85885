use Rattle.std.proofs.Common.{◌≡◌, drop}
use Rattle.hv_plan.specs.Levels.{any_significant}
use Rattle.hv_residual.proofs.significance.any_significant.Given as goal

abbrev pub invariant-loop-level : goal.invariant-loop-level
invariant-loop-level l = any_significant l.levels ≡ any_significant (drop l.level-index l.levels)
