use Rattle.std.proofs.Common.{◌≡◌, ◌+◌, drop}
use Rattle.hv_residual.specs.Levels.{zeros_before}
use Rattle.hv_residual.proofs.gathering.zeros_before.Given as goal

abbrev pub invariant-loop-level : goal.invariant-loop-level
invariant-loop-level l = record {
  place : l.zeros ≡ l.level-index;
  value : zeros_before l.levels ≡ l.zeros + zeros_before (drop l.level-index l.levels);
}
