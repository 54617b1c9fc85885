use Rattle.std.proofs.Common.{◌≡◌, ◌≤◌, ◌+◌, ◌*◌, drop}
use Rattle.hv_residual.specs.Counts.{small_count}
use Rattle.hv_residual.proofs.counting.count_small_levels.Given as goal

abbrev pub invariant-loop-level : goal.invariant-loop-level
invariant-loop-level l = record {
  most : l.total ≤ 4 * l.level-index;
  value : l.total + small_count (drop l.level-index l.levels) ≡ small_count l.levels;
}
