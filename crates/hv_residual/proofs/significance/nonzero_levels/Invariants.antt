use Rattle.std.proofs.Common.{◌≡◌, ◌≤◌, ◌++◌, length, take, drop}
use Rattle.hv_residual_model.specs.ResidualBins.{magnitudes, signs}
use Rattle.hv_residual.proofs.significance.nonzero_levels.Given as goal

abbrev pub invariant-loop-level : goal.invariant-loop-level
invariant-loop-level l = record {
  room : length l.all ≡ 16;
  room_of_signs : length l.negative ≡ 16;
  few : l.count ≤ l.level-index;
  magnitudes : take l.count l.all ++ magnitudes (drop l.level-index l.levels) ≡ magnitudes l.levels;
  signs : take l.count l.negative ++ signs (drop l.level-index l.levels) ≡ signs l.levels;
}
