use Rattle.std.proofs.Common.{◌≡◌, drop}
use Rattle.hv_recon.specs.Levels.{is_coded}
use Rattle.hv_recon.proofs.transform_block.is_coded.Given as goal

abbrev pub invariant-loop-level : goal.invariant-loop-level
invariant-loop-level l = is_coded l.levels ≡ is_coded (drop l.level-index l.levels)
