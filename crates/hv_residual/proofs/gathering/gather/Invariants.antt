use Rattle.std.proofs.Common.{◌≡◌, ◌++◌, ◌-◌, take, length}
use Rattle.hv_residual_model.specs.ResidualBins.{downwards}
use Rattle.hv_residual.specs.Blocks.{block_of}
use Rattle.hv_residual.proofs.GatheringLemmas.{level_of}
use Rattle.hv_residual.proofs.gathering.gather.Given as goal

abbrev pub invariant-loop-k : goal.invariant-loop-k
invariant-loop-k l = record {
  room : length l.all ≡ 16;
  levels : take l.k l.all ++ downwards (16 - l.k) (level_of (block_of l.block) l.levels l.s) ≡
      downwards 16 (level_of (block_of l.block) l.levels l.s);
}
