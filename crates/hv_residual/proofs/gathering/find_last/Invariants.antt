use Rattle.std.proofs.Common.{◌≡◌, ◌≤◌, ◌*◌, ◌^◌, ◌-◌}
use Rattle.hv_residual_model.specs.ResidualBins.{last_below, last_significant}
use Rattle.hv_residual.specs.Blocks.{block_of}
use Rattle.hv_residual.proofs.gathering.find_last.Given as goal

abbrev pub invariant-loop-s : goal.invariant-loop-s
invariant-loop-s l = record {
  most : l.s ≤ 2 ^ (l.block.log2 - 2) * 2 ^ (l.block.log2 - 2);
  last : last_significant (block_of l.block) l.levels ≡ last_below (block_of l.block) l.levels (16 * l.s);
}

abbrev pub decreases-loop-s : goal.decreases-loop-s
decreases-loop-s l = l.s
