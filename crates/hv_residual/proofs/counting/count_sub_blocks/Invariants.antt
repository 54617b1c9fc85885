use Rattle.std.proofs.Common.{◌≡◌, ◌≤◌, ◌+◌, ◌*◌, ◌-◌}
use Rattle.hv_residual.specs.Blocks.{block_of}
use Rattle.hv_residual.specs.Counts.{sub_blocks_count}
use Rattle.hv_residual.proofs.counting.count_sub_blocks.Given as goal

abbrev pub invariant-loop-s : goal.invariant-loop-s
invariant-loop-s l = record {
  few : l.s ≤ l.number;
  most : l.total ≤ 1066 * (l.number - l.s);
  value : l.total + sub_blocks_count (block_of l.block) l.levels l.s ≡
      sub_blocks_count (block_of l.block) l.levels l.number;
}

abbrev pub decreases-loop-s : goal.decreases-loop-s
decreases-loop-s l = l.s
