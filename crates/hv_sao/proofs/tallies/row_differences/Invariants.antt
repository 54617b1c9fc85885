use Rattle.std.proofs.Common.{◌≡◌, ◌*◌, ◌≤◌}
use Rattle.std.specs.List.{sum_by}
use Rattle.hv_filter_model.specs.Blocks.{row_locations}
use Rattle.hv_sao.specs.Decisions.{block_of, input_error}
use Rattle.hv_sao.proofs.tallies.row_differences.Given as goal

abbrev pub invariant-loop-x : goal.invariant-loop-x
invariant-loop-x l = let b = block_of l.block.deblocked.now l.block.input.now l.block.area in record {
  value : l.sum ≡ sum_by (input_error b) (row_locations b.area l.y l.x);
  most : l.sum ≤ 65025 * l.x;
}
