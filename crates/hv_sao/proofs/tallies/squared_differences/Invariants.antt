use Rattle.std.proofs.Common.{◌≡◌, ◌*◌, ◌≤◌}
use Rattle.std.specs.List.{sum_by}
use Rattle.hv_sao.specs.Decisions.{block_of, input_error}
use Rattle.hv_sao.proofs.AddLemmas.{rows_before}
use Rattle.hv_sao.proofs.tallies.squared_differences.Given as goal

abbrev pub invariant-loop-y : goal.invariant-loop-y
invariant-loop-y l = let b = block_of l.block.deblocked.now l.block.input.now l.block.area in record {
  value : l.sum ≡ sum_by (input_error b) (rows_before b.area l.y);
  most : l.sum ≤ 4161600 * l.y;
}
