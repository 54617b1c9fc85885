use Rattle.std.proofs.Common.{◌+◌, ◌*◌}
use Rattle.hv_filter_model.specs.Blocks.{row_locations}
use Rattle.hv_filter_model.specs.OffsetDecision.{difference}
use Rattle.hv_sao.specs.Tallies.{Adds, AreAtMost}
use Rattle.hv_sao.specs.Decisions.{block_of, value_key}
use Rattle.hv_sao.proofs.tallies.add_row_of_values.Given as goal

abbrev pub invariant-loop-x : goal.invariant-loop-x
invariant-loop-x l = let b = block_of l.block.deblocked.now l.block.input.now l.block.area in record {
  added : Adds 256 (value_key b) (difference b) (row_locations b.area l.y l.x) l.fn.tallies l.tallies;
  few : AreAtMost 256 (64 * l.y + l.x) l.tallies;
}
