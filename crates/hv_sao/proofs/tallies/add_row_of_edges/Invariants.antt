use Rattle.std.proofs.Common.{◌+◌, ◌-◌, ◌*◌}
use Rattle.hv_filter_model.specs.Blocks.{row_locations}
use Rattle.hv_filter_model.specs.OffsetDecision.{difference}
use Rattle.hv_sao.specs.Tallies.{Adds, AreAtMost}
use Rattle.hv_sao.specs.Decisions.{block_of, edge_key_at}
use Rattle.hv_sao.proofs.tallies.add_row_of_edges.Given as goal

abbrev pub invariant-loop-i : goal.invariant-loop-i
invariant-loop-i l = let b = block_of l.block.deblocked.now l.block.input.now l.block.area in
    let x = l.row.start - l.block.area.left + l.i in record {
      added : Adds 32 (edge_key_at l.class b) (difference b) (row_locations b.area l.y x) l.fn.tallies l.tallies;
      few : AreAtMost 33 (64 * l.y + x) l.tallies;
    }
