use Rattle.std.proofs.Common.{◌*◌, replicate}
use Rattle.hv_filter_model.specs.OffsetDecision.{difference}
use Rattle.hv_sao.specs.Tallies.{Adds, AreAtMost, no_tally}
use Rattle.hv_sao.specs.Decisions.{block_of, edge_key_at}
use Rattle.hv_sao.proofs.AddLemmas.{rows_before}
use Rattle.hv_sao.proofs.tallies.tally_edges.Given as goal

abbrev pub invariant-loop-y : goal.invariant-loop-y
invariant-loop-y l = let b = block_of l.block.deblocked.now l.block.input.now l.block.area in record {
  added : Adds 32 (edge_key_at l.class b) (difference b) (rows_before b.area l.y) (replicate 33 no_tally) l.tallies;
  few : AreAtMost 33 (64 * l.y) l.tallies;
}
