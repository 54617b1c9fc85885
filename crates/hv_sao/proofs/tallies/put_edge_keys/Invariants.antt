use Rattle.hv_sao.specs.Decisions.{AreEdgeKeys}
use Rattle.hv_sao.proofs.tallies.put_edge_keys.Given as goal

abbrev pub invariant-loop-i : goal.invariant-loop-i
invariant-loop-i l =
    AreEdgeKeys l.i l.row.samples.now l.row.first.now l.row.second.now l.keys
