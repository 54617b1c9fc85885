use Rattle.std.proofs.Common.{ℕ, List, length}
use Rattle.hv_sao.specs.Rows.{BeginsPart, edge_sample}
use Rattle.hv_sao.proofs.rows.put_edges_between.Given as goal

abbrev pub invariant-loop-i : goal.invariant-loop-i
invariant-loop-i l = (base : List ℕ) →
    BeginsPart l.lead l.from (length l.row.samples.now) (edge_sample l.component l.row.samples.now l.row.first.now l.row.second.now) base l.fn.out →
    BeginsPart l.lead l.i (length l.row.samples.now) (edge_sample l.component l.row.samples.now l.row.first.now l.row.second.now) base l.out
