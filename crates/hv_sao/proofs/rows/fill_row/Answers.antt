use Rattle.std.proofs.Common.{◌∙◌, ap, arith, List, ℕ, get_or}
use Rattle.hv_sao.proofs.SampleLemmas.{edges_put}
use Rattle.hv_sao.proofs.rows.fill_row.Goals as goal

pub returns-in-Edge : goal.returns-in-Edge
returns-in-Edge c =
    edges_put c.args.component c.in-Edge.class c.args.plane.now c.args.y c.args.from c.args.to c.edge_row-row.result.start
    c.edge_row-row.result.samples.now c.edge_row-row.result.first.now c.edge_row-row.result.second.now
    c.copy_from_slice-in-Edge.new.self c.put_edges.new.out c.in-Edge.is c.requires.order c.edge_row-row.ensures
    (λ i below. ap (λ (xs : List ℕ). get_or xs i 0) c.copy_from_slice-in-Edge.ensures.after
    ∙ c.part_of_row-samples.ensures.samples i (omega arith))
    (omega arith) (omega arith) (λ i below. (c.type_inv.out i).fits) c.put_edges.ensures
