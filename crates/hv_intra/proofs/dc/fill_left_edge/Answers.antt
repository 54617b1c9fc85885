use Rattle.std.proofs.Common.{◌≡◌, ◌+◌, ◌-◌, ◌*◌, ap, ◌∙◌, arith, map, take, drop, List, ℕ}
use Rattle.hv_intra.specs.Lines.{edge_of}
use Rattle.hv_intra.proofs.DcLemmas.{edges_written}
use Rattle.hv_intra.proofs.dc.fill_left_edge.Goals as goal

pub returns : goal.returns
returns g c =
    let n = g.row.N in
    let s = c.args.neighbours in
    let value = c.args.value in
    let ys : List ℕ = take n (take (2 * n - n) (drop n s.line.now)) in
    let lanes : c.edges.result ≡ map (edge_of (3 * value + 2)) ys =
    c.edges.ensures ∙ ap (λ more. map (edge_of more) ys) c.weighted.ensures in
    edges_written n (2 * n - n) n (3 * value + 2) c.args.out.now s.line.now c.edges.result
    (omega arith) (omega (arith, s.count, c.requires)) (omega arith) lanes
