use Rattle.std.proofs.Common.{◌≡◌, ◌≤◌, ◌+◌, ◌-◌, ◌*◌, ◌/◌, ap, ap₂, ◌∙◌, arith}
use Rattle.std.proofs.Common.{length, map, take, drop, List, ℕ}
use Rattle.hv_intra.specs.Lines.{edge_of}
use Rattle.hv_intra.proofs.DcLemmas.{edges_written, edges_long, upper_row}
use Rattle.hv_intra.proofs.SideLemmas.{side_some}
use Rattle.hv_intra.proofs.dc.fill_upper_row.Goals as goal

pub returns : goal.returns
returns g c =
    let n = g.row.N in
    let m = 3 * n + 1 - (2 * n + 1) in
    let s = c.args.neighbours in
    let value = c.args.value in
    let line = s.line.now in
    let more = 3 * value + 2 in
    let row = c.args.row.now in
    let ys : List ℕ = take n (take m (drop (2 * n + 1) line)) in
    let lanes : c.edges.result ≡ map (edge_of more) ys =
    c.edges.ensures ∙ ap (λ more. map (edge_of more) ys) c.weighted.ensures in
    let inside : 2 * n + 1 + n ≤ length line = omega (arith, s.count, c.requires.side) in
    let long =
    edges_long n m (2 * n + 1) more row line c.edges.result (omega arith) inside
    c.requires.room lanes in
    let written =
    edges_written n m (2 * n + 1) more row line c.edges.result (omega arith) inside
    c.requires.room lanes in
    let at : c.corner.result ≡ _ =
    c.corner.ensures ∙ ap₂ (λ a b. (a + 2 * value + b + 2) / 4) c.left.ensures c.above.ensures in
    let four = side_some s.side.log2 s.side.least s.side.most in
    upper_row s.side.log2 n value c.corner.result line _ (omega (arith, c.requires.side, four))
    c.requires.side long at written
