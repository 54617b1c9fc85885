use Rattle.std.proofs.Common.{◌+◌, ℕ, take, drop, refl, arith, ap, ◌∙◌}
use Rattle.hv_search.proofs.StoreLemmas.{stored, stored_before, stored_joined, stored_at}
use Rattle.hv_search.proofs.nodes.store.Goals as goal

pub returns-clause-placed : goal.returns-clause-placed
returns-clause-placed g c =
    let at : ℕ = c.args.at in
    ap (λ zs. take g.row.N (drop at zs)) (stored at (at + g.row.N) g.row.N c.args.samples.now c.args.lanes refl c.fits-lanes.0 c.requires) ∙ stored_at at g.row.N c.args.samples.now c.args.lanes c.requires c.fits-lanes.0

pub returns-clause-before : goal.returns-clause-before
returns-clause-before g c = λ i n h.
    let at : ℕ = c.args.at in
    ap (λ zs. take n (drop i zs)) (stored at (at + g.row.N) g.row.N c.args.samples.now c.args.lanes refl c.fits-lanes.0 c.requires) ∙ stored_before at g.row.N i n c.args.samples.now c.args.lanes h (omega (arith, c.requires))

pub returns-clause-joined : goal.returns-clause-joined
returns-clause-joined g c = λ i n h.
    let at : ℕ = c.args.at in
    ap (λ zs. take (n + g.row.N) (drop i zs)) (stored at (at + g.row.N) g.row.N c.args.samples.now c.args.lanes refl c.fits-lanes.0 c.requires) ∙ stored_joined at g.row.N i n c.args.samples.now c.args.lanes h c.requires c.fits-lanes.0
