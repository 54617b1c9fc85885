use Rattle.std.proofs.Common.{◌+◌, ℕ, get_or, refl, arith, ap, ◌∙◌}
use Rattle.hv_search.proofs.StoreLemmas.{stored, stored_lane, kept_lane}
use Rattle.hv_search.proofs.nodes.put_keys.Goals as goal

pub returns-clause-placed : goal.returns-clause-placed
returns-clause-placed g c = λ j below.
    let at : ℕ = c.args.at in
    ap (λ l. get_or l (at + j) 0) (stored at (at + g.row.N) g.row.N c.args.list.now c.args.lanes refl c.fits-lanes.0 c.requires) ∙
    stored_lane at g.row.N j c.args.list.now c.args.lanes c.requires c.fits-lanes.0 below

pub returns-clause-before : goal.returns-clause-before
returns-clause-before g c = λ i below.
    let at : ℕ = c.args.at in
    ap (λ l. get_or l i 0) (stored at (at + g.row.N) g.row.N c.args.list.now c.args.lanes refl c.fits-lanes.0 c.requires) ∙
    kept_lane at g.row.N i c.args.list.now c.args.lanes below (omega (arith, c.requires))
