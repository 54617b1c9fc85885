use Rattle.std.proofs.Common.{◌+◌, ◌%◌, ◌^◌, ℕ, arith, ◌∙◌}
use Rattle.std.specs.Simd.Lanes.{zip2}
use Rattle.hv_search.proofs.LaneSumLemmas.{added, length_zip}
use Rattle.hv_search.proofs.nodes.sum_of_four.Goals as goal

pub returns : goal.returns
returns g c = λ j h.
    let n : ℕ = g.row.N in
    let add : ℕ → ℕ → ℕ = λ a b. (a + b) % 2 ^ 32 in
    let upper = added c.args.a c.args.b n j c.fits-a.0 c.fits-b.0 h (omega (arith, c.requires.first j h, c.requires.second j h)) in
    let lower = added c.args.c c.args.d n j c.fits-c.0 c.fits-d.0 h (omega (arith, c.requires.third j h, c.requires.fourth j h)) in
    added (zip2 add c.args.a c.args.b) (zip2 add c.args.c c.args.d) n j (length_zip add c.args.a c.args.b n c.fits-a.0 c.fits-b.0) (length_zip add c.args.c c.args.d n c.fits-c.0 c.fits-d.0) h
    (omega (arith, upper, lower, c.requires.first j h, c.requires.second j h, c.requires.third j h, c.requires.fourth j h))
    ∙ omega (arith, upper, lower)
