use Rattle.std.proofs.Common.{◌≡◌, ◌+◌, ◌*◌, ◌%◌, ◌^◌, ℕ, length, get_or, min, nat_lt, List, w32, arith, ap, ◌∙◌}
use Rattle.std.specs.Simd.Lanes.{zip2}
use Rattle.std.proofs.lemmas.Simd.{tops_compared, get_or-replicate, length-replicate}
use lib.ListN.{replicate}
use Rattle.hv_search.proofs.LaneSumLemmas.{added, times, length_zip, lesser_lane}
use Rattle.hv_search.proofs.nodes.least_keys.Goals as goal

pub returns : goal.returns
returns g c = λ j h.
    let n : ℕ = g.row.N in
    let add : ℕ → ℕ → ℕ = λ a b. (a + b) % 2 ^ 32 in
    let mul : ℕ → ℕ → ℕ = λ a b. (a * b) % 2 ^ 32 in
    let sums : List ℕ = c.args.sums in
    let scaled : List ℕ = zip2 mul sums (replicate n 512) in
    let keys : List ℕ = zip2 add scaled (replicate n c.args.candidate) in
    let long : length scaled ≡ n = length_zip mul sums (replicate n 512) n c.fits-sums.0 (length-replicate n 512) in
    let number = get_or-replicate n j c.args.candidate 0 h in
    let product = times sums n 512 j c.fits-sums.0 h (omega (arith, c.requires.small j h)) in
    let key : get_or keys j 0 ≡ get_or scaled j 0 + get_or (replicate n c.args.candidate) j 0 = added scaled (replicate n c.args.candidate) n j long (length-replicate n c.args.candidate) h (omega (arith, product, number, c.requires.small j h, c.requires.candidate)) in
    let same : get_or keys j 0 ≡ get_or sums j 0 * 512 + c.args.candidate = omega (arith, key, product, number) in
    rw (tops_compared w32 nat_lt c.args.before keys)
    (lesser_lane c.args.before keys n j c.fits-before.0 (length_zip add scaled (replicate n c.args.candidate) n long (length-replicate n c.args.candidate)) h ∙ ap (min (get_or c.args.before j 0)) same)
