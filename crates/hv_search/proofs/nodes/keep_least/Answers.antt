use Rattle.std.proofs.Common.{◌≡◌, ◌+◌, ◌*◌, ◌<◌, ℕ, get_or, min, List, arith, ap, ◌∙◌}
use Rattle.hv_search.specs.Nodes.{sum_16, sum_32, sum_64}
use Rattle.hv_search.proofs.nodes.keep_least.Goals as goal

-- sums of sums, from loads
sixteens : (sums eights found : List ℕ) (at : ℕ) → ((j : ℕ) → j < 64 → get_or eights j 0 ≡ get_or sums (at + j) 0) → ((j : ℕ) → j < 16 → get_or found j 0 ≡ (get_or eights j 0 + get_or eights (16 + j) 0) + (get_or eights (32 + j) 0 + get_or eights (48 + j) 0)) → (j : ℕ) → j < 16 → get_or found j 0 ≡ sum_16 sums at j
sixteens sums eights found at loaded value j h =
    omega (arith, value j h, loaded j (omega arith), loaded (16 + j) (omega arith), loaded (32 + j) (omega arith), loaded (48 + j) (omega arith))

thirty_twos : (sums eights found more : List ℕ) (at : ℕ) → ((j : ℕ) → j < 64 → get_or eights j 0 ≡ get_or sums (at + j) 0) → ((j : ℕ) → j < 16 → get_or found j 0 ≡ (get_or eights j 0 + get_or eights (16 + j) 0) + (get_or eights (32 + j) 0 + get_or eights (48 + j) 0)) → ((k : ℕ) → k < 4 → get_or more k 0 ≡ (get_or found k 0 + get_or found (4 + k) 0) + (get_or found (8 + k) 0 + get_or found (12 + k) 0)) → (k : ℕ) → k < 4 → get_or more k 0 ≡ sum_32 sums at k
thirty_twos sums eights found more at loaded value next k h =
    let s = sixteens sums eights found at loaded value in
    omega (arith, next k h, s k (omega arith), s (4 + k) (omega arith), s (8 + k) (omega arith), s (12 + k) (omega arith))

pub returns-clause-thirty_twos : goal.returns-clause-thirty_twos
returns-clause-thirty_twos c = λ k h.
    c.least_keys-keys-3.ensures k h ∙
    ap (λ v. min (get_or c.args.keys.now.thirty_twos k 0) (v * 512 + c.args.candidate)) (thirty_twos c.args.sums.now c.loaded_64-eights.result c.sixteens_of-sixteens.result c.thirty_twos_of-thirty_twos.result c.args.at c.loaded_64-eights.ensures c.sixteens_of-sixteens.ensures.value c.thirty_twos_of-thirty_twos.ensures.value k h)

pub returns-clause-whole : goal.returns-clause-whole
returns-clause-whole c =
    let t = thirty_twos c.args.sums.now c.loaded_64-eights.result c.sixteens_of-sixteens.result c.thirty_twos_of-thirty_twos.result c.args.at c.loaded_64-eights.ensures c.sixteens_of-sixteens.ensures.value c.thirty_twos_of-thirty_twos.ensures.value in
    let whole : c.whole_of-whole.result ≡ sum_64 c.args.sums.now c.args.at = omega (arith, c.whole_of-whole.ensures.value, t 0 (omega arith), t 1 (omega arith), t 2 (omega arith), t 3 (omega arith)) in
    c.min-keys.ensures ∙ ap (λ v. min c.args.keys.now.whole (v * 512 + c.args.candidate)) whole
