-- The halves of a sum over a column, at any side: the sum of the coefficients with even numbers is one of half the side, and
-- mirrored places have the same even half, and the odd half with the other sign.
use Rattle.std.proofs.Common.{ap, ap₂, arith, refl, suc, sym, zero, ℕ, ℤ, ◌%◌, ◌*ℤ◌, ◌*◌, ◌+ℤ◌, ◌+◌, ◌-◌, ◌/◌, ◌<◌, ◌^◌, ◌∙◌, ◌≡◌, ◌≤◌}
use Rattle.std.proofs.lemmas.Int.{ints}
use Rattle.hv_sample_model.specs.Blocks.{sum_of}
use Rattle.std.specs.Prelude.{neg_ℤ, ◌-ℤ◌}
use Rattle.hv_lanes.proofs.HalfLemmas.{Halved, halved, laws, neg_times, twice}
use Rattle.hv_lanes.proofs.SumLemmas.{sum_of_same}
use Rattle.std.proofs.Math.IntN.{*ℤ_comm}
use Rattle.hv_transform.specs.Columns.{column_sum, in_order, odd_sum}
use Rattle.hv_tables.specs.TransformMatrix.{transMatrix}

split : (n : ℕ) (f : ℕ → ℤ) → sum_of (2 * n) f ≡ sum_of n (λ k. f (2 * k)) +ℤ sum_of n (λ k. f (2 * k + 1))
unfolding sum_of
split zero f = refl
split (suc n) f =
    let more : 2 * suc n ≡ suc (suc (2 * n)) = omega arith in
    let last : f (suc (2 * n)) ≡ f (2 * n + 1) = ap f (omega arith) in
    ap (λ m. sum_of m f) more ∙ omega (arith, ints, split n f, last)

negated : (n : ℕ) (f : ℕ → ℤ) → sum_of n (λ k. neg_ℤ (f k)) ≡ neg_ℤ (sum_of n f)
unfolding sum_of
negated zero f = refl
negated (suc n) f = omega (arith, ints, negated n f)

low_side : (m n : ℕ) (whole half : ℕ → ℕ → ℤ) (a : ℕ → ℤ) → Halved m whole half → n < m
    → sum_of (2 * m) (λ k. whole k n *ℤ a k) ≡ sum_of m (λ k. half k n *ℤ a (2 * k)) +ℤ sum_of m (λ k. whole (2 * k + 1) n *ℤ a (2 * k + 1))
low_side m n whole half a h p =
    split m (λ k. whole k n *ℤ a k) ∙
    ap (λ e. e +ℤ sum_of m (λ k. whole (2 * k + 1) n *ℤ a (2 * k + 1)))
    (sum_of_same m (λ k. whole (2 * k) n *ℤ a (2 * k)) (λ k. half k n *ℤ a (2 * k)) (λ k q. ap (λ t. t *ℤ a (2 * k)) (h.even k n q p)))

high_side : (m n : ℕ) (whole half : ℕ → ℕ → ℤ) (a : ℕ → ℤ) → Halved m whole half → n < m
    → sum_of (2 * m) (λ k. whole k (2 * m - 1 - n) *ℤ a k) ≡ sum_of m (λ k. half k n *ℤ a (2 * k)) -ℤ sum_of m (λ k. whole (2 * k + 1) n *ℤ a (2 * k + 1))
high_side m n whole half a h p =
    let o : ℕ → ℤ = λ k. whole (2 * k + 1) n *ℤ a (2 * k + 1) in
    split m (λ k. whole k (2 * m - 1 - n) *ℤ a k) ∙
    ap₂ (λ e o. e +ℤ o)
    (sum_of_same m (λ k. whole (2 * k) (2 * m - 1 - n) *ℤ a (2 * k)) (λ k. half k n *ℤ a (2 * k)) (λ k q. ap (λ t. t *ℤ a (2 * k)) (h.even_mirrored k n q p)))
    (sum_of_same m (λ k. whole (2 * k + 1) (2 * m - 1 - n) *ℤ a (2 * k + 1)) (λ k. neg_ℤ (o k))
    (λ k q. ap (λ t. t *ℤ a (2 * k + 1)) (h.odd_mirrored k n q p) ∙ neg_times (whole (2 * k + 1) n) (a (2 * k + 1)) ∙ ap neg_ℤ (*ℤ_comm (a (2 * k + 1)) (whole (2 * k + 1) n))) ∙ negated m o)

-- the coefficients with odd numbers, and the others, of a column in order
pub in_order_odd : (d k : ℕ) (c : ℕ → ℤ) → in_order (suc d) c (2 * k + 1) ≡ c k
in_order_odd d k c =
    let odd : (2 * k + 1) % 2 ≡ 1 = omega arith in
    let half : (2 * k + 1) / 2 ≡ k = omega arith in
    rw (odd, half) refl

pub in_order_even : (d k : ℕ) (c : ℕ → ℤ) → in_order (suc d) c (2 * k) ≡ in_order d (λ r. c (2 ^ (d + 2) + r)) k
in_order_even d k c =
    let even : 2 * k % 2 ≡ 0 = omega arith in
    let half : 2 * k / 2 ≡ k = omega arith in
    rw (even, half) refl

abbrev others : ℕ → (ℕ → ℤ) → ℕ → ℤ
others d c r = c (2 ^ (d + 2) + r)

odd_half : (d n : ℕ) (c : ℕ → ℤ) → sum_of (2 ^ (d + 2)) (λ k. transMatrix (d + 2 + 1) (2 * k + 1) n *ℤ in_order (suc d) c (2 * k + 1)) ≡ odd_sum (d + 2) c n
odd_half d n c =
    sum_of_same (2 ^ (d + 2)) (λ k. transMatrix (d + 2 + 1) (2 * k + 1) n *ℤ in_order (suc d) c (2 * k + 1)) (λ k. transMatrix (d + 2 + 1) (2 * k + 1) n *ℤ c k)
    (λ k p. ap (λ v. transMatrix (d + 2 + 1) (2 * k + 1) n *ℤ v) (in_order_odd d k c))

even_half : (d n : ℕ) (c : ℕ → ℤ) → sum_of (2 ^ (d + 2)) (λ k. transMatrix (d + 2) k n *ℤ in_order (suc d) c (2 * k)) ≡ column_sum (d + 2) (in_order d (others d c)) n
even_half d n c =
    sum_of_same (2 ^ (d + 2)) (λ k. transMatrix (d + 2) k n *ℤ in_order (suc d) c (2 * k)) (λ k. transMatrix (d + 2) k n *ℤ in_order d (others d c) k)
    (λ k p. ap (λ v. transMatrix (d + 2) k n *ℤ v) (in_order_even d k c))

pub low_half : (d n : ℕ) (c : ℕ → ℤ) → d ≤ 2 → n < 2 ^ (d + 2)
    → column_sum (d + 2) (in_order d (others d c)) n +ℤ odd_sum (d + 2) c n ≡ column_sum (d + 2 + 1) (in_order (suc d) c) n
low_half d n c few p =
    let m : ℕ = 2 ^ (d + 2) in
    let a : ℕ → ℤ = in_order (suc d) c in
    sym (ap (λ s. sum_of s (λ k. transMatrix (d + 2 + 1) k n *ℤ a k)) (twice (d + 2)) ∙
    low_side m n (transMatrix (d + 2 + 1)) (transMatrix (d + 2)) a (halved (d + 2) (laws (d + 2) (omega arith) (omega (arith, few)))) p ∙
    ap₂ (λ e o. e +ℤ o) (even_half d n c) (odd_half d n c))

pub high_half : (d n : ℕ) (c : ℕ → ℤ) → d ≤ 2 → n < 2 ^ (d + 2)
    → column_sum (d + 2) (in_order d (others d c)) n -ℤ odd_sum (d + 2) c n ≡ column_sum (d + 2 + 1) (in_order (suc d) c) (2 * 2 ^ (d + 2) - 1 - n)
high_half d n c few p =
    let m : ℕ = 2 ^ (d + 2) in
    let a : ℕ → ℤ = in_order (suc d) c in
    sym (ap (λ s. sum_of s (λ k. transMatrix (d + 2 + 1) k (2 * m - 1 - n) *ℤ a k)) (twice (d + 2)) ∙
    high_side m n (transMatrix (d + 2 + 1)) (transMatrix (d + 2)) a (halved (d + 2) (laws (d + 2) (omega arith) (omega (arith, few)))) p ∙
    ap₂ (λ e o. e -ℤ o) (even_half d n c) (odd_half d n c))
