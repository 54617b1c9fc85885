-- Sums over rows of numbers, from the sums and the differences of numbers that mirror each other.
use Rattle.std.proofs.Common.{add-one, ap, ap₂, arith, negsuc, pos, refl, suc, sym, zero, ℕ, ℤ, ◌*ℤ◌, ◌*◌, ◌+ℤ◌, ◌+◌, ◌-◌, ◌<◌, ◌^◌, ◌∙◌, ◌≡◌, ◌≤◌}
use Rattle.std.proofs.lemmas.Int.{ints}
use Rattle.std.proofs.Math.IntN.{*ℤ_comm, suc_ℤ, suc_ℤ-*ℤ, zero-*ℤ}
use Rattle.std.specs.Prelude.{neg_ℤ, ◌-ℤ◌}
use Rattle.hv_sample_model.specs.Blocks.{sum_of}
use Rattle.hv_lanes.proofs.SumLemmas.{append_sum, sum_of_same}
use Rattle.hv_tables.specs.TransformMatrix.{transMatrix}
use Rattle.hv_forward.specs.Forward.{folded_difference, folded_sum, row_sum}
use Rattle.hv_lanes.proofs.HalfLemmas.{halved, laws, neg_times, twice}
use Rattle.std.specs.Int.RustNames.{unsigned_abs}
use Rattle.std.proofs.Math.Nat.{mul-le-mul_right}
use Rattle.hv_lanes.proofs.WeightLemmas.{light, size_of_products}

next : (z : ℤ) → z +ℤ pos 1 ≡ suc_ℤ z
next (pos n) = ap pos (add-one n)
next (negsuc zero) = refl
next (negsuc (suc n)) = omega (arith, ints)

plus_1 : (z a : ℤ) → (z +ℤ pos 1) *ℤ a ≡ z *ℤ a +ℤ a
plus_1 z a = ap (λ z. z *ℤ a) (next z) ∙ suc_ℤ-*ℤ z a

minus_1 : (z a : ℤ) → (z +ℤ negsuc 0) *ℤ a ≡ z *ℤ a -ℤ a
minus_1 z a =
    let back : z +ℤ negsuc 0 +ℤ pos 1 ≡ z = omega (arith, ints) in
    let more : z *ℤ a ≡ (z +ℤ negsuc 0) *ℤ a +ℤ a = sym (ap (λ z. z *ℤ a) back) ∙ plus_1 (z +ℤ negsuc 0) a in
    omega (arith, ints, more)

add_times : (x y a : ℤ) → (x +ℤ y) *ℤ a ≡ x *ℤ a +ℤ y *ℤ a
add_times (pos zero) y a =
    let same : pos 0 +ℤ y ≡ y = omega (arith, ints) in
    ap (λ z. z *ℤ a) same ∙ omega (arith, ints, zero-*ℤ a)
add_times (pos (suc n)) y a =
    let both : pos (suc n) +ℤ y ≡ pos n +ℤ y +ℤ pos 1 = omega (arith, ints) in
    let one : pos n +ℤ pos 1 ≡ pos (suc n) = ap pos (add-one n) in
    let alone : pos (suc n) *ℤ a ≡ pos n *ℤ a +ℤ a = sym (ap (λ z. z *ℤ a) one) ∙ plus_1 (pos n) a in
    ap (λ z. z *ℤ a) both ∙ plus_1 (pos n +ℤ y) a ∙ omega (arith, ints, add_times (pos n) y a, alone)
add_times (negsuc zero) y a =
    let both : negsuc 0 +ℤ y ≡ y +ℤ negsuc 0 = omega (arith, ints) in
    let alone : negsuc 0 *ℤ a ≡ pos 0 *ℤ a -ℤ a = minus_1 (pos 0) a in
    ap (λ z. z *ℤ a) both ∙ minus_1 y a ∙ omega (arith, ints, alone, zero-*ℤ a)
add_times (negsuc (suc n)) y a =
    let both : negsuc (suc n) +ℤ y ≡ negsuc n +ℤ y +ℤ negsuc 0 = omega (arith, ints) in
    let one : negsuc n +ℤ negsuc 0 ≡ negsuc (suc n) = omega (arith, ints) in
    let alone : negsuc (suc n) *ℤ a ≡ negsuc n *ℤ a -ℤ a = sym (ap (λ z. z *ℤ a) one) ∙ minus_1 (negsuc n) a in
    ap (λ z. z *ℤ a) both ∙ minus_1 (negsuc n +ℤ y) a ∙ omega (arith, ints, add_times (negsuc n) y a, alone)

times_add : (a x y : ℤ) → a *ℤ (x +ℤ y) ≡ a *ℤ x +ℤ a *ℤ y
times_add a x y = *ℤ_comm a (x +ℤ y) ∙ add_times x y a ∙ ap₂ (λ p q. p +ℤ q) (*ℤ_comm x a) (*ℤ_comm y a)

times_sub : (a x y : ℤ) → a *ℤ (x -ℤ y) ≡ a *ℤ x -ℤ a *ℤ y
times_sub a x y =
    let back : x -ℤ y +ℤ y ≡ x = omega (arith, ints) in
    let sum : a *ℤ x ≡ a *ℤ (x -ℤ y) +ℤ a *ℤ y = sym (ap (λ z. a *ℤ z) back) ∙ times_add a (x -ℤ y) y in
    omega (arith, ints, sum)

front : (n : ℕ) (f : ℕ → ℤ) → sum_of (suc n) f ≡ f 0 +ℤ sum_of n (λ k. f (suc k))
unfolding sum_of
front zero f = omega (arith, ints)
front (suc n) f = omega (arith, ints, front n f)

reversed : (n : ℕ) (f : ℕ → ℤ) → sum_of n f ≡ sum_of n (λ k. f (n - 1 - k))
unfolding sum_of
reversed zero f = refl
reversed (suc n) f =
    let last : f (suc n - 1 - 0) ≡ f n = ap f (omega arith) in
    let rest : sum_of n (λ k. f (n - 1 - k)) ≡ sum_of n (λ k. f (suc n - 1 - suc k)) = sum_of_same n (λ k. f (n - 1 - k)) (λ k. f (suc n - 1 - suc k)) (λ k below. ap f (omega (arith, below))) in
    omega (arith, ints, reversed n f, rest, last, front n (λ k. f (suc n - 1 - k)))

both_sums : (n : ℕ) (f g : ℕ → ℤ) → sum_of n f +ℤ sum_of n g ≡ sum_of n (λ k. f k +ℤ g k)
unfolding sum_of
both_sums zero f g = refl
both_sums (suc n) f g = omega (arith, ints, both_sums n f g)

fold_is : (m : ℕ) (f : ℕ → ℤ) → sum_of (2 * m) f ≡ sum_of m (λ x. f x +ℤ f (2 * m - 1 - x))
fold_is m f =
    let two : 2 * m ≡ m + m = omega arith in
    ap (λ n. sum_of n f) two ∙ append_sum m m f ∙
    ap (λ s. sum_of m f +ℤ s)
    (reversed m (λ r. f (m + r)) ∙
    sum_of_same m (λ k. f (m + (m - 1 - k))) (λ k. f (2 * m - 1 - k)) (λ k below. ap f (omega (arith, below)))) ∙
    both_sums m f (λ k. f (2 * m - 1 - k))

-- the frequencies with even numbers, and the others
pub even_frequency : (log2 k : ℕ) (c : ℕ → ℤ) → 2 ≤ log2 → log2 ≤ 4 → k < 2 ^ log2 → row_sum (log2 + 1) c (2 * k) ≡ row_sum log2 (folded_sum (2 ^ log2) c) k
even_frequency log2 k c least greatest inside =
    let m : ℕ = 2 ^ log2 in
    let t : ℕ → ℕ → ℤ = transMatrix (log2 + 1) in
    let h = halved log2 (laws log2 least greatest) in
    ap (λ n. sum_of n (λ x. t (2 * k) x *ℤ c x)) (twice log2) ∙
    fold_is m (λ x. t (2 * k) x *ℤ c x) ∙
    sum_of_same m (λ x. t (2 * k) x *ℤ c x +ℤ t (2 * k) (2 * m - 1 - x) *ℤ c (2 * m - 1 - x)) (λ x. transMatrix log2 k x *ℤ folded_sum m c x)
    (λ x below.
    ap₂ (λ p q. p *ℤ c x +ℤ q *ℤ c (2 * m - 1 - x)) (h.even k x inside below) (h.even_mirrored k x inside below) ∙
    sym (times_add (transMatrix log2 k x) (c x) (c (2 * m - 1 - x))))

pub odd_frequency : (log2 k : ℕ) (c : ℕ → ℤ) → 2 ≤ log2 → log2 ≤ 4 → k < 2 ^ log2 → row_sum (log2 + 1) c (2 * k + 1) ≡ sum_of (2 ^ log2) (λ x. transMatrix (log2 + 1) (2 * k + 1) x *ℤ folded_difference (2 ^ log2) c x)
odd_frequency log2 k c least greatest inside =
    let m : ℕ = 2 ^ log2 in
    let t : ℕ → ℤ = transMatrix (log2 + 1) (2 * k + 1) in
    let h = halved log2 (laws log2 least greatest) in
    ap (λ n. sum_of n (λ x. t x *ℤ c x)) (twice log2) ∙
    fold_is m (λ x. t x *ℤ c x) ∙
    sum_of_same m (λ x. t x *ℤ c x +ℤ t (2 * m - 1 - x) *ℤ c (2 * m - 1 - x)) (λ x. t x *ℤ folded_difference m c x)
    (λ x below.
    ap (λ q. t x *ℤ c x +ℤ q *ℤ c (2 * m - 1 - x)) (h.odd_mirrored k x inside below) ∙
    ap (λ q. t x *ℤ c x +ℤ q) (neg_times (t x) (c (2 * m - 1 - x)) ∙ ap neg_ℤ (*ℤ_comm (c (2 * m - 1 - x)) (t x))) ∙
    sym (times_sub (t x) (c x) (c (2 * m - 1 - x))))

-- how great sums over rows are
pub row_sum_small : (log2 u most : ℕ) (c : ℕ → ℤ) → 2 ≤ log2 → log2 ≤ 5 → u < 2 ^ log2 → ((x : ℕ) → x < 2 ^ log2 → unsigned_abs (c x) ≤ most) → unsigned_abs (row_sum log2 c u) ≤ 64 * 2 ^ log2 * most
row_sum_small log2 u most c least greatest inside h =
    let heavy = size_of_products (2 ^ log2) most (λ x. transMatrix log2 u x) c h in
    let weight = mul-le-mul_right most (light log2 u least greatest inside).0 in
    omega (arith, heavy, weight)
