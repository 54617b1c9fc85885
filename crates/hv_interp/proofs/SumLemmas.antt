-- Sums of taps times values.
use Rattle.std.proofs.Common.{◌≡◌, ℕ, zero, suc, ◌+◌, ◌*◌, ◌<◌, ◌≤◌, List, [], ◌∷◌, ℤ, pos, negsuc, ◌+ℤ◌, ◌*ℤ◌, refl, sym, subst, ⊎_elim, length-take, ap, ap₂, arith, slice_index_or, length, take, take_all, add-one, Fits, w8, w32, to_z, of_z}
use mir.Syntax.{w16}
use mir.Val.{SFits}
use Rattle.std.proofs.lemmas.Int.{to_z-of_z, fits_signed_from_abs, ints, unsigned_abs-mul}
use Rattle.std.specs.Int.{int_shr}
use Rattle.std.specs.Int.RustNames.{unsigned_abs}
use Rattle.std.proofs.lemmas.Bool.{cases_lt}
use Rattle.std.proofs.lemmas.List.{get_or-take, get_or_past}
use Rattle.std.proofs.Math.Nat.{mul-le-mul_right, mul-le-mul_left, add-mul}
use Rattle.hv_lemmas.proofs.SignedLemmas.{size_of_sum}
use Rattle.hv_lanes.proofs.NumberLemmas.{small_number}
use Rattle.hv_inter_model.specs.Interpolation.{weighted}
use Rattle.hv_interp.specs.Filters.{weight_of, placed_sum, placed_sum_of, strided_sum, strided_sum_of, strided_total, strided_total_of}

-- one product more
pub weighted_more : (taps : List ℤ) (k : ℕ) (f : ℕ → ℤ) → k < length taps →
    weighted (take (suc k) taps) f ≡ weighted (take k taps) f +ℤ (slice_index_or taps k (pos 0) *ℤ f k)
weighted_more [] k f below = absurd (omega arith)
weighted_more (tap ∷ taps) zero f below = omega (arith, ints)
weighted_more (tap ∷ taps) (suc k) f below =
    let later = weighted_more taps k (λ i. f (suc i)) (omega arith) in
    let first : ℤ = tap *ℤ f 0 in
    omega (arith, ints, later)

-- values that agree
pub weighted_same : (taps : List ℤ) (f g : ℕ → ℤ) → ((k : ℕ) → k < length taps → f k ≡ g k) →
    weighted taps f ≡ weighted taps g
weighted_same [] f g same = refl
weighted_same (tap ∷ taps) f g same =
    ap₂ (λ a b. (tap *ℤ a) +ℤ b) (same 0 (omega arith))
    (weighted_same taps (λ i. f (suc i)) (λ i. g (suc i)) (λ k below. same (suc k) (omega arith)))

-- how great it is, where no value is greater than `most`
pub size_of_weighted : (taps : List ℤ) (f : ℕ → ℤ) (most : ℕ) → ((k : ℕ) → unsigned_abs (f k) ≤ most) →
    unsigned_abs (weighted taps f) ≤ weight_of taps * most
size_of_weighted [] f most small = omega arith
size_of_weighted (tap ∷ taps) f most small =
    let later = size_of_weighted taps (λ i. f (suc i)) most (λ k. small (suc k)) in
    let rest : ℤ = weighted taps (λ i. f (suc i)) in
    let first : unsigned_abs tap * unsigned_abs (f 0) ≤ unsigned_abs tap * most =
    mul-le-mul_left (unsigned_abs tap) (small 0) in
    let product = unsigned_abs-mul tap (f 0) in
    let joined = size_of_sum (tap *ℤ f 0) rest in
    let spread = add-mul (unsigned_abs tap) (weight_of taps) most in
    omega (arith, first, later, product, joined, spread)

pub placed_sum_of_none : (taps : List ℤ) (samples : List ℕ) (place : ℕ → ℕ) → placed_sum_of 0 taps samples place ≡ pos 0
unfolding placed_sum_of
placed_sum_of_none taps samples place = refl

pub placed_sum_of_more : (k : ℕ) (taps : List ℤ) (samples : List ℕ) (place : ℕ → ℕ) → k < length taps →
    placed_sum_of (k + 1) taps samples place ≡
    placed_sum_of k taps samples place +ℤ (slice_index_or taps k (pos 0) *ℤ pos (slice_index_or samples (place k) 0))
unfolding placed_sum_of
placed_sum_of_more k taps samples place below =
    rw (add-one) (weighted_more taps k (λ k. pos (slice_index_or samples (place k) 0)) below)

pub placed_sum_of_all : (k : ℕ) (taps : List ℤ) (samples : List ℕ) (place : ℕ → ℕ) → length taps ≤ k →
    placed_sum_of k taps samples place ≡ placed_sum taps samples place
unfolding placed_sum_of
placed_sum_of_all k taps samples place all = ap (λ t. placed_sum t samples place) (take_all k taps all)

pub strided_sum_of_none : (taps : List ℤ) (samples : List ℕ) (at step : ℕ) →
    strided_sum_of 0 taps samples at step ≡ pos 0
strided_sum_of_none taps samples at step = placed_sum_of_none taps samples (λ k. at + k * step)

pub strided_sum_of_more : (k : ℕ) (taps : List ℤ) (samples : List ℕ) (at step : ℕ) → k < length taps →
    strided_sum_of (k + 1) taps samples at step ≡
    strided_sum_of k taps samples at step +ℤ
    (slice_index_or taps k (pos 0) *ℤ pos (slice_index_or samples (at + k * step) 0))
strided_sum_of_more k taps samples at step below = placed_sum_of_more k taps samples (λ k. at + k * step) below

pub strided_sum_of_all : (k : ℕ) (taps : List ℤ) (samples : List ℕ) (at step : ℕ) → length taps ≤ k →
    strided_sum_of k taps samples at step ≡ strided_sum taps samples at step
strided_sum_of_all k taps samples at step all = placed_sum_of_all k taps samples (λ k. at + k * step) all

pub strided_total_of_none : (taps : List ℤ) (samples : List ℤ) (at step : ℕ) →
    strided_total_of 0 taps samples at step ≡ pos 0
unfolding strided_total_of
strided_total_of_none taps samples at step = refl

pub strided_total_of_more : (k : ℕ) (taps : List ℤ) (samples : List ℤ) (at step : ℕ) → k < length taps →
    strided_total_of (k + 1) taps samples at step ≡
    strided_total_of k taps samples at step +ℤ
    (slice_index_or taps k (pos 0) *ℤ slice_index_or samples (at + k * step) (pos 0))
unfolding strided_total_of
strided_total_of_more k taps samples at step below =
    rw (add-one) (weighted_more taps k (λ k. slice_index_or samples (at + k * step) (pos 0)) below)

pub strided_total_of_all : (k : ℕ) (taps : List ℤ) (samples : List ℤ) (at step : ℕ) → length taps ≤ k →
    strided_total_of k taps samples at step ≡ strided_total taps samples at step
unfolding strided_total_of
strided_total_of_all k taps samples at step all =
    ap (λ t. strided_total t samples at step) (take_all k taps all)

-- a number that is small passes through the code's own
pub kept_32 : (z : ℤ) (most : ℕ) → unsigned_abs z ≤ most → most < 2147483648 → to_z w32 (of_z w32 z) ≡ z
kept_32 z most small few = to_z-of_z w32 z (fits_signed_from_abs w32 z (omega arith))

-- the sum of taps of weight 112 times bytes
pub size_of_placed_sum : (taps : List ℤ) (samples : List ℕ) (place : ℕ → ℕ) → weight_of taps ≤ 112 →
    ((i : ℕ) → Fits w8 (slice_index_or samples i 0)) → unsigned_abs (placed_sum taps samples place) ≤ 28560
size_of_placed_sum taps samples place light bytes =
    let sum = size_of_weighted taps (λ k. pos (slice_index_or samples (place k) 0)) 255
    (λ k. omega (arith, (bytes (place k)).fits)) in
    let most : weight_of taps * 255 ≤ 112 * 255 = mul-le-mul_right 255 light in
    omega (arith, sum, most)

-- it has 16 bits
pub sum_fits : (taps : List ℤ) (samples : List ℕ) (at step : ℕ) (z : ℤ) → weight_of taps ≤ 112 →
    ((i : ℕ) → Fits w8 (slice_index_or samples i 0)) → z ≡ strided_sum taps samples at step → SFits w16 z
sum_fits taps samples at step z light bytes e =
    rw (e) (fits_signed_from_abs w16 (strided_sum taps samples at step)
    (omega (arith, size_of_placed_sum taps samples (λ k. at + k * step) light bytes)))

weight_of_take : (k : ℕ) (taps : List ℤ) → weight_of (take k taps) ≤ weight_of taps
weight_of_take zero taps = omega arith
weight_of_take (suc k) [] = omega arith
weight_of_take (suc k) (tap ∷ taps) = omega (arith, weight_of_take k taps)

-- the sum of the first of them
pub size_of_placed_sum_of : (k : ℕ) (taps : List ℤ) (samples : List ℕ) (place : ℕ → ℕ) → weight_of taps ≤ 112 →
    ((i : ℕ) → Fits w8 (slice_index_or samples i 0)) → unsigned_abs (placed_sum_of k taps samples place) ≤ 28560
unfolding placed_sum_of
size_of_placed_sum_of k taps samples place light bytes =
    size_of_placed_sum (take k taps) samples place (omega (arith, light, weight_of_take k taps)) bytes

-- a tap is no heavier than all
tap_small : (taps : List ℤ) (k : ℕ) → unsigned_abs (slice_index_or taps k (pos 0)) ≤ weight_of taps
tap_small [] k = omega arith
tap_small (tap ∷ taps) zero = omega arith
tap_small (tap ∷ taps) (suc k) = omega (arith, tap_small taps k)

-- nor are two
pub two_taps_small : (taps : List ℤ) (k : ℕ) →
    unsigned_abs (slice_index_or taps k (pos 0)) + unsigned_abs (slice_index_or taps (k + 1) (pos 0)) ≤ weight_of taps
two_taps_small [] k = omega arith
two_taps_small (tap ∷ taps) zero = omega (arith, tap_small taps 0)
two_taps_small (tap ∷ taps) (suc k) =
    let next : suc k + 1 ≡ suc (k + 1) = omega arith in
    let first : unsigned_abs (slice_index_or (tap ∷ taps) (suc k) (pos 0)) ≡ unsigned_abs (slice_index_or taps k (pos 0)) = refl in
    let second : unsigned_abs (slice_index_or (tap ∷ taps) (suc k + 1) (pos 0)) ≡ unsigned_abs (slice_index_or taps (k + 1) (pos 0)) =
    ap (λ i. unsigned_abs (slice_index_or (tap ∷ taps) i (pos 0))) next in
    omega (arith, first, second, two_taps_small taps k)

pub taps_fit : (taps : List ℤ) → weight_of taps ≤ 112 → (k : ℕ) → SFits w16 (slice_index_or taps k (pos 0))
taps_fit taps light k = fits_signed_from_abs w16 (slice_index_or taps k (pos 0)) (omega (arith, light, tap_small taps k))

-- the sum of the first of taps of weight 112 times numbers of 16 bits
pub size_of_strided_total_of : (k : ℕ) (taps numbers : List ℤ) (at step : ℕ) → weight_of taps ≤ 112 →
    ((i : ℕ) → SFits w16 (slice_index_or numbers i (pos 0))) → unsigned_abs (strided_total_of k taps numbers at step) ≤ 3670016
unfolding strided_total_of
size_of_strided_total_of k taps numbers at step light fits =
    let some : List ℤ = take k taps in
    let sum = size_of_weighted some (λ k. slice_index_or numbers (at + k * step) (pos 0)) 32768
    (λ k. small_number _ (fits (at + k * step))) in
    let few : weight_of some ≤ 112 = omega (arith, light, weight_of_take k taps) in
    let most : weight_of some * 32768 ≤ 112 * 32768 = mul-le-mul_right 32768 few in
    omega (arith, sum, most)

-- sums of taps of weight 112 times bytes have 16 bits, and so have the first of a list that are such sums
pub sums_have_16_bits : (count : ℕ) (taps : List ℤ) (samples : List ℕ) (sums : List ℤ) (place : ℕ → ℕ) (step : ℕ) → weight_of taps ≤ 112 →
    ((i : ℕ) → Fits w8 (slice_index_or samples i 0)) →
    ((k : ℕ) → k < count → slice_index_or sums k (pos 0) ≡ strided_sum taps samples (place k) step) →
    (k : ℕ) → SFits w16 (slice_index_or (take count sums) k (pos 0))
sums_have_16_bits count taps samples sums place step light bytes each k =
    ⊎_elim
    (λ below. subst (SFits w16) (sym (get_or-take count sums k (pos 0) below))
    (sum_fits taps samples (place k) step (slice_index_or sums k (pos 0)) light bytes (each k below)))
    (λ beyond. subst (SFits w16)
    (sym (get_or_past (take count sums) k (pos 0) (omega (arith, beyond, length-take count sums))))
    (record { sfits = omega arith }))
    (cases_lt k count)

pub shifted_small : (z : ℤ) → unsigned_abs z ≤ 33554432 → unsigned_abs (int_shr z 6) ≤ 33554432
shifted_small (pos n) h = omega (arith, h)
shifted_small (negsuc n) h = omega (arith, h)
