-- Predictions at all fractions from sums along rows (8.5.3.3.3). A fraction of 0 has one tap, which
-- is 64, so both filters give what one or none does.
use Rattle.std.proofs.Common.{◌≡◌, ℕ, zero, suc, ◌+◌, ◌*◌, ◌/◌, ◌%◌, ◌<◌, true, List, [], ◌∷◌, length, slice_index_or, ℤ, pos, negsuc, ◌+ℤ◌, ◌-ℤ◌, ◌*ℤ◌, refl, sym, ap, ap₂, ◌∙◌, arith, subst, drop, length-drop, take, ◌≤◌, Fits, w8}
use Rattle.std.proofs.lemmas.Int.{ints}
use Rattle.std.proofs.lemmas.List.{get_or-take, get_or-drop, length-take-le}
use Rattle.std.specs.Int.RustNames.{unsigned_abs}
use Rattle.std.proofs.Math.IntN.{zero-*ℤ, suc_ℤ-*ℤ, pred_ℤ-*ℤ}
use Rattle.std.specs.Int.{int_shr}
use Rattle.hv_lemmas.proofs.ComparisonLemmas.{other_than_0}
use Rattle.hv_types.specs.Samples.{Plane}
use Rattle.hv_inter_model.specs.Interpolation.{fL, weighted, weighted_sample, predSampleLX}
use Rattle.hv_interp.specs.Windows.{Shows, reference_from}
use Rattle.hv_interp.specs.Filters.{HasFirst, filtered_twice, interpolated, place_of, strided_sum, strided_total, weight_of}
use Rattle.hv_interp.specs.Fractions.{ShowsFractions}
use Rattle.hv_interp.proofs.SumLemmas.{weighted_same, size_of_placed_sum}
use Rattle.hv_interp.proofs.EightSumLemmas.{of_lanes}
use Rattle.hv_interp.specs.Lanes.{lane}
use Rattle.hv_interp.proofs.PlaceLemmas.{place_is}
use Rattle.hv_interp.proofs.PredictionLemmas.{predSampleLX_is}

both_64 : (a b : ℤ) → (a *ℤ pos 64) +ℤ (b *ℤ pos 64) ≡ (a +ℤ b) *ℤ pos 64
both_64 a b = omega (arith, ints)

less_64 : (a b : ℤ) → (a *ℤ pos 64) -ℤ (b *ℤ pos 64) ≡ (a -ℤ b) *ℤ pos 64
less_64 a b = omega (arith, ints)

none_64 : (z : ℤ) → pos 0 *ℤ (z *ℤ pos 64) ≡ (pos 0 *ℤ z) *ℤ pos 64
none_64 z = zero-*ℤ (z *ℤ pos 64) ∙ sym (ap (λ a. a *ℤ pos 64) (zero-*ℤ z))

times_64 : (t z : ℤ) → t *ℤ (z *ℤ pos 64) ≡ (t *ℤ z) *ℤ pos 64
times_64 (pos zero) z = none_64 z
times_64 (pos (suc n)) z =
    suc_ℤ-*ℤ (pos n) (z *ℤ pos 64) ∙ ap (λ a. a +ℤ (z *ℤ pos 64)) (times_64 (pos n) z) ∙
    both_64 (pos n *ℤ z) z ∙ sym (ap (λ a. a *ℤ pos 64) (suc_ℤ-*ℤ (pos n) z))
times_64 (negsuc zero) z =
    pred_ℤ-*ℤ (pos 0) (z *ℤ pos 64) ∙ ap (λ a. a -ℤ (z *ℤ pos 64)) (none_64 z) ∙
    less_64 (pos 0 *ℤ z) z ∙ sym (ap (λ a. a *ℤ pos 64) (pred_ℤ-*ℤ (pos 0) z))
times_64 (negsuc (suc n)) z =
    pred_ℤ-*ℤ (negsuc n) (z *ℤ pos 64) ∙ ap (λ a. a -ℤ (z *ℤ pos 64)) (times_64 (negsuc n) z) ∙
    less_64 (negsuc n *ℤ z) z ∙ sym (ap (λ a. a *ℤ pos 64) (pred_ℤ-*ℤ (negsuc n) z))

weighted_64 : (taps : List ℤ) (f : ℕ → ℤ) → weighted taps (λ k. f k *ℤ pos 64) ≡ weighted taps f *ℤ pos 64
weighted_64 [] f = refl
weighted_64 (tap ∷ taps) f =
    ap₂ (λ a b. a +ℤ b) (times_64 tap (f 0)) (weighted_64 taps (λ k. f (suc k))) ∙
    both_64 (tap *ℤ f 0) (weighted taps (λ k. f (suc k)))

one_tap : (f : ℕ → ℤ) → weighted (fL 0) f ≡ f 3 *ℤ pos 64
one_tap f = omega (arith, ints)

below_0 : (n : ℕ) → negsuc n *ℤ pos 64 ≡ negsuc (64 * n + 63)
below_0 n = omega (arith, ints)

shifted_64 : (z : ℤ) → int_shr (z *ℤ pos 64) 6 ≡ z
shifted_64 (pos n) = let e : n * 64 / 64 ≡ n = omega arith in ap pos e
shifted_64 (negsuc n) =
    let e : (64 * n + 63) / 64 ≡ n = omega arith in
    ap (λ z. int_shr z 6) (below_0 n) ∙ ap negsuc e

-- both filters at any fractions
both_filters : (right below x y : ℕ) (A : ℕ → ℕ → ℤ) →
    int_shr (weighted (fL below) (λ j. weighted (fL right) (λ i. A (x + i) (y + j)))) 6 ≡
    interpolated 3 right below (fL right) (fL below) A x y
both_filters zero zero x y A =
    ap (λ z. int_shr z 6) (one_tap (λ j. weighted (fL 0) (λ i. A (x + i) (y + j)))) ∙
    shifted_64 (weighted (fL 0) (λ i. A (x + i) (y + 3))) ∙ one_tap (λ i. A (x + i) (y + 3))
both_filters zero (suc b) x y A =
    rw (other_than_0 (suc b) (omega arith))
    (ap (λ z. int_shr z 6)
    (weighted_same (fL (suc b)) (λ j. weighted (fL 0) (λ i. A (x + i) (y + j))) (λ j. A (x + 3) (y + j) *ℤ pos 64)
    (λ j low. one_tap (λ i. A (x + i) (y + j))) ∙
    weighted_64 (fL (suc b)) (λ j. A (x + 3) (y + j))) ∙
    shifted_64 (weighted (fL (suc b)) (λ j. A (x + 3) (y + j))))
both_filters (suc a) zero x y A =
    rw (other_than_0 (suc a) (omega arith))
    (ap (λ z. int_shr z 6) (one_tap (λ j. weighted (fL (suc a)) (λ i. A (x + i) (y + j)))) ∙
    shifted_64 (weighted (fL (suc a)) (λ i. A (x + i) (y + 3))))
both_filters (suc a) (suc b) x y A =
    rw (other_than_0 (suc a) (omega arith), other_than_0 (suc b) (omega arith)) refl

-- with no fraction of rows a sum of the fourth row on is what the filter of columns gives
pub rounded_is : (sums : List ℤ) (below k : ℕ) → below ≡ 0 → k < 7776 →
    weighted_sample (lane (take 7776 (drop 288 sums)) k) ≡ weighted_sample (int_shr (strided_total (fL below) sums k 96) 6)
rounded_is sums below k none inside =
    let S : ℕ → ℤ = λ j. slice_index_or sums (k + j * 96) (pos 0) in
    ap weighted_sample (get_or-take 7776 (drop 288 sums) k (pos 0) inside ∙ get_or-drop 288 sums k (pos 0) ∙
    ap (λ at. slice_index_or sums at (pos 0)) (omega arith)) ∙
    sym (ap (λ b. weighted_sample (int_shr (strided_total (fL b) sums k 96) 6)) none ∙
    ap weighted_sample (ap (λ z. int_shr z 6) (one_tap S) ∙ shifted_64 (S 3)))

-- sums along rows are small
pub sums_small : (taps : List ℤ) (w : List ℕ) (sums : List ℤ) → weight_of taps ≤ 112 → ((i : ℕ) → Fits w8 (slice_index_or w i 0)) →
    length sums ≡ 8448 → HasFirst (pos 0) 8448 (λ k. strided_sum taps w (place_of 96 104 k) 1) sums →
    (k : ℕ) → unsigned_abs (lane sums k) ≤ 28560
sums_small taps w sums light bytes long has =
    of_lanes 8448 (λ z. unsigned_abs z ≤ 28560) sums (omega arith) long
    (λ k below. subst (λ z. unsigned_abs z ≤ 28560) (sym (has k below))
    (size_of_placed_sum taps w (λ i. place_of 96 104 k + i * 1) light bytes))

-- and so are those of the fourth row on
pub part_small : (sums : List ℤ) → length sums ≡ 8448 → ((k : ℕ) → unsigned_abs (lane sums k) ≤ 28560) →
    (k : ℕ) → unsigned_abs (lane (take 7776 (drop 288 sums)) k) ≤ 28560
part_small sums long small =
    of_lanes 7776 (λ z. unsigned_abs z ≤ 28560) (take 7776 (drop 288 sums)) (omega arith)
    (length-take-le 7776 (drop 288 sums) (omega (arith, length-drop 288 sums, long)))
    (λ k below. subst (λ z. unsigned_abs z ≤ 28560)
    (sym (get_or-take 7776 (drop 288 sums) k (pos 0) below ∙ get_or-drop 288 sums k (pos 0))) (small (288 + k)))

-- there are eight taps
pub eight_taps : (n : ℕ) → n < 4 → length (fL n) ≡ 8
eight_taps zero h = refl
eight_taps (suc zero) h = refl
eight_taps (suc (suc zero)) h = refl
eight_taps (suc (suc (suc zero))) h = refl
eight_taps (suc (suc (suc (suc n)))) h = absurd (omega (arith, h))

begins : (X : ℤ) → X ≡ pos 0 +ℤ (X +ℤ pos 3) -ℤ pos 3
begins X = omega (arith, ints)

ahead : (X : ℤ) (i : ℕ) → pos (0 + i) +ℤ (X +ℤ pos 3) ≡ X +ℤ pos 3 +ℤ pos i
ahead X i = omega (arith, ints)

-- the sample in column i of row j
fraction_is : (p : Plane) (X Y : ℤ) (w : List ℕ) (right below i j : ℕ) → right < 4 → below < 4 → i < 96 → j < 81 →
    Shows p X Y 103 88 w 104 →
    filtered_twice (fL right) (fL below) w 104 96 (j * 96 + i) ≡
    weighted_sample (predSampleLX true p (X +ℤ pos 3 +ℤ pos i) (Y +ℤ pos 3 +ℤ pos j) right below)
fraction_is p X Y w right below i j r b across down shows =
    ap (λ z. weighted_sample (int_shr z 6))
    (weighted_same (fL below)
    (λ n. weighted (fL right) (λ m. pos (slice_index_or w (place_of 96 104 (j * 96 + i) + n * 104 + m * 1) 0)))
    (λ n. weighted (fL right) (λ m. reference_from p X Y (i + m) (j + n)))
    (λ n low. weighted_same (fL right)
    (λ m. pos (slice_index_or w (place_of 96 104 (j * 96 + i) + n * 104 + m * 1) 0))
    (λ m. reference_from p X Y (i + m) (j + n))
    (λ m near.
    ap (λ at. pos (slice_index_or w at 0)) (omega (arith, place_is 96 104 j i across)) ∙
    shows.each (i + m) (j + n) (omega (arith, near, across, eight_taps right r)) (omega (arith, low, down, eight_taps below b))))) ∙
    ap weighted_sample
    (both_filters right below i j (reference_from p X Y) ∙
    ap₂ (λ x y. interpolated 3 right below (fL right) (fL below) (reference_from p x y) i j) (begins X) (begins Y) ∙
    predSampleLX_is true p 0 0 i j right below (X +ℤ pos 3) (Y +ℤ pos 3) ∙
    ap₂ (λ x y. predSampleLX true p x y right below) (ahead X i) (ahead Y j))

-- all of them
pub fractions_shown : (p : Plane) (X Y : ℤ) (w out : List ℕ) →
    HasFirst 0 124416 (λ k. filtered_twice (fL (k / 31104)) (fL (k % 31104 / 7776)) w 104 96 (k % 7776)) out →
    Shows p X Y 103 88 w 104 → ShowsFractions p (X +ℤ pos 3) (Y +ℤ pos 3) out
fractions_shown p X Y w out has shows right below i j r b across down =
    let at : ℕ = 31104 * right + 7776 * below + (j * 96 + i) in
    let first : at / 31104 ≡ right = omega (arith, r, b, across, down) in
    let second : at % 31104 / 7776 ≡ below = omega (arith, r, b, across, down) in
    let rest : at % 7776 ≡ j * 96 + i = omega (arith, r, b, across, down) in
    has at (omega (arith, r, b, across, down)) ∙
    ap₂ (λ m n. filtered_twice (fL m) (fL n) w 104 96 (at % 7776)) first second ∙
    ap (filtered_twice (fL right) (fL below) w 104 96) rest ∙
    fraction_is p X Y w right below i j r b across down shows
