-- How many bins levels of magnitudes up to 3 have (7.3.8.11): their magnitudes and signs.
use Rattle.std.proofs.Common.{◌≡◌, ◌≤◌, ◌<◌, ◌+◌, ℕ, zero, suc, Bool, true, false, cond, nat_lt, min, max, List, [], ◌∷◌, ℤ, pos, negsuc, length, drop, get_or, arith, refl, drop_of_length-le}
use Rattle.std.specs.Int.RustNames.{unsigned_abs}
use Rattle.hv_residual_model.specs.Binarization.{truncated_unary_bins, remaining_bins}
use Rattle.hv_residual_model.specs.ResidualSyntax.{any}
use Rattle.hv_residual_model.specs.ResidualBins.{magnitudes, greater1_values, first_above_1, all_remaining_bins}
use Rattle.hv_plan.specs.Levels.{is_significant}
use Rattle.hv_residual.specs.Counts.{level_count, greatest_magnitude, small_count}
use Rattle.hv_residual.proofs.FlagLemmas.{split_at}
use Rattle.hv_residual.proofs.RemainingLemmas.{here}

-- ---- magnitudes of 1 to 3
Small : List ℕ → Type 0
Small [] = Unit {0}
Small (m ∷ ms) = (1 ≤ m) × (m ≤ 3) × Small ms

added : List ℕ → ℕ
added [] = 0
added (m ∷ ms) = m + added ms

-- how many bins are left of them, from cRiceParam 0
left_count : ℕ → Bool → Bool → List ℕ → ℕ
left_count left first g ms = length (all_remaining_bins (here left first g ms) ms 0)

-- behind a greater1 flag that is 1
later_count : (left : ℕ) (g : Bool) (ms : List ℕ) → Small ms →
    min left (length ms) + left_count left false g ms ≡ added ms
unfolding Small added left_count remaining_bins truncated_unary_bins
later_count zero g [] h = refl
later_count (suc k) g [] h = omega arith
later_count left g (zero ∷ ms) h = absurd (omega (arith, h.0))
later_count zero g (suc zero ∷ ms) h =
    let e : left_count zero false g (1 ∷ ms) ≡ suc (left_count zero false g ms) = refl in
    omega (arith, e, later_count zero g ms h.2)
later_count zero g (suc (suc zero) ∷ ms) h =
    let e : left_count zero false g (2 ∷ ms) ≡ suc (suc (left_count zero false g ms)) = refl in
    omega (arith, e, later_count zero g ms h.2)
later_count zero g (suc (suc (suc zero)) ∷ ms) h =
    let e : left_count zero false g (3 ∷ ms) ≡ suc (suc (suc (left_count zero false g ms))) = refl in
    omega (arith, e, later_count zero g ms h.2)
later_count (suc k) g (suc zero ∷ ms) h =
    let e : left_count (suc k) false g (1 ∷ ms) ≡ left_count k false g ms = refl in
    omega (arith, e, later_count k g ms h.2)
later_count (suc k) g (suc (suc zero) ∷ ms) h =
    let e : left_count (suc k) false g (2 ∷ ms) ≡ suc (left_count k false g ms) = refl in
    omega (arith, e, later_count k g ms h.2)
later_count (suc k) g (suc (suc (suc zero)) ∷ ms) h =
    let e : left_count (suc k) false g (3 ∷ ms) ≡ suc (suc (left_count k false g ms)) = refl in
    omega (arith, e, later_count k g ms h.2)
later_count left g (suc (suc (suc (suc m))) ∷ ms) h = absurd (omega (arith, h.1))

-- before one, from the greater2 flag
first_count : (left : ℕ) (g : Bool) (ms : List ℕ) → Small ms → g ≡ nat_lt 2 (first_above_1 left ms) →
    min left (length ms) + (cond (any (greater1_values left ms)) 1 0 + left_count left true g ms) ≡
    added ms
unfolding Small added left_count remaining_bins truncated_unary_bins
first_count zero g ms h e =
    let same : left_count zero true g ms ≡ left_count zero false g ms = refl in
    omega (arith, same, later_count zero g ms h)
first_count (suc k) g [] h e = omega arith
first_count (suc k) g (zero ∷ ms) h e = absurd (omega (arith, h.0))
first_count (suc k) g (suc zero ∷ ms) h e =
    let f : left_count (suc k) true g (1 ∷ ms) ≡ left_count k true g ms = refl in
    let a : cond (any (greater1_values (suc k) (1 ∷ ms))) 1 0 ≡
    cond {A = ℕ} (any (greater1_values k ms)) 1 0 = refl in
    omega (arith, f, a, first_count k g ms h.2 e)
first_count (suc k) true (suc (suc zero) ∷ ms) h e = absurd cc
first_count (suc k) false (suc (suc zero) ∷ ms) h e =
    let f : left_count (suc k) true false (2 ∷ ms) ≡ left_count k false false ms = refl in
    omega (arith, f, later_count k false ms h.2)
first_count (suc k) false (suc (suc (suc zero)) ∷ ms) h e = absurd cc
first_count (suc k) true (suc (suc (suc zero)) ∷ ms) h e =
    let f : left_count (suc k) true true (3 ∷ ms) ≡ suc (left_count k false true ms) = refl in
    omega (arith, f, later_count k true ms h.2)
first_count (suc k) g (suc (suc (suc (suc m))) ∷ ms) h e = absurd (omega (arith, h.1))

-- ---- levels
small_magnitudes : (levels : List ℤ) → greatest_magnitude levels ≤ 3 → Small (magnitudes levels)
unfolding greatest_magnitude Small
small_magnitudes [] h = tt
small_magnitudes (pos zero ∷ levels) h = small_magnitudes levels (omega (arith, h))
small_magnitudes (pos (suc n) ∷ levels) h =
    (omega arith, omega (arith, h), small_magnitudes levels (omega (arith, h)))
small_magnitudes (negsuc n ∷ levels) h =
    (omega arith, omega (arith, h), small_magnitudes levels (omega (arith, h)))

magnitude_sum : (levels : List ℤ) →
    small_count levels ≡ added (magnitudes levels) + length (magnitudes levels)
unfolding small_count added
magnitude_sum [] = refl
magnitude_sum (pos zero ∷ levels) = omega (arith, magnitude_sum levels)
magnitude_sum (pos (suc n) ∷ levels) = omega (arith, magnitude_sum levels)
magnitude_sum (negsuc n ∷ levels) = omega (arith, magnitude_sum levels)

pub small_level_count : (levels : List ℤ) → greatest_magnitude levels ≤ 3 →
    small_count levels ≡ level_count levels
unfolding level_count left_count
small_level_count levels h =
    let m : List ℕ = magnitudes levels in
    let f = first_count 8 (nat_lt 2 (first_above_1 8 m)) m (small_magnitudes levels h) refl in
    omega (arith, f, magnitude_sum levels)

pub one_small : (levels : List ℤ) (i : ℕ) → i < length levels → greatest_magnitude levels ≤ 3 →
    unsigned_abs (get_or levels i (pos 0)) ≤ 3
unfolding greatest_magnitude
one_small [] i h g = absurd (omega arith)
one_small (level ∷ levels) zero h g = omega (arith, g)
one_small (level ∷ levels) (suc i) h g = one_small levels i (omega (arith, h)) (omega (arith, g))

-- ---- step by step, by the values that the code computed
pub greatest_step : (levels : List ℤ) (i g m next : ℕ) → i < length levels →
    m ≡ unsigned_abs (get_or levels i (pos 0)) → next ≡ max g m →
    max g (greatest_magnitude (drop i levels)) ≡ greatest_magnitude levels →
    max next (greatest_magnitude (drop (i + 1) levels)) ≡ greatest_magnitude levels
unfolding greatest_magnitude
greatest_step levels i g m next h em en before =
    let d = split_at levels i (pos 0) h in
    let e : greatest_magnitude (drop i levels) ≡
    max (unsigned_abs (get_or levels i (pos 0))) (greatest_magnitude (drop (i + 1) levels)) =
    rw d refl in
    omega (arith, e, em, en, before)

pub greatest_end : (levels : List ℤ) (i g : ℕ) → length levels ≤ i →
    max g (greatest_magnitude (drop i levels)) ≡ greatest_magnitude levels →
    g ≡ greatest_magnitude levels
unfolding greatest_magnitude
greatest_end levels i g h before =
    let d : drop i levels ≡ [] = drop_of_length-le levels h in
    let e : greatest_magnitude (drop i levels) ≡ 0 = rw d refl in
    omega (arith, e, before)

pub small_step : (levels : List ℤ) (i total m one : ℕ) (b : Bool) → i < length levels →
    m ≡ unsigned_abs (get_or levels i (pos 0)) → b ≡ is_significant (get_or levels i (pos 0)) →
    one ≡ cond b 1 0 → total + small_count (drop i levels) ≡ small_count levels →
    total + (m + one) + small_count (drop (i + 1) levels) ≡ small_count levels
unfolding small_count
small_step levels i total m one b h em eb eo before =
    let d = split_at levels i (pos 0) h in
    let o : one ≡ cond (is_significant (get_or levels i (pos 0))) 1 0 = rw eb at eo in
    let e : small_count (drop i levels) ≡ unsigned_abs (get_or levels i (pos 0)) +
    (cond (is_significant (get_or levels i (pos 0))) 1 0 + small_count (drop (i + 1) levels)) =
    rw d refl in
    omega (arith, e, em, o, before)

pub small_end : (levels : List ℤ) (i total : ℕ) → length levels ≤ i →
    total + small_count (drop i levels) ≡ small_count levels → total ≡ small_count levels
unfolding small_count
small_end levels i total h before =
    let d : drop i levels ≡ [] = drop_of_length-le levels h in
    let e : small_count (drop i levels) ≡ 0 = rw d refl in
    omega (arith, e, before)
