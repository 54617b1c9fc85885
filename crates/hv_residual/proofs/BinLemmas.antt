-- What the loops over binarizations (9.3.3) put, step by step.
use Rattle.std.proofs.Common.{◌≡◌, ◌≤◌, ◌<◌, ◌-◌, ◌+◌, ◌*◌, ◌/◌, ◌%◌, ◌^◌, [], ◌∷◌, ◌++◌, ℕ, suc, true, false, nat_eq, arith, subst, sym, refl, pow-suc, pow_pos, pow-add, add-one, inl, inr}
use Rattle.std.specs.Prelude.{◌⊎◌}
use Rattle.std.proofs.Math.Pow.{pow_mono}
use Rattle.std.proofs.lemmas.Bool.{cases_lt}
use Rattle.hv_lemmas.proofs.ComparisonLemmas.{lt_below, lt_not_below}
use Rattle.hv_residual_model.specs.UnitBins.{UnitQuestion, InBypass, unit_bin}
use Rattle.hv_residual_model.specs.Binarization.{fixed_length_bins, truncated_unary_bins, exp_golomb_bins, bypass_at, remaining_bins}

-- ---- fixed length
pub first_digit : (i v : ℕ) → 0 < i → fixed_length_bins i v ≡
    unit_bin InBypass (nat_eq (v / 2 ^ (i - 1) % 2) 1) ∷ fixed_length_bins (i - 1) v
first_digit i v h =
    let e : i ≡ suc (i - 1) = omega arith in
    subst (λ (k : ℕ). fixed_length_bins k v ≡
    unit_bin InBypass (nat_eq (v / 2 ^ (i - 1) % 2) 1) ∷ fixed_length_bins (i - 1) v) (sym e) refl

pub no_digit : (i v : ℕ) → i ≤ 0 → fixed_length_bins i v ≡ []
no_digit i v h = let e : i ≡ 0 = omega arith in rw e refl

-- ---- truncated unary
pub one_more : (q : ℕ → UnitQuestion) (c i v : ℕ) → i < v → v ≤ c →
    truncated_unary_bins q (c - i) i (v - i) ≡
    unit_bin (q i) true ∷ truncated_unary_bins q (c - (i + 1)) (i + 1) (v - (i + 1))
unfolding truncated_unary_bins
one_more q c i v h k =
    let e : c - i ≡ suc (c - (i + 1)) = omega arith in
    let f : v - i ≡ suc (v - (i + 1)) = omega arith in
    rw (e, f, add-one) refl

pub closed : (q : ℕ → UnitQuestion) (c i v : ℕ) → i ≤ v → v ≤ i → v < c →
    truncated_unary_bins q (c - i) i (v - i) ≡ unit_bin (q i) false ∷ []
unfolding truncated_unary_bins
closed q c i v h k l =
    let e : c - i ≡ suc (c - (i + 1)) = omega arith in
    let f : v - i ≡ 0 = omega arith in
    rw (e, f) refl

-- the same by the number
pub closed_at : (q : ℕ → UnitQuestion) (c i v : ℕ) → i ≤ v → v ≤ i → v < c →
    truncated_unary_bins q (c - i) i (v - i) ≡ unit_bin (q v) false ∷ []
closed_at q c i v h k l =
    let e : v ≡ i = omega arith in
    subst (λ (n : ℕ). truncated_unary_bins q (c - i) i (v - i) ≡ unit_bin (q n) false ∷ []) (sym e)
    (closed q c i v h k l)

pub full : (q : ℕ → UnitQuestion) (c i v : ℕ) → i ≤ v → v ≤ i → c ≤ v → v ≤ c →
    truncated_unary_bins q (c - i) i (v - i) ≡ []
unfolding truncated_unary_bins
full q c i v h k l m = let e : c - i ≡ 0 = omega arith in rw e refl

-- ---- Exp-Golomb, of which no number here needs 20 ones
pub start_small : (k v : ℕ) → v < 524288 → v + 2 ^ k < 2 ^ (k + 20)
start_small k v h =
    let e = pow_mono {i = 20} {j = k + 20} (omega arith) in
    let p = pow-add 2 k 20 in
    let q = pow_pos k in
    omega (arith, p, q)

pub a_one : (a k v : ℕ) → k + 1 ≤ a → 2 ^ k ≤ v → exp_golomb_bins (a - k) k v ≡
    unit_bin InBypass true ∷ exp_golomb_bins (a - (k + 1)) (k + 1) (v - 2 ^ k)
unfolding exp_golomb_bins
a_one a k v h le =
    let e : a - k ≡ suc (a - (k + 1)) = omega arith in
    let t = lt_not_below v (2 ^ k) le in
    rw (e, add-one) (rw t refl)

pub a_zero : (a k v : ℕ) → k + 1 ≤ a → v < 2 ^ k → exp_golomb_bins (a - k) k v ≡
    unit_bin InBypass false ∷ fixed_length_bins k v
unfolding exp_golomb_bins
a_zero a k v h lt =
    let e : a - k ≡ suc (a - (k + 1)) = omega arith in
    let t = lt_below v (2 ^ k) lt in
    rw e (rw t refl)

pub below : (a b : ℕ) → 2 ^ a < 2 ^ b → a < b
below a b h = go (cases_lt a b)
  where
    go : (a < b) ⊎ (b ≤ a) → a < b
    go (inl k) = k
    go (inr k) = absurd (omega (arith, pow_mono {i = b} {j = a} k))

pub all_fuel : (k v : ℕ) → exp_golomb_bins (k + 32 - k) k v ≡ exp_golomb_bins 32 k v
all_fuel k v = let e : k + 32 - k ≡ 32 = omega arith in rw e refl

-- the next order
pub goes_on : (a k v : ℕ) → v + 2 ^ k < 2 ^ a → 2 ^ k ≤ v →
    (k + 1 < a) × (v - 2 ^ k + 2 ^ (k + 1) < 2 ^ a)
goes_on a k v h le =
    let s : v - 2 ^ k + 2 ^ (k + 1) < 2 ^ a = rw (add-one, pow-suc 2 k) (omega (arith, h, le)) in
    (below (k + 1) a (omega (arith, s)), s)

-- ---- coeff_abs_level_remaining (9.3.3.11)
pub low_level : (k v : ℕ) → v / 2 ^ k < 4 → remaining_bins k v ≡
    truncated_unary_bins bypass_at 4 0 (v / 2 ^ k) ++ fixed_length_bins k v
unfolding remaining_bins
low_level k v h = rw (lt_below (v / 2 ^ k) 4 h) refl

pub high_level : (k v : ℕ) → 4 ≤ v / 2 ^ k → remaining_bins k v ≡
    truncated_unary_bins bypass_at 4 0 4 ++ exp_golomb_bins 32 (suc k) (v - 4 * 2 ^ k)
unfolding remaining_bins
high_level k v h = rw (lt_not_below (v / 2 ^ k) 4 h) refl
