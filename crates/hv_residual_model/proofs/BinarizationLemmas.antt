-- What the binarizations of 9.3.3 write is what they read.
use Rattle.std.proofs.Common.{◌≡◌, ℕ, zero, suc, ◌+◌, ◌-◌, ◌*◌, ◌/◌, ◌%◌, ◌^◌, ◌<◌, ◌≤◌, true, false, cond, eqb, ◌∷◌, ◌++◌, arith, ltb-true, ltb-false, pow-suc, pow_pos, one-add, mod-eq_of_lt}
use Rattle.std.specs.Prelude.{nat_eq, nat_lt}
use Rattle.std.proofs.Math.Nat.{le-div_iff_mul-le}
use Rattle.std.proofs.Math.Pow.{pow_mono}
use Rattle.std.proofs.lemmas.Nat.{mod-pow-add, shr_split}
use Rattle.std.proofs.lemmas.Bool.{cond_both, eqb-true, eqb-false}
use Rattle.hv_stream_model.specs.Scripts.{Reads, nothing, one}
use Rattle.hv_stream_model.proofs.ScriptLemmas.{reads_then, reads_map}
use Rattle.hv_residual_model.specs.UnitBins.{UnitQuestion, InBypass, unit_bin}
use Rattle.hv_residual_model.specs.Binarization.{fixed_length, fixed_length_bins, truncated_unary, truncated_unary_bins, exp_golomb, exp_golomb_bins, bypass_at, remaining_suffix, coeff_abs_level_remaining, remaining_bins}
use Rattle.hv_residual_model.proofs.UnitBinLemmas.{reads_value}

-- ---- fixed length

top_digit : (w d : ℕ) → d < 2 → cond (nat_eq d 1) w 0 ≡ d * w
top_digit w d h =
    cond_both (eqb d 1) w 0 (λ x. x ≡ d * w)
    (λ e. let k : d ≡ 1 = eqb-true d 1 e in rw k (omega arith))
    (λ e. let n = eqb-false d 1 e in let k : d ≡ 0 = omega (arith, n) in rw k (omega arith))

-- the lowest digits are what is read
pub reads_fixed_length : (k v : ℕ) → Reads (fixed_length k) (fixed_length_bins k v) (v % 2 ^ k)
reads_fixed_length zero v = reads_value nothing (omega arith)
reads_fixed_length (suc k) v =
    let d : ℕ = v / 2 ^ k % 2 in
    let t = top_digit (2 ^ k) d (omega arith) in
    let m : v % 2 ^ suc k ≡ d * 2 ^ k + v % 2 ^ k = rw (← one-add k) (mod-pow-add v 1 k) in
    one (reads_value
    (reads_map (λ (r : ℕ). cond (eqb d 1) (2 ^ k) 0 + r) (reads_fixed_length k v))
    (omega (arith, t, m)))

pub reads_small_number : (k v : ℕ) → v < 2 ^ k → Reads (fixed_length k) (fixed_length_bins k v) v
reads_small_number k v h = reads_value (reads_fixed_length k v) (mod-eq_of_lt h)

-- ---- truncated unary

pub reads_truncated_unary : (question : ℕ → UnitQuestion) (cMax binIdx v : ℕ) → v ≤ cMax →
    Reads (truncated_unary question cMax binIdx) (truncated_unary_bins question cMax binIdx v) v
unfolding truncated_unary truncated_unary_bins
reads_truncated_unary question zero binIdx v h = reads_value nothing (omega arith)
reads_truncated_unary question (suc cMax) binIdx zero h = one nothing
reads_truncated_unary question (suc cMax) binIdx (suc v) h =
    one (reads_map suc (reads_truncated_unary question cMax (suc binIdx) v (omega arith)))

-- ---- Exp-Golomb

back_again : (k v : ℕ) → 2 ^ k ≤ v → 2 ^ k + (v - 2 ^ k) ≡ v
back_again k v h = omega arith

pub reads_exp_golomb : (fuel k v : ℕ) → v + 2 ^ k < 2 ^ (k + fuel) →
    Reads (exp_golomb fuel k) (exp_golomb_bins fuel k v) v
unfolding exp_golomb exp_golomb_bins
reads_exp_golomb zero k v h =
    absurd (let e : k + 0 ≡ k = omega arith in omega (arith, rw e at h))
reads_exp_golomb (suc fuel) k v h =
    cond_both (nat_lt v (2 ^ k))
    (unit_bin InBypass false ∷ fixed_length_bins k v)
    (unit_bin InBypass true ∷ exp_golomb_bins fuel (suc k) (v - 2 ^ k))
    (λ bins. Reads (exp_golomb (suc fuel) k) bins v)
    (λ e. let less : v < 2 ^ k = ltb-true v (2 ^ k) e in one (reads_small_number k v less))
    (λ e.
    let from : 2 ^ k ≤ v = ltb-false v (2 ^ k) e in
    let s : k + suc fuel ≡ suc k + fuel = omega arith in
    let b : v - 2 ^ k + 2 ^ suc k < 2 ^ (suc k + fuel) =
    rw (← s, pow-suc 2 k) (omega (arith, h, from)) in
    one (reads_value
    (reads_map (λ (r : ℕ). 2 ^ k + r) (reads_exp_golomb fuel (suc k) (v - 2 ^ k) b))
    (back_again k v from)))

-- ---- coeff_abs_level_remaining

pub reads_remaining : (k v : ℕ) → v < 2 ^ 32 →
    Reads (coeff_abs_level_remaining k) (remaining_bins k v) v
unfolding coeff_abs_level_remaining remaining_bins
reads_remaining k v h =
    cond_both (nat_lt (v / 2 ^ k) 4)
    (truncated_unary_bins bypass_at 4 0 (v / 2 ^ k) ++ fixed_length_bins k v)
    (truncated_unary_bins bypass_at 4 0 4 ++ exp_golomb_bins 32 (suc k) (v - 4 * 2 ^ k))
    (λ bins. Reads (coeff_abs_level_remaining k) bins v)
    (λ e.
    let less : v / 2 ^ k < 4 = ltb-true (v / 2 ^ k) 4 e in
    let r : Reads (remaining_suffix k (v / 2 ^ k)) (fixed_length_bins k v) v =
    rw e (reads_value
    (reads_map (λ (r : ℕ). v / 2 ^ k * 2 ^ k + r) (reads_fixed_length k v)) (shr_split v k)) in
    reads_then (remaining_suffix k)
    (reads_truncated_unary bypass_at 4 0 (v / 2 ^ k) (omega arith)) r)
    (λ e.
    let from : 4 ≤ v / 2 ^ k = ltb-false (v / 2 ^ k) 4 e in
    let p : 4 * 2 ^ k ≤ v = (le-div_iff_mul-le (pow_pos k)).0 from in
    let m = pow_mono {i = 32} {j = suc k + 32} (omega arith) in
    let b : v - 4 * 2 ^ k + 2 ^ suc k < 2 ^ (suc k + 32) = omega (arith, pow-suc 2 k, p, m) in
    reads_then (remaining_suffix k) (reads_truncated_unary bypass_at 4 0 4 (omega arith))
    (reads_value
    (reads_map (λ (r : ℕ). 4 * 2 ^ k + r) (reads_exp_golomb 32 (suc k) (v - 4 * 2 ^ k) b))
    (omega (arith, p))))
