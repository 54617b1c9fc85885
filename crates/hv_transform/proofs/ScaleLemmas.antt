-- Scaling without the factor 16, which is shifted away.
use Rattle.std.proofs.Common.{ap, ap₂, arith, negsuc, pos, refl, suc, sym, zero, ℕ, ℤ, ◌*ℤ◌, ◌*◌, ◌+ℤ◌, ◌+◌, ◌-◌, ◌/◌, ◌<◌, ◌^◌, ◌∙◌, ◌≡◌, ◌≤◌}
use Rattle.std.specs.Int.Signed.{shr_z}
use Rattle.std.proofs.Math.Nat.{div-div-eq-div-mul, mul-div-mul_left, mul_assoc, mul_comm}
use Rattle.std.specs.Prelude.{neg_ℤ}
use Rattle.std.proofs.lemmas.Int.{ints}
use Rattle.std.proofs.lemmas.Bool.{cases_lt}
use Rattle.std.proofs.Math.IntN.{*ℤ-negsuc, *ℤ_comm}
use mathlib.Core.Logic.{⊎_elim}
use Rattle.std.proofs.lemmas.Nat.{pow-add}
use Rattle.hv_lemmas.specs.Clipping.{clip16}
use Rattle.hv_tables.specs.Quantisers.{levelScale}
use Rattle.hv_sample_model.specs.Quantisation.{rounded}
use Rattle.hv_sample_model.specs.InverseTransform.{scaled}

shifted_above : (m d : ℕ) → shr_z (pos (16 * m)) (16 * d) ≡ shr_z (pos m) d
shifted_above m d = ap pos (mul-div-mul_left {m = 16} m d (omega arith))

shifted_below : (m d : ℕ) → shr_z (negsuc (16 * m + 15)) (16 * d) ≡ shr_z (negsuc m) d
shifted_below m d =
    let part : (16 * m + 15) / 16 ≡ m = omega arith in
    ap negsuc (sym (div-div-eq-div-mul (16 * m + 15) 16 d) ∙ ap (λ n. n / d) part)

shr_16 : (p : ℤ) (h d : ℕ) → shr_z (p *ℤ pos 16 +ℤ pos (16 * h)) (16 * d) ≡ shr_z (p +ℤ pos h) d
shr_16 (pos n) h d =
    let sum : n * 16 + 16 * h ≡ 16 * (n + h) = omega arith in
    ap (λ m. shr_z (pos m) (16 * d)) sum ∙ shifted_above (n + h) d
shr_16 (negsuc n) h d =
    let product : negsuc n *ℤ pos 16 ≡ neg_ℤ (pos (16 * suc n)) = *ℤ_comm (negsuc n) (pos 16) ∙ *ℤ-negsuc (pos 16) n in
    ap (λ z. shr_z (z +ℤ pos (16 * h)) (16 * d)) product ∙
    ⊎_elim
    (λ (less : n < h).
    let sum : neg_ℤ (pos (16 * suc n)) +ℤ pos (16 * h) ≡ pos (16 * (h - suc n)) = omega (arith, ints, less) in
    let part : pos (h - suc n) ≡ negsuc n +ℤ pos h = omega (arith, ints, less) in
    ap (λ z. shr_z z (16 * d)) sum ∙ shifted_above (h - suc n) d ∙ ap (λ z. shr_z z d) part)
    (λ (more : h ≤ n).
    let sum : neg_ℤ (pos (16 * suc n)) +ℤ pos (16 * h) ≡ negsuc (16 * (n - h) + 15) = omega (arith, ints, more) in
    let part : negsuc (n - h) ≡ negsuc n +ℤ pos h = omega (arith, ints, more) in
    ap (λ z. shr_z z (16 * d)) sum ∙ shifted_below (n - h) d ∙ ap (λ z. shr_z z d) part)
    (cases_lt n h)

neg_times_16 : (m : ℕ) → neg_ℤ (pos m) *ℤ pos 16 ≡ neg_ℤ (pos (16 * m))
neg_times_16 zero = refl
neg_times_16 (suc m) = *ℤ_comm (negsuc m) (pos 16) ∙ *ℤ-negsuc (pos 16) m

times_16 : (l : ℤ) (k : ℕ) → l *ℤ pos (16 * k) ≡ l *ℤ pos k *ℤ pos 16
times_16 (pos n) k =
    let inner : n * (16 * k) ≡ n * (k * 16) = ap (λ j. n * j) (mul_comm 16 k) in
    ap pos (inner ∙ sym (mul_assoc n k 16))
times_16 (negsuc n) k =
    *ℤ_comm (negsuc n) (pos (16 * k)) ∙ *ℤ-negsuc (pos (16 * k)) n ∙
    ap (λ j. neg_ℤ (pos j)) (mul_assoc 16 k (suc n)) ∙
    sym (ap (λ z. z *ℤ pos 16) (*ℤ_comm (negsuc n) (pos k) ∙ *ℤ-negsuc (pos k) n) ∙ neg_times_16 (k * suc n))

power_16 : (s : ℕ) → 2 ^ (s + 4) ≡ 16 * 2 ^ s
power_16 s = pow-add 2 s 4 ∙ omega arith

pub scaled_is : (log2 qp : ℕ) (level : ℤ) → 2 ≤ log2 → clip16 (rounded (level *ℤ pos (levelScale qp * 2 ^ (qp / 6))) (log2 - 1)) ≡ scaled log2 qp level
scaled_is log2 qp level least =
    let factor : ℕ = levelScale qp * 2 ^ (qp / 6) in
    let product : level *ℤ pos (16 * levelScale qp * 2 ^ (qp / 6)) ≡ level *ℤ pos factor *ℤ pos 16 =
    ap (λ f. level *ℤ pos f) (mul_assoc 16 (levelScale qp) (2 ^ (qp / 6))) ∙ times_16 level factor in
    let half : 2 ^ (log2 + 3 - 1) ≡ 16 * 2 ^ (log2 - 1 - 1) = ap (λ s. 2 ^ s) (whole least) ∙ power_16 (log2 - 1 - 1) in
    let step : 2 ^ (log2 + 3) ≡ 16 * 2 ^ (log2 - 1) = ap (λ s. 2 ^ s) (steps least) ∙ power_16 (log2 - 1) in
    sym (ap (λ z. clip16 (shr_z (z +ℤ pos (2 ^ (log2 + 3 - 1))) (2 ^ (log2 + 3)))) product ∙
    ap₂ (λ h d. clip16 (shr_z (level *ℤ pos factor *ℤ pos 16 +ℤ pos h) d)) half step ∙
    ap clip16 (shr_16 (level *ℤ pos factor) (2 ^ (log2 - 1 - 1)) (2 ^ (log2 - 1))))
  where
    whole : 2 ≤ log2 → log2 + 3 - 1 ≡ log2 - 1 - 1 + 4
    whole least = omega (arith, least)

    steps : 2 ≤ log2 → log2 + 3 ≡ log2 - 1 + 4
    steps least = omega (arith, least)
