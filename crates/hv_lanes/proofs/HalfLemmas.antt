-- The halves of the transform matrix: rows with even numbers are those of half the side, and mirrored places have the same
-- number in these rows, and that with the other sign in the others.
use Rattle.std.proofs.Common.{Bool, ap, arith, negsuc, pos, refl, suc, sym, true, zero, ℕ, ℤ, ◌&&◌, ◌*ℤ◌, ◌*◌, ◌+◌, ◌-◌, ◌<◌, ◌^◌, ◌∙◌, ◌≡◌, ◌≤◌}
use Rattle.std.proofs.lemmas.Int.{ints, unsigned_abs-mul}
use Rattle.std.proofs.Math.IntN.{*ℤ-negsuc, *ℤ_comm, neg_ℤ-neg_ℤ}
use Rattle.std.specs.Prelude.{neg_ℤ}
use Rattle.std.specs.Ordering.{int_eq}
use Rattle.hv_tables.specs.TransformMatrix.{transMatrix}
use Rattle.hv_lemmas.proofs.ComputedLemmas.{all_below, holds_below}
use Rattle.hv_tables.proofs.ComputedLemmas.{equal_numbers}
use Rattle.std.proofs.lemmas.Bool.{and_parts}
use Rattle.std.proofs.lemmas.Nat.{pow-add}

by_zero : (b : ℤ) → b *ℤ pos zero ≡ pos zero
by_zero b = omega (arith, ints, unsigned_abs-mul b (pos zero))

pub neg_times : (a b : ℤ) → neg_ℤ a *ℤ b ≡ neg_ℤ (b *ℤ a)
neg_times (pos zero) b = *ℤ_comm (pos zero) b ∙ by_zero b ∙ sym (ap neg_ℤ (by_zero b))
neg_times (pos (suc n)) b = *ℤ_comm (negsuc n) b ∙ *ℤ-negsuc b n
neg_times (negsuc n) b = *ℤ_comm (pos (suc n)) b ∙ sym (neg_ℤ-neg_ℤ (b *ℤ pos (suc n))) ∙ ap neg_ℤ (sym (*ℤ-negsuc b n))

pub record Halved (m : ℕ) (whole half : ℕ → ℕ → ℤ) : Type 0 where
  pub even : (k n : ℕ) → k < m → n < m → whole (2 * k) n ≡ half k n
  pub even_mirrored : (k n : ℕ) → k < m → n < m → whole (2 * k) (2 * m - 1 - n) ≡ half k n
  pub odd_mirrored : (k n : ℕ) → k < m → n < m → whole (2 * k + 1) (2 * m - 1 - n) ≡ neg_ℤ (whole (2 * k + 1) n)

-- the matrix has this law, computed over all of it
abbrev pub law_at : ℕ → ℕ → ℕ → Bool
law_at log2 n k =
    let m : ℕ = 2 ^ log2 in
    int_eq (transMatrix (log2 + 1) (2 * k) n) (transMatrix log2 k n) &&
    (int_eq (transMatrix (log2 + 1) (2 * k) (2 * m - 1 - n)) (transMatrix log2 k n) &&
    int_eq (transMatrix (log2 + 1) (2 * k + 1) (2 * m - 1 - n)) (neg_ℤ (transMatrix (log2 + 1) (2 * k + 1) n)))

abbrev pub law : ℕ → Bool
law log2 = all_below (2 ^ log2) (λ n. all_below (2 ^ log2) (law_at log2 n))

law_8 : law 2 ≡ true
law_8 = refl

law_16 : law 3 ≡ true
law_16 = refl

law_32 : law 4 ≡ true
law_32 = refl

pub laws : (log2 : ℕ) → 2 ≤ log2 → log2 ≤ 4 → law log2 ≡ true
laws zero least greatest = absurd (omega arith)
laws (suc zero) least greatest = absurd (omega arith)
laws (suc (suc zero)) least greatest = law_8
laws (suc (suc (suc zero))) least greatest = law_16
laws (suc (suc (suc (suc zero)))) least greatest = law_32
laws (suc (suc (suc (suc (suc m))))) least greatest = absurd (omega arith)

pub halved : (log2 : ℕ) → law log2 ≡ true → Halved (2 ^ log2) (transMatrix (log2 + 1)) (transMatrix log2)
halved log2 h =
    let m : ℕ = 2 ^ log2 in
    let at : (k n : ℕ) → k < m → n < m → law_at log2 n k ≡ true = λ k n q p. holds_below m (law_at log2 n) (holds_below m (λ n. all_below m (law_at log2 n)) h n p) k q in
    record {
      even = λ k n q p. equal_numbers _ _ (and_parts _ _ (at k n q p)).0;
      even_mirrored = λ k n q p. equal_numbers _ _ (and_parts _ _ (and_parts _ _ (at k n q p)).1).0;
      odd_mirrored = λ k n q p. equal_numbers _ _ (and_parts _ _ (and_parts _ _ (at k n q p)).1).1;
    }

pub twice : (l : ℕ) → 2 ^ (l + 1) ≡ 2 * 2 ^ l
twice l = pow-add 2 l 1 ∙ omega arith
