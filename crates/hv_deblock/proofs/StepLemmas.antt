-- The steps of an edge as the code computes them, through 32 bits, are those of the formulas
-- (8.7.2.5.7, 8.7.2.5.8).
use Rattle.std.proofs.Common.{◌≡◌, ℕ, ◌+◌, ◌≤◌, arith, subst, sym, ap, ap₂, ◌∙◌, ℤ, pos, negsuc, ◌+ℤ◌, ◌-ℤ◌, ◌*ℤ◌, FitsSigned}
use Rattle.std.specs.Int.{int_shr}
use Rattle.std.specs.Int.Signed.{shr_z}
use Rattle.std.specs.Int.RustNames.{unsigned_abs}
use Rattle.std.proofs.Math.Nat.{div-le_self}
use Rattle.std.proofs.lemmas.Int.{ints, unsigned_abs-mul, fits_signed_from_abs}
use Rattle.hv_lemmas.proofs.SignedLemmas.{passed, passed_small, size_of_sum}
use mir.Syntax.{w32}

size_of_difference : (a b : ℤ) → unsigned_abs (a -ℤ b) ≤ unsigned_abs a + unsigned_abs b
size_of_difference a b = omega (arith, ints)

size_of_shift : (z : ℤ) (k : ℕ) → unsigned_abs (shr_z z k) ≤ unsigned_abs z
size_of_shift (pos n) k = div-le_self n k
size_of_shift (negsuc n) k = omega (arith, div-le_self n k)

small : (z : ℤ) → unsigned_abs z ≤ 4096 → passed z ≡ z
small z h = passed_small z (omega (arith, h))

fits : (z : ℤ) → unsigned_abs z ≤ 4096 → FitsSigned w32 z
fits z h = fits_signed_from_abs w32 z (omega (arith, h))

-- ---- products with 9, 3 and 4

nine : (a : ℤ) → unsigned_abs a ≤ 255 → unsigned_abs (pos 9 *ℤ a) ≤ 2295
nine a h = omega (arith, h, unsigned_abs-mul (pos 9) a)

three : (a : ℤ) → unsigned_abs a ≤ 255 → unsigned_abs (pos 3 *ℤ a) ≤ 765
three a h = omega (arith, h, unsigned_abs-mul (pos 3) a)

four : (a : ℤ) → unsigned_abs a ≤ 255 → unsigned_abs (pos 4 *ℤ a) ≤ 1020
four a h = omega (arith, h, unsigned_abs-mul (pos 4) a)

abbrev code_times : ℕ → ℤ → ℤ
code_times n a = passed (pos n *ℤ passed a)

times_is : (n : ℕ) (a : ℤ) → unsigned_abs a ≤ 255 → unsigned_abs (pos n *ℤ a) ≤ 4096 → code_times n a ≡ pos n *ℤ a
times_is n a h k = ap (λ z. passed (pos n *ℤ z)) (small a (omega (arith, h))) ∙ small (pos n *ℤ a) k

-- ---- luma

abbrev pub code_luma_sum : ℤ → ℤ → ℤ
code_luma_sum first second = code_times 9 first -ℤ code_times 3 second

luma_sum_is : (a b : ℤ) → unsigned_abs a ≤ 255 → unsigned_abs b ≤ 255 → code_luma_sum a b ≡ pos 9 *ℤ a -ℤ pos 3 *ℤ b
luma_sum_is a b h k =
    ap₂ (λ x y. x -ℤ y) (times_is 9 a h (omega (arith, nine a h))) (times_is 3 b k (omega (arith, three b k)))

luma_sum_most : (a b : ℤ) → unsigned_abs a ≤ 255 → unsigned_abs b ≤ 255 → unsigned_abs (pos 9 *ℤ a -ℤ pos 3 *ℤ b) ≤ 3060
luma_sum_most a b h k = omega (arith, size_of_difference (pos 9 *ℤ a) (pos 3 *ℤ b), nine a h, three b k)

pub luma_sum_fits : (a b : ℤ) → unsigned_abs a ≤ 255 → unsigned_abs b ≤ 255 → FitsSigned w32 (code_luma_sum a b)
luma_sum_fits a b h k = subst (FitsSigned w32) (sym (luma_sum_is a b h k)) (fits _ (omega (arith, luma_sum_most a b h k)))

abbrev pub code_luma_rounded : ℤ → ℤ → ℤ
code_luma_rounded first second = passed (code_luma_sum first second) +ℤ pos 8

luma_rounded_is : (a b : ℤ) → unsigned_abs a ≤ 255 → unsigned_abs b ≤ 255 → code_luma_rounded a b ≡ pos 9 *ℤ a -ℤ pos 3 *ℤ b +ℤ pos 8
luma_rounded_is a b h k =
    ap (λ z. z +ℤ pos 8) (ap passed (luma_sum_is a b h k) ∙ small (pos 9 *ℤ a -ℤ pos 3 *ℤ b) (omega (arith, luma_sum_most a b h k)))

luma_rounded_most : (a b : ℤ) → unsigned_abs a ≤ 255 → unsigned_abs b ≤ 255 → unsigned_abs (pos 9 *ℤ a -ℤ pos 3 *ℤ b +ℤ pos 8) ≤ 3068
luma_rounded_most a b h k = omega (arith, size_of_sum (pos 9 *ℤ a -ℤ pos 3 *ℤ b) (pos 8), luma_sum_most a b h k)

pub luma_rounded_fits : (a b : ℤ) → unsigned_abs a ≤ 255 → unsigned_abs b ≤ 255 → FitsSigned w32 (code_luma_rounded a b)
luma_rounded_fits a b h k =
    subst (FitsSigned w32) (sym (luma_rounded_is a b h k)) (fits _ (omega (arith, luma_rounded_most a b h k)))

-- shifted by as many bits as 2 ^ k says
shifted : (code z : ℤ) (k : ℕ) → code ≡ z → unsigned_abs z ≤ 4096 → passed (shr_z (passed code) k) ≡ shr_z z k
shifted code z k same h =
    ap (λ v. passed (shr_z v k)) (ap passed same ∙ small z h)
    ∙ small (shr_z z k) (omega (arith, size_of_shift z k, h))

pub luma_step_is : (a b : ℤ) → unsigned_abs a ≤ 255 → unsigned_abs b ≤ 255 →
    passed (shr_z (passed (code_luma_rounded a b)) 16) ≡ int_shr (pos 9 *ℤ a -ℤ pos 3 *ℤ b +ℤ pos 8) 4
luma_step_is a b h k = shifted _ _ 16 (luma_rounded_is a b h k) (omega (arith, luma_rounded_most a b h k))

pub luma_step_most : (a b : ℤ) → unsigned_abs a ≤ 255 → unsigned_abs b ≤ 255 →
    unsigned_abs (passed (shr_z (passed (code_luma_rounded a b)) 16)) ≤ 4096
luma_step_most a b h k =
    subst (λ z. unsigned_abs z ≤ 4096) (sym (luma_step_is a b h k))
    (omega (arith, size_of_shift (pos 9 *ℤ a -ℤ pos 3 *ℤ b +ℤ pos 8) 16, luma_rounded_most a b h k))

-- ---- chroma

abbrev pub code_chroma_sum : ℤ → ℤ → ℤ
code_chroma_sum first second = code_times 4 first +ℤ passed second

chroma_sum_is : (a b : ℤ) → unsigned_abs a ≤ 255 → unsigned_abs b ≤ 255 → code_chroma_sum a b ≡ pos 4 *ℤ a +ℤ b
chroma_sum_is a b h k =
    ap₂ (λ x y. x +ℤ y) (times_is 4 a h (omega (arith, four a h))) (small b (omega (arith, k)))

chroma_sum_most : (a b : ℤ) → unsigned_abs a ≤ 255 → unsigned_abs b ≤ 255 → unsigned_abs (pos 4 *ℤ a +ℤ b) ≤ 1275
chroma_sum_most a b h k = omega (arith, size_of_sum (pos 4 *ℤ a) b, four a h, k)

pub chroma_sum_fits : (a b : ℤ) → unsigned_abs a ≤ 255 → unsigned_abs b ≤ 255 → FitsSigned w32 (code_chroma_sum a b)
chroma_sum_fits a b h k = subst (FitsSigned w32) (sym (chroma_sum_is a b h k)) (fits _ (omega (arith, chroma_sum_most a b h k)))

abbrev pub code_chroma_rounded : ℤ → ℤ → ℤ
code_chroma_rounded first second = passed (code_chroma_sum first second) +ℤ pos 4

chroma_rounded_is : (a b : ℤ) → unsigned_abs a ≤ 255 → unsigned_abs b ≤ 255 → code_chroma_rounded a b ≡ pos 4 *ℤ a +ℤ b +ℤ pos 4
chroma_rounded_is a b h k =
    ap (λ z. z +ℤ pos 4) (ap passed (chroma_sum_is a b h k) ∙ small (pos 4 *ℤ a +ℤ b) (omega (arith, chroma_sum_most a b h k)))

chroma_rounded_most : (a b : ℤ) → unsigned_abs a ≤ 255 → unsigned_abs b ≤ 255 → unsigned_abs (pos 4 *ℤ a +ℤ b +ℤ pos 4) ≤ 1279
chroma_rounded_most a b h k = omega (arith, size_of_sum (pos 4 *ℤ a +ℤ b) (pos 4), chroma_sum_most a b h k)

pub chroma_rounded_fits : (a b : ℤ) → unsigned_abs a ≤ 255 → unsigned_abs b ≤ 255 → FitsSigned w32 (code_chroma_rounded a b)
chroma_rounded_fits a b h k =
    subst (FitsSigned w32) (sym (chroma_rounded_is a b h k)) (fits _ (omega (arith, chroma_rounded_most a b h k)))

pub chroma_step_is : (a b : ℤ) → unsigned_abs a ≤ 255 → unsigned_abs b ≤ 255 →
    passed (shr_z (passed (code_chroma_rounded a b)) 8) ≡ int_shr (pos 4 *ℤ a +ℤ b +ℤ pos 4) 3
chroma_step_is a b h k = shifted _ _ 8 (chroma_rounded_is a b h k) (omega (arith, chroma_rounded_most a b h k))
