-- Products and squares of signed numbers.
use Rattle.std.proofs.Common.{◌≡◌, ℕ, ◌+◌, ◌*◌, ◌≤◌, ℤ, pos, negsuc, ◌+ℤ◌, ◌-ℤ◌, ◌*ℤ◌, arith, refl, ap, ap₂, sym, ◌∙◌, subst, ◌≤ℤ◌}
use Rattle.std.proofs.lemmas.Int.{ints, clamps, to_z-of_z, to_z_pos, unsigned_abs-mul, fits_signed_from_abs}
use Rattle.std.proofs.Math.Nat.{mul-le-mul_left, mul-le-mul_right}
use Rattle.std.specs.Int.RustNames.{FitsSigned}
use mir.Syntax.{w8, w32}
use Rattle.hv_lemmas.specs.Clipping.{clip3}
use mir.Val.{to_z, of_z}
use Rattle.hv_lemmas.proofs.SignedLemmas.{passed, passed_small}
use Rattle.hv_sao.specs.Decisions.{growth}
use Rattle.std.specs.Int.{abs_diff}
use Rattle.std.specs.Int.RustNames.{unsigned_abs}
use borrow.Author.Differences.{up, down, sum_is_lem}

pub times_sum : (a b c : ℤ) → a *ℤ (b +ℤ c) ≡ (a *ℤ b) +ℤ (a *ℤ c)
times_sum a b c =
    omega (arith, ints, ap (λ n. up a * n) (sum_is_lem b c), ap (λ n. down a * n) (sum_is_lem b c))

pub sum_times : (a b c : ℤ) → (b +ℤ c) *ℤ a ≡ (b *ℤ a) +ℤ (c *ℤ a)
sum_times a b c =
    omega (arith, ints, ap (λ n. up a * n) (sum_is_lem b c), ap (λ n. down a * n) (sum_is_lem b c))

pub square_abs : (z : ℤ) → pos (unsigned_abs z * unsigned_abs z) ≡ z *ℤ z
square_abs (pos n) = refl
square_abs (negsuc n) = refl

pub abs_diff_is : (a b : ℕ) → abs_diff a b ≡ unsigned_abs (pos a -ℤ pos b)
abs_diff_is a b = omega (arith, ints)

pub binomial : (v c w : ℤ) → w ≡ v -ℤ c → w *ℤ w ≡ (v *ℤ v) +ℤ ((c *ℤ c) -ℤ (pos 2 *ℤ (c *ℤ v)))
binomial v c w e =
    let h : up w + down v + up c ≡ down w + up v + down c = omega (arith, ints, e) in
    omega (
      arith,
      ints,
      ap (λ n. up w * n) h,
      ap (λ n. down w * n) h,
      ap (λ n. up v * n) h,
      ap (λ n. down v * n) h,
      ap (λ n. up c * n) h,
      ap (λ n. down c * n) h,
    )

pub error_is : (a d s : ℕ) → pos (abs_diff a s * abs_diff a s) ≡
    pos (abs_diff a d * abs_diff a d) +ℤ
    (((pos s -ℤ pos d) *ℤ (pos s -ℤ pos d)) -ℤ (pos 2 *ℤ ((pos s -ℤ pos d) *ℤ (pos a -ℤ pos d))))
error_is a d s =
    ap (λ n. pos (n * n)) (abs_diff_is a s) ∙ square_abs (pos a -ℤ pos s)
    ∙ binomial (pos a -ℤ pos d) (pos s -ℤ pos d) (pos a -ℤ pos s) (omega (arith, ints))
    ∙ ap (λ z. z +ℤ (((pos s -ℤ pos d) *ℤ (pos s -ℤ pos d)) -ℤ (pos 2 *ℤ ((pos s -ℤ pos d) *ℤ (pos a -ℤ pos d)))))
    (sym (ap (λ n. pos (n * n)) (abs_diff_is a d) ∙ square_abs (pos a -ℤ pos d)))

product_most : (a b : ℤ) (m n : ℕ) → unsigned_abs a ≤ m → unsigned_abs b ≤ n → unsigned_abs (a *ℤ b) ≤ m * n
product_most a b m n h k =
    omega (arith, unsigned_abs-mul a b, mul-le-mul_left (unsigned_abs a) k, mul-le-mul_right n h)

-- the parts of a growth are small
record AreSmall (n : ℕ) (s c : ℤ) : Type 0 where
  square : unsigned_abs (c *ℤ c) ≤ 49
  first : unsigned_abs (pos n *ℤ (c *ℤ c)) ≤ 200704
  second : unsigned_abs (c *ℤ s) ≤ 7311360
  size : unsigned_abs s ≤ 1044480
  few : n ≤ 4096
  short : unsigned_abs c ≤ 7

are_small : (n : ℕ) (s c : ℤ) → unsigned_abs c ≤ 7 → n ≤ 4096 → unsigned_abs s ≤ 1044480 → AreSmall n s c
are_small n s c h₁ h₂ h₃ =
    let square : unsigned_abs (c *ℤ c) ≤ 49 = product_most c c 7 7 h₁ h₁ in
    record {
      square = square;
      first = product_most (pos n) (c *ℤ c) 4096 49 h₂ square;
      second = product_most c s 7 1044480 h₁ h₃;
      size = h₃;
      few = h₂;
      short = h₁;
    }

pub growth_most : (n : ℕ) (s c : ℤ) → unsigned_abs c ≤ 7 → n ≤ 4096 → unsigned_abs s ≤ 1044480 →
    unsigned_abs (growth (pos n) s c) ≤ 16777216
growth_most n s c h₁ h₂ h₃ =
    let small : AreSmall n s c = are_small n s c h₁ h₂ h₃ in omega (arith, ints, small.first, small.second)

-- the code's numbers of 32 bits
abbrev pub code_first : ℕ → ℤ → ℤ
code_first n c = to_z w32 n *ℤ passed (passed c *ℤ passed c)

abbrev pub code_growth : ℕ → ℤ → ℤ → ℤ
code_growth n s c = passed (code_first n c) -ℤ passed (pos 2 *ℤ passed (passed c *ℤ passed s))

pub first_passes : (n : ℕ) (s c : ℤ) → unsigned_abs c ≤ 7 → n ≤ 4096 → unsigned_abs s ≤ 1044480 → code_first n c ≡ pos n *ℤ (c *ℤ c)
first_passes n s c h₁ h₂ h₃ =
    let small : AreSmall n s c = are_small n s c h₁ h₂ h₃ in
    ap₂ (λ y z. y *ℤ z) (to_z_pos w32 n (omega (arith, h₂)))
    (ap₂ (λ y z. passed (y *ℤ z)) (passed_small c (omega (arith, h₁))) (passed_small c (omega (arith, h₁)))
    ∙ passed_small (c *ℤ c) (omega (arith, small.square)))

pub growth_passes : (n : ℕ) (s c : ℤ) → unsigned_abs c ≤ 7 → n ≤ 4096 → unsigned_abs s ≤ 1044480 → code_growth n s c ≡ growth (pos n) s c
growth_passes n s c h₁ h₂ h₃ =
    let small : AreSmall n s c = are_small n s c h₁ h₂ h₃ in
    let one : passed (code_first n c) ≡ pos n *ℤ (c *ℤ c) =
    ap passed (first_passes n s c h₁ h₂ h₃) ∙ passed_small (pos n *ℤ (c *ℤ c)) (omega (arith, small.first)) in
    let inner : passed (passed c *ℤ passed s) ≡ c *ℤ s =
    ap₂ (λ y z. passed (y *ℤ z)) (passed_small c (omega (arith, h₁))) (passed_small s (omega (arith, h₃)))
    ∙ passed_small (c *ℤ s) (omega (arith, small.second)) in
    let two : passed (pos 2 *ℤ passed (passed c *ℤ passed s)) ≡ pos 2 *ℤ (c *ℤ s) =
    ap (λ z. passed (pos 2 *ℤ z)) inner ∙ passed_small (pos 2 *ℤ (c *ℤ s)) (omega (arith, ints, small.second)) in
    ap₂ (λ y z. y -ℤ z) one two

pub first_fits : (n : ℕ) (s c : ℤ) → unsigned_abs c ≤ 7 → n ≤ 4096 → unsigned_abs s ≤ 1044480 → FitsSigned w32 (code_first n c)
first_fits n s c h₁ h₂ h₃ =
    subst (λ z. FitsSigned w32 z) (sym (first_passes n s c h₁ h₂ h₃))
    (fits_signed_from_abs w32 (pos n *ℤ (c *ℤ c)) (omega (arith, (are_small n s c h₁ h₂ h₃).first)))

pub growth_fits : (n : ℕ) (s c : ℤ) → unsigned_abs c ≤ 7 → n ≤ 4096 → unsigned_abs s ≤ 1044480 → FitsSigned w32 (code_growth n s c)
growth_fits n s c h₁ h₂ h₃ =
    subst (λ z. FitsSigned w32 z) (sym (growth_passes n s c h₁ h₂ h₃))
    (fits_signed_from_abs w32 (growth (pos n) s c) (omega (arith, growth_most n s c h₁ h₂ h₃)))

pub byte_passes : (z : ℤ) → unsigned_abs z ≤ 7 → to_z w8 (of_z w8 (passed z)) ≡ z
byte_passes z h =
    ap (λ y. to_z w8 (of_z w8 y)) (passed_small z (omega (arith, h))) ∙ to_z-of_z w8 z (fits_signed_from_abs w8 z (omega (arith, h)))

pub clip3_inside : (low high z : ℤ) → low ≤ℤ z → z ≤ℤ high → z ≡ clip3 low high z
clip3_inside low high z least most = omega (arith, ints, clamps)
