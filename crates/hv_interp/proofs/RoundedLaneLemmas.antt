-- Lanes of 16 bits, rounded and clipped to samples, lane by lane.
use Rattle.std.proofs.Common.{◌≡◌, ℕ, zero, suc, ◌+◌, ◌%◌, ◌^◌, ◌<◌, ◌≤◌, Bool, true, false, List, [], ◌∷◌, ◌++◌, ℤ, pos, negsuc, ◌+ℤ◌, map, replicate, refl, ap, ap₂, ◌∙◌, arith, length, w8, T, Fits, slice_index_or}
use Rattle.std.proofs.lemmas.Bool.Decides.{nat_tests}
use Rattle.std.specs.Int.{int_shr}
use Rattle.std.specs.Int.RustNames.{unsigned_abs}
use Rattle.std.proofs.lemmas.Int.{ints, clamps, to_z-of_z, fits_signed_from_abs, wrapping_add_is, int_wrap_fits}
use lib.Signed.{lt_z, shr_z, non_neg}
use lib.Lanes.{Each1, sel_l, zip2, top}
use borrow.Rule.Simd.Lanes.{Asks1, act2, act1}
use borrow.Table.Row.{s_int}
use mir.Syntax.{cast, signed, unsigned, mask, lt, shr, wrap_add, w16}
use mir.Val.{of_z, to_z, SFits, hbits}
use Rattle.hv_lemmas.specs.Clipping.{clip1}
use Rattle.hv_inter_model.specs.Interpolation.{weighted_sample}
use Rattle.hv_interp.specs.Lanes.{lane}

abbrev less : List ℕ → List ℕ → List Bool
less xs ys = map (top (hbits w16)) (zip2 (act2 (mask (lt signed)) (s_int w16) (s_int w16) (s_int w16)) xs ys)

abbrev pub clamped : List ℕ → List ℕ → List ℕ → List ℕ
clamped xs lows highs =
    let raised = sel_l (less xs lows) lows xs in
    sel_l (less raised highs) raised highs

abbrev pub bytes : List ℕ → List ℕ
bytes xs = map (act1 (cast signed unsigned w8) (s_int w16) (s_int w8)) xs

abbrev pub shifted : ℕ → List ℤ → List ℕ
shifted n sums =
    zip2 (act2 (shr signed) (s_int w16) (s_int w16) (s_int w16))
    (zip2 (act2 wrap_add (s_int w16) (s_int w16) (s_int w16)) (map (of_z w16) sums) (replicate n 32)) (replicate n 6)

abbrev pub samples : ℕ → List ℤ → List ℕ
samples n sums = bytes (clamped (shifted n sums) (replicate n 0) (replicate n 255))

abbrev Asks : List ℕ → Type 0
Asks xs = Each1 (Asks1 (cast signed unsigned w8) (s_int w16)) xs

-- ---- what is clamped is a byte

is_byte : (z : ℤ) → lt_z z (pos 0) ≡ false → lt_z z (pos 255) ≡ true → T (non_neg z) × Fits w8 (unsigned_abs z)
is_byte (pos a) p q = (tt, record { fits = grind (arith, nat_tests, q) })
is_byte (negsuc a) p q = absurd (grind (arith, p))

between_asks : (n : ℕ) → lt_z (to_z w16 n) (pos 0) ≡ false → lt_z (to_z w16 n) (pos 255) ≡ true →
    Asks (clamped (n ∷ []) (0 ∷ []) (255 ∷ []))
between_asks n p q = rw (p, q) (is_byte (to_z w16 n) p q, tt)

asks_by : (a b : Bool) (n : ℕ) → lt_z (to_z w16 n) (pos 0) ≡ a → lt_z (to_z w16 n) (pos 255) ≡ b →
    Asks (clamped (n ∷ []) (0 ∷ []) (255 ∷ []))
asks_by true b n p q = rw (p) ((tt, record { fits = omega arith }), tt)
asks_by false true n p q = between_asks n p q
asks_by false false n p q = rw (p, q) ((tt, record { fits = omega arith }), tt)

pub all_ask : (n : ℕ) (xs : List ℕ) → Asks (clamped xs (replicate n 0) (replicate n 255))
all_ask zero [] = tt
all_ask (suc n) [] = tt
all_ask zero (x ∷ xs) = tt
all_ask (suc n) (x ∷ xs) = ((asks_by _ _ x refl refl).0, all_ask n xs)

-- ---- its value

below_0 : (n : ℕ) → lt_z (to_z w16 n) (pos 0) ≡ true → bytes (clamped (n ∷ []) (0 ∷ []) (255 ∷ [])) ≡ 0 ∷ []
below_0 n p = rw (p) refl

from_255 : (n : ℕ) → lt_z (to_z w16 n) (pos 0) ≡ false → lt_z (to_z w16 n) (pos 255) ≡ false →
    bytes (clamped (n ∷ []) (0 ∷ []) (255 ∷ [])) ≡ 255 ∷ []
from_255 n p q = rw (p, q) refl

between : (n : ℕ) (z : ℤ) → to_z w16 n ≡ z → lt_z z (pos 0) ≡ false → lt_z z (pos 255) ≡ true →
    bytes (clamped (n ∷ []) (0 ∷ []) (255 ∷ [])) ≡ unsigned_abs z ∷ []
between n z e p q = rw (e, p, e, q) (ap (λ v. unsigned_abs v ∷ []) e)

clipped_by : (a b : Bool) (n : ℕ) (z : ℤ) → to_z w16 n ≡ z → lt_z z (pos 0) ≡ a → lt_z z (pos 255) ≡ b →
    bytes (clamped (n ∷ []) (0 ∷ []) (255 ∷ [])) ≡ clip1 z ∷ []
clipped_by true b n z e p q =
    let is : 0 ≡ clip1 z = omega (arith, ints, clamps, p) in
    below_0 n (rw (e) p) ∙ ap (λ v. v ∷ []) is
clipped_by false true n z e p q =
    let is : unsigned_abs z ≡ clip1 z = omega (arith, ints, clamps, p, q) in
    between n z e p q ∙ ap (λ v. v ∷ []) is
clipped_by false false n z e p q =
    let is : 255 ≡ clip1 z = omega (arith, ints, clamps, q) in
    from_255 n (rw (e) p) (rw (e) q) ∙ ap (λ v. v ∷ []) is

pub clips_are : (n : ℕ) (lanes : List ℤ) → length lanes ≡ n → ((j : ℕ) → SFits w16 (lane lanes j)) →
    bytes (clamped (map (of_z w16) lanes) (replicate n 0) (replicate n 255)) ≡ map clip1 lanes
clips_are zero [] l f = refl
clips_are zero (z ∷ lanes) l f = absurd (omega arith)
clips_are (suc n) [] l f = absurd (omega arith)
clips_are (suc n) (z ∷ lanes) l f =
    ap₂ (λ a b. a ++ b) (clipped_by _ _ (of_z w16 z) z (to_z-of_z w16 z (f 0)) refl refl) (clips_are n lanes (omega arith) (λ j. f (suc j)))

fits : (z : ℤ) → unsigned_abs z ≤ 32767 → SFits w16 z
fits z h = fits_signed_from_abs w16 z (omega (arith, h))

-- rounding to 64ths
quotient_small : (z : ℤ) → unsigned_abs z ≤ 28592 → unsigned_abs (int_shr z 6) ≤ 28592
quotient_small (pos n) h = omega (arith, h)
quotient_small (negsuc n) h = omega (arith, h)

one : (z : ℤ) → unsigned_abs z ≤ 28560 → samples 1 (z ∷ []) ≡ weighted_sample z ∷ []
one z h =
    let r : ℤ = int_shr (z +ℤ pos 32) 6 in
    let near : unsigned_abs (z +ℤ pos 32) ≤ 28592 = omega (arith, ints, h) in
    let sum : to_z w16 ((of_z w16 z + 32) % 65536) ≡ z +ℤ pos 32 =
    wrapping_add_is w16 z (pos 32) (fits z (omega (arith, h))) (fits (pos 32) (omega arith)) ∙
    int_wrap_fits w16 (z +ℤ pos 32) (fits (z +ℤ pos 32) (omega (arith, near))) in
    let quotient : shifted 1 (z ∷ []) ≡ of_z w16 r ∷ [] = ap (λ v. of_z w16 (shr_z v (2 ^ 6)) ∷ []) sum in
    let value : to_z w16 (of_z w16 r) ≡ r = to_z-of_z w16 r (fits r (omega (arith, quotient_small (z +ℤ pos 32) near))) in
    ap (λ xs. bytes (clamped xs (0 ∷ []) (255 ∷ []))) quotient ∙ clipped_by _ _ (of_z w16 r) r value refl refl

pub samples_are : (n : ℕ) (sums : List ℤ) → length sums ≡ n → ((j : ℕ) → unsigned_abs (lane sums j) ≤ 28560) →
    samples n sums ≡ map weighted_sample sums
samples_are zero [] l small = refl
samples_are zero (z ∷ sums) l small = absurd (omega arith)
samples_are (suc n) [] l small = absurd (omega arith)
samples_are (suc n) (z ∷ sums) l small =
    ap₂ (λ a b. a ++ b) (one z (small 0)) (samples_are n sums (omega arith) (λ j. small (suc j)))

pub sample_at : (n j : ℕ) (sums : List ℤ) → length sums ≡ n → j < n →
    slice_index_or (map weighted_sample sums) j 0 ≡ weighted_sample (lane sums j)
sample_at zero j sums l p = absurd (omega (arith, p))
sample_at (suc n) j [] l p = absurd (omega arith)
sample_at (suc n) zero (z ∷ sums) l p = refl
sample_at (suc n) (suc j) (z ∷ sums) l p = sample_at n j sums (omega arith) (omega (arith, p))
