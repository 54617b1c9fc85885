-- Sums of taps times samples in lanes of 16 bits, lane by lane.
use Rattle.std.proofs.Common.{◌≡◌, ℕ, zero, suc, ◌+◌, ◌*◌, ◌%◌, ◌<◌, List, [], ◌∷◌, ℤ, pos, negsuc, ◌+ℤ◌, ◌*ℤ◌, map, replicate, refl, ap, ap₂, ◌∙◌, arith, length, w8}
use Rattle.std.proofs.lemmas.Int.{to_z-of_z, wrapping_mul_is, wrapping_add-bits, int_wrap-add_right, int_wrap_fits}
use Rattle.std.specs.Int.{int_wrap}
use lib.Lanes.{zip2}
use lib.ListN.{get_or}
use borrow.Rule.Simd.Lanes.{act2, act1}
use borrow.Table.Row.{s_int}
use mir.Syntax.{cast, signed, unsigned, wrap_add, wrap_mul, w16}
use mir.Val.{of_z, to_z, SFits}
use Rattle.hv_interp.specs.Lanes.{lane, with_tap}

abbrev pub widened : List ℕ → List ℕ
widened samples = map (act1 (cast unsigned signed w16) (s_int w8) (s_int w16)) samples

abbrev pub products : ℤ → ℕ → List ℕ → List ℕ
products tap n samples =
    zip2 (act2 wrap_mul (s_int w16) (s_int w16) (s_int w16)) (replicate n (of_z w16 tap)) (widened samples)

abbrev pub added : List ℤ → ℤ → ℕ → List ℕ → List ℤ
added sums tap n samples =
    map (to_z w16) (zip2 (act2 wrap_add (s_int w16) (s_int w16) (s_int w16)) (map (of_z w16) sums) (products tap n samples))

below : (z : ℤ) → SFits w16 z → of_z w16 z < 65536
below (pos n) f = omega (arith, f)
below (negsuc n) f = omega (arith, f)

byte_fits : (x : ℕ) → x < 256 → SFits w16 (pos x)
byte_fits x h = record { sfits = omega (arith, h) }

one : (s t : ℤ) (x : ℕ) → SFits w16 s → SFits w16 t → x < 256 → SFits w16 (s +ℤ (t *ℤ pos x)) →
    added (s ∷ []) t 1 (x ∷ []) ≡ (s +ℤ (t *ℤ pos x)) ∷ []
one s t x fs ft byte after =
    let m : ℕ = of_z w16 t * x % 65536 in
    let product : to_z w16 m ≡ int_wrap w16 (t *ℤ pos x) = wrapping_mul_is w16 t (pos x) ft (byte_fits x byte) in
    let sum : to_z w16 ((of_z w16 s + m) % 65536) ≡ s +ℤ (t *ℤ pos x) =
    wrapping_add-bits w16 (of_z w16 s) m (below s fs) (omega arith) ∙
    ap₂ (λ a b. int_wrap w16 (a +ℤ b)) (to_z-of_z w16 s fs) product ∙
    int_wrap-add_right w16 s (t *ℤ pos x) ∙ int_wrap_fits w16 (s +ℤ (t *ℤ pos x)) after in
    ap (λ z. z ∷ []) sum

pub tap_added : (n j : ℕ) (sums : List ℤ) (tap : ℤ) (samples : List ℕ) → length sums ≡ n → length samples ≡ n →
    SFits w16 tap → ((i : ℕ) → SFits w16 (lane sums i)) → ((i : ℕ) → get_or samples i 0 < 256) →
    ((i : ℕ) → SFits w16 (with_tap sums tap samples i)) → j < n →
    lane (added sums tap n samples) j ≡ with_tap sums tap samples j
tap_added zero j sums tap samples l m ft fs bytes after p = absurd (omega (arith, p))
tap_added (suc n) j [] tap samples l m ft fs bytes after p = absurd (omega arith)
tap_added (suc n) j (s ∷ sums) tap [] l m ft fs bytes after p = absurd (omega arith)
tap_added (suc n) zero (s ∷ sums) tap (x ∷ samples) l m ft fs bytes after p =
    ap (λ l. lane l 0) (one s tap x (fs 0) ft (bytes 0) (after 0))
tap_added (suc n) (suc j) (s ∷ sums) tap (x ∷ samples) l m ft fs bytes after p =
    tap_added n j sums tap samples (omega arith) (omega arith) ft (λ i. fs (suc i)) (λ i. bytes (suc i)) (λ i. after (suc i)) (omega (arith, p))

pub length-added : (n : ℕ) (sums : List ℤ) (tap : ℤ) (samples : List ℕ) → length sums ≡ n → length samples ≡ n →
    length (added sums tap n samples) ≡ n
length-added zero [] tap samples l m = refl
length-added zero (s ∷ sums) tap samples l m = absurd (omega arith)
length-added (suc n) [] tap samples l m = absurd (omega arith)
length-added (suc n) (s ∷ sums) tap [] l m = absurd (omega arith)
length-added (suc n) (s ∷ sums) tap (x ∷ samples) l m = ap suc (length-added n sums tap samples (omega arith) (omega arith))
