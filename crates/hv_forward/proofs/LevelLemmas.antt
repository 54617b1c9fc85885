-- Levels of eight coefficients, lane by lane.
use Rattle.std.proofs.Common.{All, Bool, List, [], add-one, ap, ap₂, arith, cond, drop, false, length, map, nat_lt, negsuc, pos, refl, replicate, suc, sym, take, true, zero, ℕ, ℤ, ◌%◌, ◌*ℤ◌, ◌*◌, ◌++◌, ◌+ℤ◌, ◌+◌, ◌-◌, ◌/◌, ◌<◌, ◌^◌, ◌∙◌, ◌∷◌, ◌≡◌, ◌≤◌}
use Rattle.std.specs.Int.RustNames.{unsigned_abs}
use Rattle.std.proofs.lemmas.Int.{int_wrap_fits, ints, to_z-of_z, unsigned_abs-mul, wrapping_add-bits, wrapping_add_is, wrapping_mul_is}
use mir.Syntax.{lt, mask, shr, signed, w16, w32, wrap_add, wrap_mul}
use mir.Val.{SFits, hbits, of_z, to_z}
use lib.Lanes.{put_chunk, sel_l, top, zip2}
use borrow.Rule.Simd.Lanes.{act2}
use borrow.Table.Row.{s_int}
use Rattle.std.proofs.Math.Nat.{add-div_right, div-eq_of_lt, div-le_self, mul-le-mul, pow-le-pow_right}
use Rattle.std.specs.Prelude.{neg_ℤ}
use lib.Signed.{lt_z, shr_z}
use Rattle.std.proofs.lemmas.Bool.Decides.{nat_tests}
use Rattle.std.proofs.lemmas.Bool.{cases_lt}
use mathlib.Core.Logic.{⊎_elim}
use Rattle.hv_sample_model.specs.Quantisation.{with_sign_of}
use Rattle.hv_forward.specs.Levels.{level_by, rounded_level}
use Rattle.std.specs.Int.{int_wrap}
use Rattle.hv_lanes.specs.Lanes.{at}
use Rattle.std.proofs.Math.IntN.{*ℤ-negsuc, *ℤ_comm}
use Rattle.hv_lemmas.specs.Clipping.{clip16}
use Rattle.hv_lanes.proofs.NumberLemmas.{small_number}
use Rattle.hv_lanes.specs.Ranges.{Have16Bits}
use lib.Seq.{take_all}
use Rattle.hv_lanes.proofs.LaneStepLemmas.{clips_kept, kept, passed, small_numbers, fits}
use Rattle.std.proofs.lemmas.List.{get_or-map, length-drop, length-map, length-take-le}
use Rattle.std.proofs.lemmas.Simd.{put_chunk_whole}
use borrow.Rule.Slice.PartMut.{put_mid}
use Rattle.hv_lanes.specs.Passes.{HasFirst}
use Rattle.hv_lanes.proofs.PartLemmas.{HasFirst-put, at_part}

abbrev multiplied : List ℤ → List ℕ → List ℤ
multiplied zs fs = map (to_z w32) (zip2 (act2 wrap_mul (s_int w32) (s_int w32) (s_int w32)) (map (of_z w32) zs) fs)

product_is : (z : ℤ) (f : ℕ) → f ≤ 26214 → unsigned_abs z ≤ 32768 → to_z w32 (of_z w32 z * f % 4294967296) ≡ z *ℤ pos f
product_is z f few small =
    let size : unsigned_abs z * f ≤ 32768 * 26214 = mul-le-mul small few in
    let product : unsigned_abs (z *ℤ pos f) ≡ unsigned_abs z * f = unsigned_abs-mul z (pos f) in
    wrapping_mul_is w32 z (pos f) (fits z (omega (arith, small))) (fits (pos f) (omega (arith, ints, few))) ∙
    int_wrap_fits w32 (z *ℤ pos f) (fits (z *ℤ pos f) (omega (arith, product, size)))

pub products_are : (n f : ℕ) (zs : List ℤ) → length zs ≡ n → f ≤ 26214 → All (λ z. unsigned_abs z ≤ 32768) zs → multiplied zs (replicate n f) ≡ map (λ z. z *ℤ pos f) zs
products_are zero f [] l few h = refl
products_are zero f (z ∷ zs) l few h = absurd (omega arith)
products_are (suc n) f [] l few h = absurd (omega arith)
products_are (suc n) f (z ∷ zs) l few h =
    ap₂ (λ a b. a ∷ b) (product_is z f few (h 0 z (omega arith))) (products_are n f zs (omega arith) few (λ k d below. h (suc k) d (omega (arith, below))))

-- how great products are
pub products_small : (f : ℕ) (zs : List ℤ) → f ≤ 26214 → All (λ z. unsigned_abs z ≤ 32768) zs → All (λ z. unsigned_abs z ≤ 1073741824) (map (λ z. z *ℤ pos f) zs)
products_small f [] few h k d below = absurd (omega (arith, below))
products_small f (z ∷ zs) few h zero d below =
    let size : unsigned_abs z * f ≤ 32768 * 26214 = mul-le-mul (h 0 z (omega arith)) few in
    let product : unsigned_abs (z *ℤ pos f) ≡ unsigned_abs z * f = unsigned_abs-mul z (pos f) in
    omega (arith, product, size)
products_small f (z ∷ zs) few h (suc k) d below = products_small f zs few (λ k d below. h (suc k) d (omega (arith, below))) k d (omega (arith, below))

-- a number by a step, rounded to 0 after the offset is added to its size
below_0 : (n o d : ℕ) → 2 * o < d → suc n + o < d → shr_z (negsuc n +ℤ pos o +ℤ pos (d - 1 - 2 * o)) d ≡ neg_ℤ (pos ((suc n + o) / d))
below_0 n o d part less =
    let sum : negsuc n +ℤ pos o +ℤ pos (d - 1 - 2 * o) ≡ pos (d - 1 - (suc n + o)) = omega (arith, ints, part, less) in
    let none : (d - 1 - (suc n + o)) / d ≡ 0 = div-eq_of_lt (omega (arith, less)) in
    let no_step : (suc n + o) / d ≡ 0 = div-eq_of_lt less in
    ap (λ z. shr_z z d) sum ∙ ap pos none ∙ sym (ap (λ q. neg_ℤ (pos q)) no_step)

steps_below_0 : (n o d : ℕ) → 2 * o < d → d ≤ suc n + o → shr_z (negsuc n +ℤ pos o +ℤ pos (d - 1 - 2 * o)) d ≡ neg_ℤ (pos ((suc n + o) / d))
steps_below_0 n o d part more =
    let sum : negsuc n +ℤ pos o +ℤ pos (d - 1 - 2 * o) ≡ negsuc (suc n + o - d) = omega (arith, ints, part, more) in
    let rest : suc n + o ≡ suc n + o - d + d = omega (arith, more) in
    let quotient : (suc n + o) / d ≡ suc ((suc n + o - d) / d) = ap (λ m. m / d) rest ∙ add-div_right (suc n + o - d) (omega (arith, part)) ∙ add-one _ in
    ap (λ z. shr_z z d) sum ∙ sym (ap (λ q. neg_ℤ (pos q)) quotient)

towards_0 : (z : ℤ) (o d : ℕ) → 2 * o < d → shr_z (z +ℤ pos o +ℤ pos (cond (lt_z z (pos 0)) (d - 1 - 2 * o) 0)) d ≡ with_sign_of z ((unsigned_abs z + o) / d)
towards_0 (pos n) o d part =
    let no : nat_lt n 0 ≡ false = grind (arith, nat_tests) in
    let sum : n + o + 0 ≡ n + o = omega arith in
    rw no (ap (λ m. pos (m / d)) sum)
towards_0 (negsuc n) o d part =
    ⊎_elim
    (λ (less : suc n + o < d). below_0 n o d part less)
    (λ (more : d ≤ suc n + o). steps_below_0 n o d part more)
    (cases_lt (suc n + o) d)

abbrev chosen : List ℕ → List ℕ → List ℕ → List ℕ
chosen zs os ms =
    sel_l (map (top (hbits w32)) (zip2 (act2 (mask (lt signed)) (s_int w32) (s_int w32) (s_int w32)) zs os)) ms os

abbrev stepped : List ℕ → List ℕ → List ℕ → List ℕ → List ℕ → List ℤ
stepped zs offsets zeros others shifts =
    map (to_z w32) (zip2 (act2 (shr signed) (s_int w32) (s_int w32) (s_int w32))
    (zip2 (act2 wrap_add (s_int w32) (s_int w32) (s_int w32))
    (zip2 (act2 wrap_add (s_int w32) (s_int w32) (s_int w32)) zs offsets)
    (chosen zs zeros others)) shifts)

other_small : (z : ℤ) (d o : ℕ) → cond (lt_z z (pos 0)) (d - 1 - 2 * o) 0 ≤ d
other_small z d o = by (lt_z z (pos 0))
  where
    by : (b : Bool) → cond b (d - 1 - 2 * o) 0 ≤ d
    by true = omega arith
    by false = omega arith

select_is : (b : Bool) (m : ℕ) → cond (top 31 (cond b 4294967295 0)) m 0 ≡ cond b m 0
select_is true m = refl
select_is false m = refl

size_with_sign : (z : ℤ) (q : ℕ) → unsigned_abs (with_sign_of z q) ≡ q
size_with_sign (pos n) q =
    let no : nat_lt n 0 ≡ false = grind (arith, nat_tests) in
    rw no refl
size_with_sign (negsuc n) zero = refl
size_with_sign (negsuc n) (suc q) = refl

level_small : (z : ℤ) (o s : ℕ) → 2 * o < 2 ^ s → 2 ^ s ≤ 134217728 → unsigned_abs z ≤ 1073741824 → unsigned_abs (rounded_level o s z) ≤ 2000000000
level_small z o s part small h =
    omega (arith, part, small, h, size_with_sign z ((unsigned_abs z + o) / 2 ^ s), div-le_self (unsigned_abs z + o) (2 ^ s))

step_is : (z : ℤ) (o s m : ℕ) → s ≤ 27 → 2 * o < 2 ^ s → m ≡ 2 ^ s - 1 - 2 * o → unsigned_abs z ≤ 1073741824 → stepped (of_z w32 z ∷ []) (o ∷ []) (0 ∷ []) (m ∷ []) (s ∷ []) ≡ rounded_level o s z ∷ []
step_is z o s m greatest part e h =
    let d : ℕ = 2 ^ s in
    let small : d ≤ 134217728 = pow-le-pow_right {n = 2} (omega arith) {i = s} {j = 27} greatest in
    let other : ℕ = cond (lt_z z (pos 0)) (d - 1 - 2 * o) 0 in
    let few : other ≤ d = other_small z d o in
    let same : to_z w32 (of_z w32 z) ≡ z = to_z-of_z w32 z (fits z (omega (arith, h))) in
    let offset_fits : SFits w32 (pos o) = fits (pos o) (omega (arith, ints, part, small)) in
    let other_fits : SFits w32 (pos other) = fits (pos other) (omega (arith, ints, few, small)) in
    let near : unsigned_abs (z +ℤ pos o) ≤ 1200000000 = omega (arith, ints, h, part, small) in
    let nearer : unsigned_abs (z +ℤ pos o +ℤ pos other) ≤ 2000000000 = omega (arith, ints, near, few, small) in
    let chosen_is : cond (top 31 (cond (lt_z (to_z w32 (of_z w32 z)) (pos 0)) 4294967295 0)) m 0 ≡ other =
    ap (λ v. cond (top 31 (cond (lt_z v (pos 0)) 4294967295 0)) m 0) same ∙ select_is (lt_z z (pos 0)) m ∙ ap (λ m. cond (lt_z z (pos 0)) m 0) e in
    let first : to_z w32 ((of_z w32 z + o) % 4294967296) ≡ z +ℤ pos o =
    wrapping_add_is w32 z (pos o) (fits z (omega (arith, h))) offset_fits ∙ int_wrap_fits w32 (z +ℤ pos o) (fits (z +ℤ pos o) (omega (arith, near))) in
    let sum : to_z w32 (((of_z w32 z + o) % 4294967296 + other) % 4294967296) ≡ z +ℤ pos o +ℤ pos other =
    wrapping_add-bits w32 ((of_z w32 z + o) % 4294967296) other (omega arith) (omega (arith, few, small)) ∙
    ap₂ (λ a b. int_wrap w32 (a +ℤ b)) first (to_z-of_z w32 (pos other) other_fits) ∙ int_wrap_fits w32 (z +ℤ pos o +ℤ pos other) (fits (z +ℤ pos o +ℤ pos other) nearer) in
    let lane : ℕ → ℤ = λ m. to_z w32 (of_z w32 (shr_z (to_z w32 (((of_z w32 z + o) % 4294967296 + m) % 4294967296)) d)) in
    ap (λ m. lane m ∷ []) chosen_is ∙ ap (λ v. to_z w32 (of_z w32 (shr_z v d)) ∷ []) sum ∙ ap (λ v. to_z w32 (of_z w32 v) ∷ []) (towards_0 z o d part) ∙
    ap (λ v. v ∷ []) (to_z-of_z w32 (rounded_level o s z) (fits (rounded_level o s z) (level_small z o s part small h)))

pub levels_are : (n o s m : ℕ) (zs : List ℤ) → length zs ≡ n → s ≤ 27 → 2 * o < 2 ^ s → m ≡ 2 ^ s - 1 - 2 * o → All (λ z. unsigned_abs z ≤ 1073741824) zs
    → stepped (map (of_z w32) zs) (replicate n o) (replicate n 0) (replicate n m) (replicate n s) ≡ map (rounded_level o s) zs
levels_are zero o s m [] l greatest part e h = refl
levels_are zero o s m (z ∷ zs) l greatest part e h = absurd (omega arith)
levels_are (suc n) o s m [] l greatest part e h = absurd (omega arith)
levels_are (suc n) o s m (z ∷ zs) l greatest part e h =
    ap₂ (λ a b. a ++ b) (step_is z o s m greatest part e (h 0 z (omega arith))) (levels_are n o s m zs (omega arith) greatest part e (λ k d below. h (suc k) d (omega (arith, below))))

pub levels_fit : (o s : ℕ) (zs : List ℤ) → s ≤ 27 → 2 * o < 2 ^ s → All (λ z. unsigned_abs z ≤ 1073741824) zs → (k : ℕ) → SFits w32 (at (map (rounded_level o s) zs) k)
levels_fit o s [] greatest part h k = fits (pos 0) (omega (arith, ints))
levels_fit o s (z ∷ zs) greatest part h zero =
    let small : 2 ^ s ≤ 134217728 = pow-le-pow_right {n = 2} (omega arith) {i = s} {j = 27} greatest in
    fits (rounded_level o s z) (level_small z o s part small (h 0 z (omega arith)))
levels_fit o s (z ∷ zs) greatest part h (suc k) = levels_fit o s zs greatest part (λ k d below. h (suc k) d (omega (arith, below))) k

-- the sign of a product by a factor above 0, and its size
level_of_product : (f o s : ℕ) (z : ℤ) → 0 < f → clip16 (rounded_level o s (z *ℤ pos f)) ≡ level_by f o s z
level_of_product zero o s z some = absurd (omega (arith, some))
level_of_product (suc f) o s (pos n) some =
    let no : nat_lt n 0 ≡ false = grind (arith, nat_tests) in
    let never : nat_lt (n * suc f) 0 ≡ false = grind (arith, nat_tests) in
    rw (no, never) refl
level_of_product (suc f) o s (negsuc n) some =
    let m : ℕ = suc f * suc n - 1 in
    let first : 1 ≤ suc f = omega arith in
    let second : 1 ≤ suc n = omega arith in
    let one : 1 * 1 ≤ suc f * suc n = mul-le-mul first second in
    let more : suc f * suc n ≡ suc m = omega (arith, one) in
    let is : negsuc n *ℤ pos (suc f) ≡ negsuc m = *ℤ_comm (negsuc n) (pos (suc f)) ∙ *ℤ-negsuc (pos (suc f)) n ∙ ap (λ k. neg_ℤ (pos k)) more in
    let size : suc m ≡ suc n * suc f = ap unsigned_abs (sym is) ∙ unsigned_abs-mul (negsuc n) (pos (suc f)) in
    ap (λ z. clip16 (rounded_level o s z)) is ∙ ap (λ k. clip16 (neg_ℤ (pos ((k + o) / 2 ^ s)))) size

pub levels_by : (f o s : ℕ) (zs : List ℤ) → 0 < f → map clip16 (map (rounded_level o s) (map (λ z. z *ℤ pos f) zs)) ≡ map (level_by f o s) zs
levels_by f o s [] some = refl
levels_by f o s (z ∷ zs) some = ap₂ (λ a b. a ∷ b) (level_of_product f o s z some) (levels_by f o s zs some)

pub small_of_bits : (zs : List ℤ) → Have16Bits zs → All (λ z. unsigned_abs z ≤ 32768) zs
small_of_bits zs h k d below = small_number _ (h k d below)

wide_of_bits : (zs : List ℤ) → Have16Bits zs → (k : ℕ) → SFits w32 (at zs k)
wide_of_bits [] h k = fits (pos 0) (omega (arith, ints))
wide_of_bits (z ∷ zs) h zero = fits z (omega (arith, small_number z (h 0 z (omega arith))))
wide_of_bits (z ∷ zs) h (suc k) = wide_of_bits zs (λ k d below. h (suc k) d (omega (arith, below))) k

-- what each step keeps
pub coefficients_kept : (cs : List ℤ) → length cs ≡ 8 → Have16Bits cs → passed w32 (take 8 cs) ≡ cs
coefficients_kept cs l h = ap (passed w32) (take_all 8 cs (omega (arith, l))) ∙ kept w32 cs (wide_of_bits cs h)

pub products_kept : (f : ℕ) (cs ps : List ℤ) → length cs ≡ 8 → Have16Bits cs → f ≤ 26214 → ps ≡ map (λ z. z *ℤ pos f) (passed w32 (take 8 cs)) → passed w32 ps ≡ map (λ z. z *ℤ pos f) cs
products_kept f cs ps l h few e =
    let is : ps ≡ map (λ z. z *ℤ pos f) cs = e ∙ ap (map (λ z. z *ℤ pos f)) (coefficients_kept cs l h) in
    ap (passed w32) is ∙ kept w32 (map (λ z. z *ℤ pos f) cs) (small_numbers (map (λ z. z *ℤ pos f) cs) (products_small f cs few (small_of_bits cs h)))

pub levels_kept : (f o s : ℕ) (cs ps rs : List ℤ) → length cs ≡ 8 → Have16Bits cs → f ≤ 26214 → s ≤ 27 → 2 * o < 2 ^ s → ps ≡ map (λ z. z *ℤ pos f) (passed w32 (take 8 cs)) → rs ≡ map (rounded_level o s) (passed w32 ps)
    → passed w32 rs ≡ map (rounded_level o s) (map (λ z. z *ℤ pos f) cs)
levels_kept f o s cs ps rs l h few greatest part e g =
    let products : List ℤ = map (λ z. z *ℤ pos f) cs in
    let is : rs ≡ map (rounded_level o s) products = g ∙ ap (map (rounded_level o s)) (products_kept f cs ps l h few e) in
    ap (passed w32) is ∙ kept w32 (map (rounded_level o s) products) (levels_fit o s products greatest part (products_small f cs few (small_of_bits cs h)))

pub eight_levels : (f o s : ℕ) (cs ps rs ls : List ℤ) → length cs ≡ 8 → Have16Bits cs → 0 < f → f ≤ 26214 → s ≤ 27 → 2 * o < 2 ^ s → ps ≡ map (λ z. z *ℤ pos f) (passed w32 (take 8 cs)) → rs ≡ map (rounded_level o s) (passed w32 ps) → ls ≡ map clip16 (passed w32 rs)
    → ls ≡ map (level_by f o s) cs
eight_levels f o s cs ps rs ls l h some few greatest part e g d =
    d ∙ ap (map clip16) (levels_kept f o s cs ps rs l h few greatest part e g) ∙ levels_by f o s cs some

pub written_levels : (f o s : ℕ) (cs ls out : List ℤ) → length cs ≡ 8 → length out ≡ 8 → ls ≡ map (level_by f o s) cs → put_chunk 0 out (passed w16 ls) ≡ map (level_by f o s) cs
written_levels f o s cs ls out l m e =
    ap (put_chunk 0 out) (ap (passed w16) e ∙ clips_kept (λ z. with_sign_of z ((unsigned_abs z * f + o) / 2 ^ s)) cs) ∙
    put_chunk_whole out (map (level_by f o s) cs) (m ∙ sym (length-map cs (level_by f o s) ∙ l))

-- eight more levels
pub eight_more : (g k : ℕ) (f h : ℤ → ℤ) (numbers out new : List ℤ) → 8 * g + 8 ≤ length numbers → length out ≡ length numbers → ((z : ℤ) → f z ≡ h z)
    → HasFirst (8 * g) (λ i. h (at numbers i)) out → new ≡ map f (take (8 * g + 8 - 8 * g) (drop (8 * g) numbers)) → HasFirst (8 * g + 8) (λ i. h (at numbers i)) (put_mid (8 * g) k out new)
eight_more g k f h numbers out new inside alike same old is =
    let few : 8 * g + 8 - 8 * g ≡ 8 = omega arith in
    let part : List ℤ = take 8 (drop (8 * g) numbers) in
    let long : length part ≡ 8 = length-take-le 8 (drop (8 * g) numbers) (omega (arith, inside, length-drop (8 * g) numbers)) in
    let values : new ≡ map f part = is ∙ ap (λ n. map f (take n (drop (8 * g) numbers))) few in
    let count : length new ≡ 8 = ap length values ∙ length-map part f ∙ long in
    let room : 8 * g ≤ length out = omega (arith, inside, alike) in
    HasFirst-put (8 * g) 8 k (λ i. h (at numbers i)) out new room count old
    (λ n below.
    ap (λ v. at v n) values ∙ get_or-map f part n (pos 0) (pos 0) (omega (arith, below, long)) ∙ same (at part n) ∙ ap h (at_part (8 * g) 8 n numbers below))
