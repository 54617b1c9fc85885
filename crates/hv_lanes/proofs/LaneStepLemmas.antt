-- Sums and differences of lanes, joined lanes, and their means.
use Rattle.std.proofs.Common.{All, Bool, List, [], ap, ap₂, arith, false, length, length-append, map, negsuc, pos, refl, replicate, suc, true, zero, ℕ, ℤ, ◌%◌, ◌*◌, ◌++◌, ◌+ℤ◌, ◌+◌, ◌-◌, ◌<◌, ◌^◌, ◌∙◌, ◌∷◌, ◌≡◌, ◌≤◌}
use lib.Lanes.{Each1, sel_l, top, zip2}
use borrow.Rule.Simd.Lanes.{Asks1, act1, act2}
use borrow.Table.Row.{s_int}
use mir.Syntax.{Width, cast, lt, mask, shr, signed, w16, w32, wrap_add, wrap_sub}
use mir.Val.{SFits, hbits, of_z, to_z}
use Rattle.hv_lanes.specs.Lanes.{Numbers32, at}
use Rattle.std.proofs.lemmas.Int.{clamps, fits_signed_from_abs, int_wrap_fits, ints, to_z-of_z, wrapping_add_is, wrapping_sub_is}
use Rattle.std.specs.Int.{int_wrap}
use Rattle.std.specs.Prelude.{◌-ℤ◌}
use lib.ListN.{get_or}
use lib.Signed.{lt_z, shr_z}
use Rattle.hv_lemmas.specs.Clipping.{clip16}
use Rattle.std.specs.Int.RustNames.{unsigned_abs}
use Rattle.std.proofs.Math.Nat.{mul-le-mul_left, pow-le-pow_right}
use Rattle.hv_sample_model.specs.Quantisation.{rounded}
use Rattle.hv_lanes.proofs.NumberLemmas.{size_of_rounded}
use Rattle.std.proofs.lemmas.Nat.{pow_pos}
use Rattle.std.proofs.lemmas.List.{length-map}

abbrev pub added : List ℤ → List ℤ → List ℕ
added xs ys = zip2 (act2 wrap_add (s_int w32) (s_int w32) (s_int w32)) (map (of_z w32) xs) (map (of_z w32) ys)

abbrev pub differed : List ℤ → List ℤ → List ℕ
differed xs ys = zip2 (act2 wrap_sub (s_int w32) (s_int w32) (s_int w32)) (map (of_z w32) xs) (map (of_z w32) ys)

later : (x : ℤ) (xs : List ℤ) → Numbers32 (x ∷ xs) → Numbers32 xs
later x xs f k = f (suc k)

pub length-added : (n : ℕ) (xs ys : List ℤ) → length xs ≡ n → length ys ≡ n → length (map (to_z w32) (added xs ys)) ≡ n
length-added zero [] ys l m = refl
length-added zero (x ∷ xs) ys l m = absurd (omega arith)
length-added (suc n) [] ys l m = absurd (omega arith)
length-added (suc n) (x ∷ xs) [] l m = absurd (omega arith)
length-added (suc n) (x ∷ xs) (y ∷ ys) l m = ap suc (length-added n xs ys (omega arith) (omega arith))

pub added_at : (n j : ℕ) (xs ys : List ℤ) → length xs ≡ n → length ys ≡ n → Numbers32 xs → Numbers32 ys → j < n → at (map (to_z w32) (added xs ys)) j ≡ int_wrap w32 (at xs j +ℤ at ys j)
added_at zero j xs ys l m f g p = absurd (omega (arith, p))
added_at (suc n) j [] ys l m f g p = absurd (omega arith)
added_at (suc n) j (x ∷ xs) [] l m f g p = absurd (omega arith)
added_at (suc n) zero (x ∷ xs) (y ∷ ys) l m f g p = wrapping_add_is w32 x y (f 0) (g 0)
added_at (suc n) (suc j) (x ∷ xs) (y ∷ ys) l m f g p = added_at n j xs ys (omega arith) (omega arith) (later x xs f) (later y ys g) (omega (arith, p))

pub differed_at : (n j : ℕ) (xs ys : List ℤ) (rest : List ℕ) → length xs ≡ n → length ys ≡ n → Numbers32 xs → Numbers32 ys → j < n → to_z w32 (get_or (differed xs ys ++ rest) j 0) ≡ int_wrap w32 (at xs j -ℤ at ys j)
differed_at zero j xs ys rest l m f g p = absurd (omega (arith, p))
differed_at (suc n) j [] ys rest l m f g p = absurd (omega arith)
differed_at (suc n) j (x ∷ xs) [] rest l m f g p = absurd (omega arith)
differed_at (suc n) zero (x ∷ xs) (y ∷ ys) rest l m f g p = wrapping_sub_is w32 x y (f 0) (g 0)
differed_at (suc n) (suc j) (x ∷ xs) (y ∷ ys) rest l m f g p = differed_at n j xs ys rest (omega arith) (omega arith) (later x xs f) (later y ys g) (omega (arith, p))

-- a list of four is its four numbers
pub four_numbers : (P : List ℤ → Type 0) → ((a b c d : ℤ) → P (a ∷ b ∷ c ∷ d ∷ [])) → (xs : List ℤ) → length xs ≡ 4 → P xs
four_numbers P h [] l = absurd (omega arith)
four_numbers P h (a ∷ []) l = absurd (omega arith)
four_numbers P h (a ∷ b ∷ []) l = absurd (omega arith)
four_numbers P h (a ∷ b ∷ c ∷ []) l = absurd (omega arith)
four_numbers P h (a ∷ b ∷ c ∷ d ∷ []) l = h a b c d
four_numbers P h (a ∷ b ∷ c ∷ d ∷ e ∷ xs) l = absurd (omega arith)

abbrev less : List ℕ → List ℕ → List Bool
less xs ys = map (top (hbits w32)) (zip2 (act2 (mask (lt signed)) (s_int w32) (s_int w32) (s_int w32)) xs ys)

abbrev pub clamped : List ℕ → List ℕ → List ℕ → List ℕ
clamped xs lows highs =
    let raised = sel_l (less xs lows) lows xs in
    sel_l (less raised highs) raised highs

abbrev pub narrowed : List ℕ → List ℤ
narrowed xs = map (to_z w16) (map (act1 (cast signed signed w16) (s_int w32) (s_int w16)) xs)

fits16 : (z : ℤ) → lt_z z (negsuc 32767) ≡ false → lt_z z (pos 32767) ≡ true → SFits w16 z
fits16 (pos n) p q = record { sfits = omega (arith, ints, p, q) }
fits16 (negsuc n) p q = record { sfits = omega (arith, ints, p, q) }

fits_by : (a b : Bool) (n : ℕ) → lt_z (to_z w32 n) (negsuc 32767) ≡ a → lt_z (to_z w32 n) (pos 32767) ≡ b → Each1 (Asks1 (cast signed signed w16) (s_int w32)) (clamped (n ∷ []) (4294934528 ∷ []) (32767 ∷ []))
fits_by true b n p q = rw (p) (record { sfits = omega arith }, tt)
fits_by false true n p q = rw (p, q) (fits16 (to_z w32 n) p q, tt)
fits_by false false n p q = rw (p, q) (record { sfits = omega arith }, tt)

pub all_fit : (n : ℕ) (xs : List ℕ) → Each1 (Asks1 (cast signed signed w16) (s_int w32)) (clamped xs (replicate n 4294934528) (replicate n 32767))
all_fit zero [] = tt
all_fit (suc n) [] = tt
all_fit zero (x ∷ xs) = tt
all_fit (suc n) (x ∷ xs) = ((fits_by _ _ x refl refl).0, all_fit n xs)

low : (n : ℕ) → lt_z (to_z w32 n) (negsuc 32767) ≡ true → narrowed (clamped (n ∷ []) (4294934528 ∷ []) (32767 ∷ [])) ≡ negsuc 32767 ∷ []
low n p = rw (p) refl

between : (n : ℕ) (z : ℤ) → to_z w32 n ≡ z → SFits w16 z → lt_z z (negsuc 32767) ≡ false → lt_z z (pos 32767) ≡ true → narrowed (clamped (n ∷ []) (4294934528 ∷ []) (32767 ∷ [])) ≡ z ∷ []
between n z e f p q = rw (e, p, e, q, e) (ap (λ v. v ∷ []) (to_z-of_z w16 z f))

high : (n : ℕ) → lt_z (to_z w32 n) (negsuc 32767) ≡ false → lt_z (to_z w32 n) (pos 32767) ≡ false → narrowed (clamped (n ∷ []) (4294934528 ∷ []) (32767 ∷ [])) ≡ pos 32767 ∷ []
high n p q = rw (p, q) refl

same_by : (a b : Bool) (n : ℕ) → lt_z (to_z w32 n) (negsuc 32767) ≡ a → lt_z (to_z w32 n) (pos 32767) ≡ b → narrowed (clamped (n ∷ []) (4294934528 ∷ []) (32767 ∷ [])) ≡ clip16 (to_z w32 n) ∷ []
same_by true b n p q =
    let is : negsuc 32767 ≡ clip16 (to_z w32 n) = omega (arith, ints, clamps, p) in
    low n p ∙ ap (λ v. v ∷ []) is
same_by false true n p q =
    let is : to_z w32 n ≡ clip16 (to_z w32 n) = omega (arith, ints, clamps, p, q) in
    between n (to_z w32 n) refl (fits16 (to_z w32 n) p q) p q ∙ ap (λ v. v ∷ []) is
same_by false false n p q =
    let is : pos 32767 ≡ clip16 (to_z w32 n) = omega (arith, ints, clamps, q) in
    high n p q ∙ ap (λ v. v ∷ []) is

abbrev pub shifted : List ℕ → List ℕ → List ℕ → List ℕ
shifted xs rounds shifts =
    zip2 (act2 (shr signed) (s_int w32) (s_int w32) (s_int w32))
    (zip2 (act2 wrap_add (s_int w32) (s_int w32) (s_int w32)) xs rounds) shifts

pub fits : (z : ℤ) → unsigned_abs z ≤ 2000000000 → SFits w32 z
fits z h = fits_signed_from_abs w32 z (omega (arith, h))

step_small : (s : ℕ) → s ≤ 12 → 2 ^ (s - 1) ≤ 2048
step_small s few = pow-le-pow_right {n = 2} (omega arith) {i = s - 1} {j = 11} (omega (arith, few))

one : (z : ℤ) (s : ℕ) → 0 < s → s ≤ 12 → unsigned_abs z ≤ 1073741824 → shifted (of_z w32 z ∷ []) (1 * 2 ^ (s - 1) % 4294967296 ∷ []) (s ∷ []) ≡ of_z w32 (rounded z s) ∷ []
one z s some few h =
    let step : ℕ = 2 ^ (s - 1) in
    let small : step ≤ 2048 = step_small s few in
    let e : 1 * step % 4294967296 ≡ step = omega (arith, small) in
    let near : unsigned_abs (z +ℤ pos step) ≤ 2000000000 = omega (arith, ints, h, small) in
    let sum : to_z w32 ((of_z w32 z + step) % 4294967296) ≡ z +ℤ pos step =
    wrapping_add_is w32 z (pos step) (fits z (omega (arith, h))) (fits (pos step) (omega (arith, ints, small))) ∙ int_wrap_fits w32 (z +ℤ pos step) (fits (z +ℤ pos step) near) in
    ap (λ m. shifted (of_z w32 z ∷ []) (m ∷ []) (s ∷ [])) e ∙ ap (λ v. of_z w32 (shr_z v (2 ^ s)) ∷ []) sum

mean_small : (z : ℤ) (s : ℕ) → 0 < s → unsigned_abs z ≤ 1073741824 → unsigned_abs (rounded z s) ≤ 1073741824
mean_small z s some h =
    let step : 1 ≤ 2 ^ s = pow_pos s in
    let more : 1073741824 * 1 ≤ 1073741824 * 2 ^ s = mul-le-mul_left 1073741824 step in
    size_of_rounded z s 1073741824 some (omega (arith, h, more))

pub rounded_is : (n s : ℕ) (zs : List ℤ) → 0 < s → s ≤ 12 → length zs ≡ n → All (λ z. unsigned_abs z ≤ 1073741824) zs
    → map (to_z w32) (shifted (map (of_z w32) zs) (replicate n (1 * 2 ^ (s - 1) % 4294967296)) (replicate n s)) ≡ map (λ z. rounded z s) zs
rounded_is zero s [] some few l h = refl
rounded_is zero s (z ∷ zs) some few l h = absurd (omega arith)
rounded_is (suc n) s [] some few l h = absurd (omega arith)
rounded_is (suc n) s (z ∷ zs) some few l h =
    let head : unsigned_abs z ≤ 1073741824 = h 0 z (omega arith) in
    let here : map (to_z w32) (shifted (of_z w32 z ∷ []) (1 * 2 ^ (s - 1) % 4294967296 ∷ []) (s ∷ [])) ≡ rounded z s ∷ [] =
    ap (map (to_z w32)) (one z s some few head) ∙
    ap (λ v. v ∷ []) (to_z-of_z w32 (rounded z s) (fits (rounded z s) (omega (arith, mean_small z s some head)))) in
    ap₂ (λ a b. a ++ b) here (rounded_is n s zs some few (omega arith) (λ k d below. h (suc k) d (omega (arith, below))))

pub means_small : (s : ℕ) (zs : List ℤ) → 0 < s → All (λ z. unsigned_abs z ≤ 1073741824) zs → All (λ z. unsigned_abs z ≤ 1073741824) (map (λ z. rounded z s) zs)
means_small s [] some h k d below = absurd (omega (arith, below))
means_small s (z ∷ zs) some h zero d below = mean_small z s some (h 0 z (omega arith))
means_small s (z ∷ zs) some h (suc k) d below = means_small s zs some (λ k d below. h (suc k) d (omega (arith, below))) k d (omega (arith, below))

-- numbers of a width are kept by both casts
abbrev pub passed : Width → List ℤ → List ℤ
passed w zs = map (to_z w) (map (of_z w) zs)

pub kept : (w : Width) (zs : List ℤ) → ((k : ℕ) → SFits w (at zs k)) → passed w zs ≡ zs
kept w [] f = refl
kept w (z ∷ zs) f = ap₂ (λ a b. a ∷ b) (to_z-of_z w z (f 0)) (kept w zs (λ k. f (suc k)))

pub small_numbers : (zs : List ℤ) → All (λ z. unsigned_abs z ≤ 1073741824) zs → Numbers32 zs
small_numbers [] h k = fits (pos 0) (omega (arith, ints))
small_numbers (z ∷ zs) h zero = fits z (omega (arith, h 0 z (omega arith)))
small_numbers (z ∷ zs) h (suc k) = small_numbers zs (λ k d below. h (suc k) d (omega (arith, below))) k

abbrev join_at : List ℤ → List ℤ → ℕ → ℤ
join_at xs ys k = to_z w32 (get_or (map (of_z w32) xs ++ map (of_z w32) ys) k 0)

abbrev eight : List ℤ → List ℤ → List ℤ
eight xs ys = let g = join_at xs ys in g 0 ∷ g 1 ∷ g 2 ∷ g 3 ∷ g 4 ∷ g 5 ∷ g 6 ∷ g 7 ∷ []

pub joined_is : (xs ys : List ℤ) → length xs ≡ 4 → length ys ≡ 4 → Numbers32 xs → Numbers32 ys → eight xs ys ≡ xs ++ ys
joined_is xs ys l m =
    four_numbers (λ xs. Numbers32 xs → Numbers32 ys → eight xs ys ≡ xs ++ ys)
    (λ a b c d. four_numbers (λ ys. Numbers32 (a ∷ b ∷ c ∷ d ∷ []) → Numbers32 ys → eight (a ∷ b ∷ c ∷ d ∷ []) ys ≡ (a ∷ b ∷ c ∷ d ∷ []) ++ ys)
    (λ e f g h p q i. to_z-of_z w32 a (p 0) i ∷ to_z-of_z w32 b (p 1) i ∷ to_z-of_z w32 c (p 2) i ∷ to_z-of_z w32 d (p 3) i ∷ to_z-of_z w32 e (q 0) i ∷ to_z-of_z w32 f (q 1) i ∷ to_z-of_z w32 g (q 2) i ∷ to_z-of_z w32 h (q 3) i ∷ [])
    ys m)
    xs l

clip_fits : (z : ℤ) → SFits w16 (clip16 z)
clip_fits z = fits_of (clip16 z) z refl
  where
    fits_of : (y z : ℤ) → y ≡ clip16 z → SFits w16 y
    fits_of (pos n) z e = record { sfits = omega (arith, ints, clamps, e) }
    fits_of (negsuc n) z e = record { sfits = omega (arith, ints, clamps, e) }

pub clips_kept : (f : ℤ → ℤ) (zs : List ℤ) → passed w16 (map (λ z. clip16 (f z)) zs) ≡ map (λ z. clip16 (f z)) zs
clips_kept f [] = refl
clips_kept f (z ∷ zs) = ap₂ (λ a b. a ∷ b) (to_z-of_z w16 (clip16 (f z)) (clip_fits (f z))) (clips_kept f zs)

pub small_append : (xs ys : List ℤ) → All (λ z. unsigned_abs z ≤ 1073741824) xs → All (λ z. unsigned_abs z ≤ 1073741824) ys → All (λ z. unsigned_abs z ≤ 1073741824) (xs ++ ys)
small_append [] ys g h k d below = h k d below
small_append (x ∷ xs) ys g h zero d below = g 0 x (omega arith)
small_append (x ∷ xs) ys g h (suc k) d below = small_append xs ys (λ k d below. g (suc k) d (omega (arith, below))) h k d (omega (arith, below))

pub length-eight : (f : ℤ → ℤ) (xs ys : List ℤ) → length xs ≡ 4 → length ys ≡ 4 → length (map f (xs ++ ys)) ≡ 8
length-eight f xs ys l m = length-map (xs ++ ys) f ∙ length-append xs ys ∙ ap₂ (λ a b. a + b) l m

pub clamps_are : (n : ℕ) (zs : List ℤ) → length zs ≡ n → Numbers32 zs → narrowed (clamped (map (of_z w32) zs) (replicate n 4294934528) (replicate n 32767)) ≡ map clip16 zs
clamps_are zero [] l f = refl
clamps_are zero (z ∷ zs) l f = absurd (omega arith)
clamps_are (suc n) [] l f = absurd (omega arith)
clamps_are (suc n) (z ∷ zs) l f =
    ap₂ (λ a b. a ++ b) (same_by _ _ (of_z w32 z) refl refl ∙ ap (λ v. clip16 v ∷ []) (to_z-of_z w32 z (f 0))) (clamps_are n zs (omega arith) (λ k. f (suc k)))

pub regroup : (p q r s : ℤ) → (p +ℤ q) +ℤ (r +ℤ s) ≡ pos 0 +ℤ p +ℤ q +ℤ r +ℤ s
regroup p q r s = omega (arith, ints)
