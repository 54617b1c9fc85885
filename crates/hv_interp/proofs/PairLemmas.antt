-- Sums of taps times samples in pairs, lane by lane.
use Rattle.std.proofs.Common.{Bool, true, false, nat_lt, ◌≡◌, ℕ, zero, suc, ◌+◌, ◌-◌, ◌*◌, ◌/◌, ◌%◌, ◌<◌, ◌≤◌, List, [], ◌∷◌, ◌++◌, ℤ, pos, ◌+ℤ◌, ◌*ℤ◌, map, take, take_all, drop, refl, sym, subst, ap, ap₂, ◌∙◌, ⊎_elim, arith, length, slice_index_or, Fits, w8}
use Rattle.std.specs.Int.RustNames.{unsigned_abs}
use Rattle.std.specs.Int.{int_wrap}
use Rattle.std.proofs.lemmas.Int.{ints, clamps, to_z-of_z, fits_signed_from_abs, int_wrap_fits, wrapping_add_is, unsigned_abs-mul}
use Rattle.std.proofs.lemmas.List.{get_or_append_left, get_or-append_right, get_or-map, length-map, get_or-take, get_or-drop}
use Rattle.std.proofs.Math.Nat.{mul-le-mul_left}
use lib.Lanes.{zip2}
use lib.ListN.{get_or}
use borrow.Rule.Simd.Lanes.{act2}
use borrow.Table.Row.{s_int}
use mir.Syntax.{wrap_add, w16, w32}
use mir.Val.{of_z, to_z, SFits}
use Rattle.hv_lemmas.specs.Clipping.{clip16}
use Rattle.hv_lemmas.proofs.ComputedLemmas.{each_of_eight}
use Rattle.hv_lemmas.proofs.SignedLemmas.{size_of_sum}
use Rattle.hv_lanes.proofs.LaneStepLemmas.{kept as kept_in}
use Rattle.hv_lanes.proofs.LaneSumLemmas.{sum_is}
use Rattle.std.proofs.lemmas.Bool.{leb-true, cases_lt}
use Rattle.hv_interp.specs.Filters.{paired_place, placed_sum, placed_sum_of, strided_sum, weight_of}
use Rattle.hv_interp.specs.Lanes.{ArePairsLight, AreSpread, AreSums, lane, of_neighbours}
use Rattle.hv_interp.proofs.EightSumLemmas.{kept, of_lanes, sums_fit}
use Rattle.hv_interp.proofs.PlaceLemmas.{row_part}
use Rattle.hv_interp.proofs.SumLemmas.{size_of_placed_sum, size_of_placed_sum_of, placed_sum_of_more, two_taps_small, weighted_same}
use Rattle.hv_interp.proofs.TotalLaneLemmas.{product_is}

abbrev byte_of : List ℕ → ℕ → ℕ
byte_of samples k = get_or (take 16 samples ++ take 16 samples) k 0

abbrev tap_of : List ℤ → ℕ → ℕ
tap_of taps k = of_z w32 (to_z w8 (get_or (map (of_z w8) (take 16 taps) ++ map (of_z w8) (take 16 taps)) k 0))

abbrev product_of : List ℤ → List ℕ → ℕ → ℕ
product_of taps samples k = byte_of samples k * tap_of taps k % 4294967296

abbrev product_sum : List ℤ → List ℕ → ℕ → ℤ
product_sum taps samples j =
    to_z w32 ((product_of taps samples (2 * j) + product_of taps samples (2 * j + 1)) % 4294967296)

abbrev pub product_sums : List ℤ → List ℕ → List ℤ
product_sums taps samples =
    let m : ℕ → ℤ = product_sum taps samples in
    m 0 ∷ m 1 ∷ m 2 ∷ m 3 ∷ m 4 ∷ m 5 ∷ m 6 ∷ m 7 ∷ []

byte_is : (k : ℕ) (samples : List ℕ) → length samples ≡ 16 → k < 16 → byte_of samples k ≡ slice_index_or samples k 0
byte_is k samples l p =
    let all : take 16 samples ≡ samples = take_all 16 samples (omega (arith, l)) in
    ap (λ v. get_or (v ++ take 16 samples) k 0) all ∙
    get_or_append_left samples (take 16 samples) 0 k (omega (arith, p, l))

tap_is : (k : ℕ) (taps : List ℤ) → length taps ≡ 16 → k < 16 → SFits w8 (lane taps k) → tap_of taps k ≡ of_z w32 (lane taps k)
tap_is k taps l p f =
    let all : take 16 taps ≡ taps = take_all 16 taps (omega (arith, l)) in
    let is : get_or (map (of_z w8) (take 16 taps) ++ map (of_z w8) (take 16 taps)) k 0 ≡ of_z w8 (lane taps k) =
    ap (λ v. get_or (map (of_z w8) v ++ map (of_z w8) (take 16 taps)) k 0) all ∙
    get_or_append_left (map (of_z w8) taps) (map (of_z w8) (take 16 taps)) 0 k (omega (arith, p, l, length-map taps (of_z w8))) ∙
    get_or-map (of_z w8) taps k (pos 0) 0 (omega (arith, p, l)) in
    ap (λ m. of_z w32 (to_z w8 m)) is ∙ ap (of_z w32) (to_z-of_z w8 (lane taps k) f)

tap_fits : (z : ℤ) → unsigned_abs z ≤ 112 → SFits w8 z
tap_fits z small = fits_signed_from_abs w8 z (omega (arith, small))

tap_fits_32 : (z : ℤ) → unsigned_abs z ≤ 112 → SFits w32 z
tap_fits_32 z small = fits_signed_from_abs w32 z (omega (arith, small))

sum_fits_32 : (z : ℤ) → unsigned_abs z ≤ 28560 → SFits w32 z
sum_fits_32 z small = fits_signed_from_abs w32 z (omega (arith, small))

byte_fits_32 : (x : ℕ) → x < 256 → SFits w32 (pos x)
byte_fits_32 x h = record { sfits = omega (arith, h) }

pub neighbours_small : (j : ℕ) (taps : List ℤ) (samples : List ℕ) →
    unsigned_abs (lane taps (2 * j)) + unsigned_abs (lane taps (2 * j + 1)) ≤ 112 →
    ((i : ℕ) → Fits w8 (slice_index_or samples i 0)) → unsigned_abs (of_neighbours taps samples j) ≤ 28560
neighbours_small j taps samples light bytes =
    let t : ℤ = lane taps (2 * j) in
    let u : ℤ = lane taps (2 * j + 1) in
    let x : ℕ = slice_index_or samples (2 * j) 0 in
    let y : ℕ = slice_index_or samples (2 * j + 1) 0 in
    let low : x ≤ 255 = omega (arith, (bytes (2 * j)).fits) in
    let high : y ≤ 255 = omega (arith, (bytes (2 * j + 1)).fits) in
    let first : unsigned_abs t * x ≤ unsigned_abs t * 255 = mul-le-mul_left (unsigned_abs t) low in
    let second : unsigned_abs u * y ≤ unsigned_abs u * 255 = mul-le-mul_left (unsigned_abs u) high in
    omega (arith, light, first, second, unsigned_abs-mul t (pos x), unsigned_abs-mul u (pos y), size_of_sum (t *ℤ pos x) (u *ℤ pos y))

pub products_at : (j : ℕ) (taps : List ℤ) (samples : List ℕ) → length taps ≡ 16 → length samples ≡ 16 → ArePairsLight taps →
    ((i : ℕ) → Fits w8 (slice_index_or samples i 0)) → j < 8 → lane (product_sums taps samples) j ≡ of_neighbours taps samples j
products_at j taps samples l m light bytes p =
    let t : ℤ = lane taps (2 * j) in
    let u : ℤ = lane taps (2 * j + 1) in
    let x : ℕ = slice_index_or samples (2 * j) 0 in
    let y : ℕ = slice_index_or samples (2 * j + 1) 0 in
    let small_t : unsigned_abs t ≤ 112 = omega (arith, light j p) in
    let small_u : unsigned_abs u ≤ 112 = omega (arith, light j p) in
    let here : lane (product_sums taps samples) j ≡ product_sum taps samples j =
    each_of_eight (λ j. lane (product_sums taps samples) j ≡ product_sum taps samples j) refl refl refl refl refl refl refl refl j p in
    here ∙
    sum_is _ _ (t *ℤ pos x) (u *ℤ pos y) (omega arith) (omega arith)
    (product_is _ _ (pos x) t (byte_is (2 * j) samples m (omega (arith, p))) (tap_is (2 * j) taps l (omega (arith, p)) (tap_fits t small_t))
    (byte_fits_32 x (bytes (2 * j)).fits) (tap_fits_32 t small_t))
    (product_is _ _ (pos y) u (byte_is (2 * j + 1) samples m (omega (arith, p))) (tap_is (2 * j + 1) taps l (omega (arith, p)) (tap_fits u small_u))
    (byte_fits_32 y (bytes (2 * j + 1)).fits) (tap_fits_32 u small_u)) ∙
    int_wrap_fits w32 (of_neighbours taps samples j) (sum_fits_32 _ (neighbours_small j taps samples (light j p) bytes))

pub products_small : (taps : List ℤ) (samples : List ℕ) → length taps ≡ 16 → length samples ≡ 16 → ArePairsLight taps →
    ((i : ℕ) → Fits w8 (slice_index_or samples i 0)) → (j : ℕ) → unsigned_abs (lane (product_sums taps samples) j) ≤ 28560
products_small taps samples l m light bytes =
    of_lanes 8 (λ z. unsigned_abs z ≤ 28560) (product_sums taps samples) (omega arith) refl
    (λ j below. subst (λ z. unsigned_abs z ≤ 28560) (sym (products_at j taps samples l m light bytes below))
    (neighbours_small j taps samples (light j below) bytes))

always_if : (b : Bool) (n : ℕ) → nat_lt n 128 ≡ b → SFits w32 (to_z w8 n)
always_if true n e = rw (e) (record { sfits = omega (arith, leb-true _ _ e) })
always_if false n e = rw (e) (record { sfits = omega arith })

-- a number of 8 bits is one of 32
pub always : (n : ℕ) → SFits w32 (to_z w8 n)
always n = always_if _ n refl

pub kept_products : (sums : List ℤ) → ((j : ℕ) → unsigned_abs (lane sums j) ≤ 28560) → map (to_z w32) (map (of_z w32) sums) ≡ sums
kept_products sums small = kept_in w32 sums (λ j. sum_fits_32 (lane sums j) (small j))

pub products_fit : (sums : List ℤ) → ((j : ℕ) → unsigned_abs (lane sums j) ≤ 28560) → (j : ℕ) →
    SFits w32 (lane (map (to_z w32) (map (of_z w32) sums)) j)
products_fit sums small j =
    subst (λ l. SFits w32 (lane l j)) (sym (kept_products sums small)) (sum_fits_32 (lane sums j) (small j))

-- what is small isn't clipped
pub unclipped : (zs : List ℤ) → ((j : ℕ) → unsigned_abs (lane zs j) ≤ 28560) → map clip16 zs ≡ zs
unclipped [] small = refl
unclipped (z ∷ zs) small =
    let first : clip16 z ≡ z = omega (arith, ints, clamps, small 0) in
    ap₂ (λ a b. a ∷ b) first (unclipped zs (λ j. small (suc j)))

-- ---- sums of lanes of 16 bits

abbrev pub added : List ℤ → List ℤ → List ℤ
added xs ys = map (to_z w16) (zip2 (act2 wrap_add (s_int w16) (s_int w16) (s_int w16)) (map (of_z w16) xs) (map (of_z w16) ys))

pub length-added : (n : ℕ) (xs ys : List ℤ) → length xs ≡ n → length ys ≡ n → length (added xs ys) ≡ n
length-added zero [] ys l m = refl
length-added zero (x ∷ xs) ys l m = absurd (omega arith)
length-added (suc n) [] ys l m = absurd (omega arith)
length-added (suc n) (x ∷ xs) [] l m = absurd (omega arith)
length-added (suc n) (x ∷ xs) (y ∷ ys) l m = ap suc (length-added n xs ys (omega arith) (omega arith))

pub added_at : (n j : ℕ) (xs ys : List ℤ) → length xs ≡ n → length ys ≡ n → ((i : ℕ) → SFits w16 (lane xs i)) →
    ((i : ℕ) → SFits w16 (lane ys i)) → j < n → lane (added xs ys) j ≡ int_wrap w16 (lane xs j +ℤ lane ys j)
added_at zero j xs ys l m f g p = absurd (omega (arith, p))
added_at (suc n) j [] ys l m f g p = absurd (omega arith)
added_at (suc n) j (x ∷ xs) [] l m f g p = absurd (omega arith)
added_at (suc n) zero (x ∷ xs) (y ∷ ys) l m f g p = wrapping_add_is w16 x y (f 0) (g 0)
added_at (suc n) (suc j) (x ∷ xs) (y ∷ ys) l m f g p =
    added_at n j xs ys (omega arith) (omega arith) (λ i. f (suc i)) (λ i. g (suc i)) (omega (arith, p))

-- ---- two taps more

-- two lanes of a part of taps are taps k and k + 1, and those of a row the samples that they meet
pub record IsPair (k : ℕ) (taps : List ℤ) (samples : List ℕ) (place : ℕ → ℕ → ℕ) (part : List ℤ) (row : List ℕ) (j : ℕ) :
    Type 0 where
  pub first_tap : lane part (2 * j) ≡ lane taps k
  pub second_tap : lane part (2 * j + 1) ≡ lane taps (k + 1)
  pub first : slice_index_or row (2 * j) 0 ≡ slice_index_or samples (place j k) 0
  pub second : slice_index_or row (2 * j + 1) 0 ≡ slice_index_or samples (place j (k + 1)) 0

pub two_light : (k : ℕ) (taps : List ℤ) (samples : List ℕ) (place : ℕ → ℕ → ℕ) (part : List ℤ) (row : List ℕ) → weight_of taps ≤ 112 →
    ((j : ℕ) → j < 8 → IsPair k taps samples place part row j) → ArePairsLight part
two_light k taps samples place part row light pair j below =
    omega (arith, light, two_taps_small taps k, ap unsigned_abs (pair j below).first_tap, ap unsigned_abs (pair j below).second_tap)

pub two_more : (k : ℕ) (taps : List ℤ) (samples : List ℕ) (place : ℕ → ℕ → ℕ) (part : List ℤ) (row : List ℕ) (lanes : List ℤ) → k + 2 ≤ length taps →
    AreSums k taps samples place lanes → (j : ℕ) → j < 8 → IsPair k taps samples place part row j →
    lane lanes j +ℤ of_neighbours part row j ≡ placed_sum_of (k + 2) taps samples (place j)
two_more k taps samples place part row lanes more sums j below pair =
    let a : ℤ = lane taps k *ℤ pos (slice_index_or samples (place j k) 0) in
    let b : ℤ = lane taps (k + 1) *ℤ pos (slice_index_or samples (place j (k + 1)) 0) in
    let before : ℤ = placed_sum_of k taps samples (place j) in
    let next : k + 1 + 1 ≡ k + 2 = omega arith in
    ap₂ (λ s p. s +ℤ p) (sums.each j below)
    (ap₂ (λ p q. p +ℤ q) (ap₂ (λ u v. u *ℤ pos v) pair.first_tap pair.first) (ap₂ (λ u v. u *ℤ pos v) pair.second_tap pair.second)) ∙
    regrouped before a b ∙
    sym (ap (λ n. placed_sum_of n taps samples (place j)) (sym next) ∙
    placed_sum_of_more (k + 1) taps samples (place j) (omega (arith, more)) ∙
    ap (λ s. s +ℤ b) (placed_sum_of_more k taps samples (place j) (omega (arith, more))))
  where
    regrouped : (s p q : ℤ) → s +ℤ (p +ℤ q) ≡ (s +ℤ p) +ℤ q
    regrouped s p q = omega (arith, ints)

pub two_more_fit : (k : ℕ) (taps : List ℤ) (samples : List ℕ) (place : ℕ → ℕ → ℕ) (part : List ℤ) (row : List ℕ) (lanes : List ℤ) → weight_of taps ≤ 112 →
    ((i : ℕ) → Fits w8 (slice_index_or samples i 0)) → k + 2 ≤ length taps →
    AreSums k taps samples place lanes → (j : ℕ) → j < 8 → IsPair k taps samples place part row j →
    SFits w16 (lane lanes j +ℤ of_neighbours part row j)
two_more_fit k taps samples place part row lanes light bytes more sums j below pair =
    subst (SFits w16) (sym (two_more k taps samples place part row lanes more sums j below pair))
    (fits_signed_from_abs w16 _ (omega (arith, size_of_placed_sum_of (k + 2) taps samples (place j) light bytes)))

pub two_sums_more : (k : ℕ) (taps : List ℤ) (samples : List ℕ) (place : ℕ → ℕ → ℕ) (part : List ℤ) (row : List ℕ) (lanes next : List ℤ) → weight_of taps ≤ 112 →
    ((i : ℕ) → Fits w8 (slice_index_or samples i 0)) → k + 2 ≤ length taps →
    AreSums k taps samples place lanes → ((j : ℕ) → j < 8 → IsPair k taps samples place part row j) → length next ≡ 8 →
    ((j : ℕ) → j < 8 → lane next j ≡ lane lanes j +ℤ of_neighbours part row j) →
    AreSums (k + 2) taps samples place (map (to_z w16) (map (of_z w16) next))
two_sums_more k taps samples place part row lanes next light bytes more sums pair eight each =
    let all : AreSums (k + 2) taps samples place next =
    record { eight = eight; each = λ j below. each j below ∙ two_more k taps samples place part row lanes more sums j below (pair j below) } in
    subst (AreSums (k + 2) taps samples place)
    (sym (kept next (sums_fit (k + 2) taps samples place next light bytes all))) all

-- ---- the next pair of taps

pub spread_at : (p i T : ℕ) (taps spread : List ℤ) → i < 16 → 2 * p + 2 ≤ T → AreSpread T taps spread →
    lane (row_part spread (16 * p) 16) i ≡ lane taps (2 * p + i % 2)
spread_at p i T taps spread below more each =
    get_or-take (16 * p + 16 - 16 * p) (drop (16 * p) spread) i (pos 0) (omega (arith, below)) ∙
    get_or-drop (16 * p) spread i (pos 0) ∙ each (16 * p + i) (omega (arith, below, more)) ∙
    ap (lane taps) (omega (arith, below))

pub part_at : (samples : List ℕ) (from i : ℕ) → i < 16 → slice_index_or (row_part samples from 16) i 0 ≡ slice_index_or samples (from + i) 0
part_at samples from i below =
    get_or-take (from + 16 - from) (drop from samples) i 0 (omega (arith, below)) ∙ get_or-drop from samples i 0

pub next_pair : (p T at step : ℕ) (taps spread : List ℤ) (samples : List ℕ) → 2 * p + 2 ≤ T → AreSpread T taps spread → (j : ℕ) → j < 8 →
    IsPair (2 * p) taps samples (λ j. paired_place (at + 2 * j) step) (row_part spread (16 * p) 16) (row_part samples (at + p * step) 16) j
next_pair p T at step taps spread samples more each j below =
    let half : 2 * p / 2 ≡ p = omega arith in
    let other_half : (2 * p + 1) / 2 ≡ p = omega arith in
    let first : at + p * step + 2 * j ≡ paired_place (at + 2 * j) step (2 * p) = omega (arith, ap (λ h. h * step) half) in
    let second : at + p * step + (2 * j + 1) ≡ paired_place (at + 2 * j) step (2 * p + 1) = omega (arith, ap (λ h. h * step) other_half) in
    record {
      first_tap = spread_at p (2 * j) T taps spread (omega (arith, below)) more each ∙ ap (lane taps) (omega arith);
      second_tap = spread_at p (2 * j + 1) T taps spread (omega (arith, below)) more each ∙ ap (lane taps) (omega arith);
      first = part_at samples (at + p * step) (2 * j) (omega (arith, below)) ∙ ap (λ i. slice_index_or samples i 0) first;
      second = part_at samples (at + p * step) (2 * j + 1) (omega (arith, below)) ∙ ap (λ i. slice_index_or samples i 0) second;
    }

-- pairs two samples apart are taps one sample apart
pub one_apart : (taps : List ℤ) (samples : List ℕ) (at : ℕ) → placed_sum taps samples (paired_place at 2) ≡ strided_sum taps samples at 1
one_apart taps samples at =
    weighted_same taps (λ k. pos (slice_index_or samples (paired_place at 2 k) 0)) (λ k. pos (slice_index_or samples (at + k * 1) 0))
    (λ k below. ap (λ i. pos (slice_index_or samples i 0)) (omega arith))

-- ---- sixteen lanes

abbrev lane_of : List ℤ → List ℤ → ℕ → ℤ
lane_of xs ys i = to_z w16 (get_or (map (of_z w16) xs ++ map (of_z w16) ys) i 0)

left_lane : (xs ys : List ℤ) → length xs ≡ 8 → ((j : ℕ) → SFits w16 (lane xs j)) → (j : ℕ) → j < 8 → lane_of xs ys j ≡ lane xs j
left_lane xs ys l f j p =
    ap (to_z w16) (get_or_append_left (map (of_z w16) xs) (map (of_z w16) ys) 0 j (omega (arith, p, l, length-map xs (of_z w16))) ∙
    get_or-map (of_z w16) xs j (pos 0) 0 (omega (arith, p, l))) ∙ to_z-of_z w16 (lane xs j) (f j)

right_lane : (xs ys : List ℤ) → length xs ≡ 8 → length ys ≡ 8 → ((j : ℕ) → SFits w16 (lane ys j)) → (j : ℕ) → j < 8 →
    lane_of xs ys (8 + j) ≡ lane ys j
right_lane xs ys l m f j p =
    let other : 8 + j - 8 ≡ j = omega arith in
    ap (to_z w16) (get_or-append_right (map (of_z w16) xs) (map (of_z w16) ys) 8 (8 + j) 0 (length-map xs (of_z w16) ∙ l) (omega arith) ∙
    ap (λ k. get_or (map (of_z w16) ys) k 0) other ∙
    get_or-map (of_z w16) ys j (pos 0) 0 (omega (arith, p, m))) ∙ to_z-of_z w16 (lane ys j) (f j)

abbrev turned : List ℤ → List ℤ → List ℤ
turned xs ys =
    let g : ℕ → ℤ = lane_of xs ys in
    g 0 ∷ g 8 ∷ g 1 ∷ g 9 ∷ g 2 ∷ g 10 ∷ g 3 ∷ g 11 ∷ g 4 ∷ g 12 ∷ g 5 ∷ g 13 ∷ g 6 ∷ g 14 ∷ g 7 ∷ g 15 ∷ []

abbrev ordered : List ℤ → List ℤ → List ℤ
ordered xs ys =
    let g : ℕ → ℤ = lane_of xs ys in
    g 0 ∷ g 1 ∷ g 2 ∷ g 3 ∷ g 4 ∷ g 5 ∷ g 6 ∷ g 7 ∷ g 8 ∷ g 9 ∷ g 10 ∷ g 11 ∷ g 12 ∷ g 13 ∷ g 14 ∷ g 15 ∷ []

pub even_in_turn : (xs ys : List ℤ) → length xs ≡ 8 → ((j : ℕ) → SFits w16 (lane xs j)) → (j : ℕ) → j < 8 →
    lane (turned xs ys) (2 * j) ≡ lane xs j
even_in_turn xs ys l f j p =
    each_of_eight (λ j. lane (turned xs ys) (2 * j) ≡ lane_of xs ys j) refl refl refl refl refl refl refl refl j p ∙ left_lane xs ys l f j p

pub odd_in_turn : (xs ys : List ℤ) → length xs ≡ 8 → length ys ≡ 8 → ((j : ℕ) → SFits w16 (lane ys j)) → (j : ℕ) → j < 8 →
    lane (turned xs ys) (2 * j + 1) ≡ lane ys j
odd_in_turn xs ys l m f j p =
    each_of_eight (λ j. lane (turned xs ys) (2 * j + 1) ≡ lane_of xs ys (8 + j)) refl refl refl refl refl refl refl refl j p ∙
    right_lane xs ys l m f j p

pub low_in_order : (xs ys : List ℤ) → length xs ≡ 8 → ((j : ℕ) → SFits w16 (lane xs j)) → (j : ℕ) → j < 8 →
    lane (ordered xs ys) j ≡ lane xs j
low_in_order xs ys l f j p =
    each_of_eight (λ j. lane (ordered xs ys) j ≡ lane_of xs ys j) refl refl refl refl refl refl refl refl j p ∙ left_lane xs ys l f j p

pub high_in_order : (xs ys : List ℤ) → length xs ≡ 8 → length ys ≡ 8 → ((j : ℕ) → SFits w16 (lane ys j)) → (j : ℕ) → j < 8 →
    lane (ordered xs ys) (8 + j) ≡ lane ys j
high_in_order xs ys l m f j p =
    each_of_eight (λ j. lane (ordered xs ys) (8 + j) ≡ lane_of xs ys (8 + j)) refl refl refl refl refl refl refl refl j p ∙
    right_lane xs ys l m f j p

-- what holds of even places and of odd ones
pub by_turns : (n : ℕ) (P : ℕ → Type 0) → ((i : ℕ) → i < n → P (2 * i)) → ((i : ℕ) → i < n → P (2 * i + 1)) → (j : ℕ) → j < 2 * n → P j
by_turns n P even odd j below =
    ⊎_elim
    (λ none.
    let e : 2 * (j / 2) ≡ j = omega (arith, none) in
    subst P e (even (j / 2) (omega (arith, below))))
    (λ one.
    let e : 2 * (j / 2) + 1 ≡ j = omega (arith, one) in
    subst P e (odd (j / 2) (omega (arith, below))))
    (cases_lt (j % 2) 1)

-- what holds of eight places and of the next eight
pub by_halves : (P : ℕ → Type 0) → ((i : ℕ) → i < 8 → P i) → ((i : ℕ) → i < 8 → P (8 + i)) → (j : ℕ) → j < 16 → P j
by_halves P low high j below =
    ⊎_elim
    (λ less. low j less)
    (λ more.
    let e : 8 + (j - 8) ≡ j = omega (arith, more) in
    subst P e (high (j - 8) (omega (arith, below))))
    (cases_lt j 8)

-- sums of taps of weight 112 times samples in sixteen lanes
pub sixteen_small : (taps : List ℤ) (samples : List ℕ) (place : ℕ → ℕ → ℕ) (lanes : List ℤ) → weight_of taps ≤ 112 →
    ((i : ℕ) → Fits w8 (slice_index_or samples i 0)) → length lanes ≡ 16 →
    ((j : ℕ) → j < 16 → lane lanes j ≡ placed_sum taps samples (place j)) → (j : ℕ) → unsigned_abs (lane lanes j) ≤ 28560
sixteen_small taps samples place lanes light bytes count each =
    of_lanes 16 (λ z. unsigned_abs z ≤ 28560) lanes (omega arith) count
    (λ j below. subst (λ z. unsigned_abs z ≤ 28560) (sym (each j below)) (size_of_placed_sum taps samples (place j) light bytes))

pub sums_in_turn : (taps : List ℤ) (samples : List ℕ) (at : ℕ) (even odd lanes : List ℤ) →
    ((i : ℕ) → i < 8 → lane lanes (2 * i) ≡ lane even i) → ((i : ℕ) → i < 8 → lane lanes (2 * i + 1) ≡ lane odd i) →
    ((i : ℕ) → i < 8 → lane even i ≡ strided_sum taps samples (at + 2 * i) 1) →
    ((i : ℕ) → i < 8 → lane odd i ≡ strided_sum taps samples (at + 1 + 2 * i) 1) →
    (j : ℕ) → j < 16 → lane lanes j ≡ strided_sum taps samples (at + j) 1
sums_in_turn taps samples at even odd lanes turns others evens odds =
    by_turns 8 (λ j. lane lanes j ≡ strided_sum taps samples (at + j) 1)
    (λ i below. turns i below ∙ evens i below)
    (λ i below.
    let next : at + 1 + 2 * i ≡ at + (2 * i + 1) = omega arith in
    others i below ∙ odds i below ∙ ap (λ p. strided_sum taps samples p 1) next)

pub sums_in_order : (taps : List ℤ) (samples : List ℕ) (at step : ℕ) (low high lanes : List ℤ) →
    ((i : ℕ) → i < 8 → lane lanes i ≡ lane low i) → ((i : ℕ) → i < 8 → lane lanes (8 + i) ≡ lane high i) →
    ((i : ℕ) → i < 8 → lane low i ≡ placed_sum taps samples (paired_place (at + 2 * i) step)) →
    ((i : ℕ) → i < 8 → lane high i ≡ placed_sum taps samples (paired_place (at + 16 + 2 * i) step)) →
    (j : ℕ) → j < 16 → lane lanes j ≡ placed_sum taps samples (paired_place (at + 2 * j) step)
sums_in_order taps samples at step low high lanes lows highs first second =
    by_halves (λ j. lane lanes j ≡ placed_sum taps samples (paired_place (at + 2 * j) step))
    (λ i below. lows i below ∙ first i below)
    (λ i below.
    let next : at + 16 + 2 * i ≡ at + 2 * (8 + i) = omega arith in
    highs i below ∙ second i below ∙ ap (λ p. placed_sum taps samples (paired_place p step)) next)

pub length-passed : (lanes : List ℤ) → length lanes ≡ 16 → length (map (to_z w16) (map (of_z w16) lanes)) ≡ 16
length-passed lanes count = length-map (map (of_z w16) lanes) (to_z w16) ∙ length-map lanes (of_z w16) ∙ count
