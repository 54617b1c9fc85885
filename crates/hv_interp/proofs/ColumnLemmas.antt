-- Rows that are woven with the next, and the sums down their columns.
use Rattle.std.proofs.Common.{◌≡◌, ℕ, ◌+◌, ◌-◌, ◌*◌, ◌/◌, ◌%◌, ◌<◌, ◌≤◌, List, [], ◌∷◌, ◌++◌, ℤ, pos, take, take_all, refl, sym, ap, ap₂, ◌∙◌, arith, length, slice_index_or}
use Rattle.std.proofs.lemmas.List.{get_or_append_left, get_or-append_right}
use Rattle.std.proofs.lemmas.Nat.{div-add-mod', div-mul-add, mod-mul-add, mod_below}
use Rattle.std.proofs.lemmas.Simd.{put_chunk_whole}
use Rattle.std.proofs.Math.Nat.{add-mul, div-lt_iff_lt-mul, mul-le-mul_right}
use lib.Lanes.{put_chunk}
use lib.ListN.{get_or}
use Rattle.hv_lemmas.proofs.ComputedLemmas.{each_of_eight}
use Rattle.hv_interp.specs.Filters.{HasFirst, HoldsTaps, paired_place, place_of, placed_sum, strided_sum, woven_place}
use Rattle.hv_interp.proofs.PairLemmas.{by_halves, by_turns, part_at}
use Rattle.hv_interp.proofs.PlaceLemmas.{place_inside, row_part}
use Rattle.hv_interp.proofs.SumLemmas.{weighted_same}

-- ---- sixteen samples woven with sixteen others

abbrev sample_in : List ℕ → List ℕ → ℕ → ℕ
sample_in xs ys i = get_or (take 16 xs ++ take 16 ys) i 0

abbrev weave_of : List ℕ → List ℕ → List ℕ
weave_of xs ys =
    let g : ℕ → ℕ = sample_in xs ys in
    g 0 ∷ g 16 ∷ g 1 ∷ g 17 ∷ g 2 ∷ g 18 ∷ g 3 ∷ g 19 ∷ g 4 ∷ g 20 ∷ g 5 ∷ g 21 ∷ g 6 ∷ g 22 ∷ g 7 ∷ g 23 ∷
    g 8 ∷ g 24 ∷ g 9 ∷ g 25 ∷ g 10 ∷ g 26 ∷ g 11 ∷ g 27 ∷ g 12 ∷ g 28 ∷ g 13 ∷ g 29 ∷ g 14 ∷ g 30 ∷ g 15 ∷ g 31 ∷ []

evens : (xs ys : List ℕ) (i : ℕ) → i < 16 → get_or (weave_of xs ys) (2 * i) 0 ≡ sample_in xs ys i
evens xs ys =
    by_halves (λ i. get_or (weave_of xs ys) (2 * i) 0 ≡ sample_in xs ys i)
    (each_of_eight (λ i. get_or (weave_of xs ys) (2 * i) 0 ≡ sample_in xs ys i) refl refl refl refl refl refl refl refl)
    (each_of_eight (λ i. get_or (weave_of xs ys) (2 * (8 + i)) 0 ≡ sample_in xs ys (8 + i)) refl refl refl refl refl refl refl refl)

odds : (xs ys : List ℕ) (i : ℕ) → i < 16 → get_or (weave_of xs ys) (2 * i + 1) 0 ≡ sample_in xs ys (16 + i)
odds xs ys =
    by_halves (λ i. get_or (weave_of xs ys) (2 * i + 1) 0 ≡ sample_in xs ys (16 + i))
    (each_of_eight (λ i. get_or (weave_of xs ys) (2 * i + 1) 0 ≡ sample_in xs ys (16 + i)) refl refl refl refl refl refl refl refl)
    (each_of_eight (λ i. get_or (weave_of xs ys) (2 * (8 + i) + 1) 0 ≡ sample_in xs ys (16 + (8 + i))) refl refl refl refl refl refl refl refl)

pub woven_even : (out xs ys : List ℕ) → length out ≡ 32 → length xs ≡ 16 → (i : ℕ) → i < 16 →
    slice_index_or (put_chunk 0 out (weave_of xs ys)) (2 * i) 0 ≡ slice_index_or xs i 0
woven_even out xs ys room l i p =
    let all : take 16 xs ≡ xs = take_all 16 xs (omega (arith, l)) in
    ap (λ v. get_or v (2 * i) 0) (put_chunk_whole out (weave_of xs ys) room) ∙ evens xs ys i p ∙
    ap (λ v. get_or (v ++ take 16 ys) i 0) all ∙ get_or_append_left xs (take 16 ys) 0 i (omega (arith, p, l))

pub woven_odd : (out xs ys : List ℕ) → length out ≡ 32 → length xs ≡ 16 → length ys ≡ 16 → (i : ℕ) → i < 16 →
    slice_index_or (put_chunk 0 out (weave_of xs ys)) (2 * i + 1) 0 ≡ slice_index_or ys i 0
woven_odd out xs ys room l m i p =
    let first : take 16 xs ≡ xs = take_all 16 xs (omega (arith, l)) in
    let second : take 16 ys ≡ ys = take_all 16 ys (omega (arith, m)) in
    let other : 16 + i - 16 ≡ i = omega arith in
    ap (λ v. get_or v (2 * i + 1) 0) (put_chunk_whole out (weave_of xs ys) room) ∙ odds xs ys i p ∙
    ap₂ (λ v w. get_or (v ++ w) (16 + i) 0) first second ∙
    get_or-append_right xs ys 16 (16 + i) 0 l (omega arith) ∙ ap (λ k. get_or ys k 0) other

-- ---- a row woven with the next

pub woven_place_is : (n stride y x h : ℕ) → x < n → h < 2 → woven_place n stride (y * (2 * n) + (2 * x + h)) ≡ (y + h) * stride + x
woven_place_is n stride y x h inside few =
    let below : 2 * x + h < 2 * n = omega (arith, inside, few) in
    let odd : (2 * x + h) % 2 ≡ h = omega (arith, few) in
    let half : (2 * x + h) / 2 ≡ x = omega (arith, few) in
    ap₂ (λ d m. (d + m % 2) * stride + m / 2) (div-mul-add y (2 * n) (2 * x + h) below) (mod-mul-add y (2 * n) (2 * x + h) below) ∙
    ap₂ (λ a b. (y + a) * stride + b) odd half

pub part_woven : (samples part : List ℕ) (n stride y x : ℕ) → x + 16 ≤ n →
    ((i : ℕ) → i < 16 → slice_index_or part (2 * i) 0 ≡ slice_index_or (row_part samples (y * stride + x) 16) i 0) →
    ((i : ℕ) → i < 16 → slice_index_or part (2 * i + 1) 0 ≡ slice_index_or (row_part samples ((y + 1) * stride + x) 16) i 0) →
    (j : ℕ) → j < 32 → slice_index_or part j 0 ≡ slice_index_or samples (woven_place n stride (y * (2 * n) + 2 * x + j)) 0
part_woven samples part n stride y x inside even odd =
    by_turns 16 (λ j. slice_index_or part j 0 ≡ slice_index_or samples (woven_place n stride (y * (2 * n) + 2 * x + j)) 0)
    (λ i below.
    let here : y * (2 * n) + 2 * x + 2 * i ≡ y * (2 * n) + (2 * (x + i) + 0) = omega arith in
    let none : y + 0 ≡ y = omega arith in
    let place : woven_place n stride (y * (2 * n) + 2 * x + 2 * i) ≡ y * stride + x + i =
    ap (woven_place n stride) here ∙ woven_place_is n stride y (x + i) 0 (omega (arith, inside, below)) (omega arith) ∙
    ap (λ r. r * stride + (x + i)) none ∙ omega arith in
    even i below ∙ part_at samples (y * stride + x) i below ∙ ap (λ k. slice_index_or samples k 0) (sym place))
    (λ i below.
    let here : y * (2 * n) + 2 * x + (2 * i + 1) ≡ y * (2 * n) + (2 * (x + i) + 1) = omega arith in
    let place : woven_place n stride (y * (2 * n) + 2 * x + (2 * i + 1)) ≡ (y + 1) * stride + x + i =
    ap (woven_place n stride) here ∙ woven_place_is n stride y (x + i) 1 (omega (arith, inside, below)) (omega arith) ∙ omega arith in
    odd i below ∙ part_at samples ((y + 1) * stride + x) i below ∙ ap (λ k. slice_index_or samples k 0) (sym place))

-- ---- a block of them

-- so many times 32 places are a block
pub whole_block : (n : ℕ) → 16 * (n / 16) ≡ n → 32 * (n * n / 32) ≡ n * n
whole_block n e =
    let m : ℕ = n / 16 in
    let square : 256 * (m * m) ≡ n * n = omega arith ∙ ap₂ (λ k l. k * l) e e in
    omega (arith, square)

-- the samples that the taps meet are there
pub woven_inside : (n T at p : ℕ) (woven : List ℕ) → 2 * (T / 2) ≡ T → at + 32 ≤ 2 * (n * n) → (n + T - 2) * (2 * n) ≤ length woven → p < T / 2 →
    at + p * (4 * n) + 32 ≤ length woven
woven_inside n T at p woven even block room more =
    let rows : n + T - 2 ≡ n + (T - 2) = omega (arith, more) in
    let all : (n + T - 2) * (2 * n) ≡ n * (2 * n) + (T - 2) * (2 * n) = ap (λ m. m * (2 * n)) rows ∙ add-mul n (T - 2) (2 * n) in
    let skipped : 2 * p * (2 * n) ≤ (T - 2) * (2 * n) = mul-le-mul_right (2 * n) (omega (arith, more, even)) in
    let twice : p * (4 * n) ≡ 2 * p * (2 * n) = omega arith in
    let square : n * (2 * n) ≡ 2 * (n * n) = omega arith in
    omega (arith, all, skipped, twice, square, block, room)

-- the rows that are woven are there
pub rows_inside : (n T stride : ℕ) (samples : List ℕ) → 0 < n → 0 < T → HoldsTaps samples stride stride T n n →
    (y : ℕ) → y ≤ n + T - 2 → y * stride + n ≤ length samples
rows_inside n T stride samples some taps inside y few =
    let last : (n - 1) * stride + (T - 1) * stride + n ≤ length samples = inside (n - 1) (omega (arith, some)) in
    let most : y * stride ≤ (n - 1 + (T - 1)) * stride = mul-le-mul_right stride (omega (arith, few, some, taps)) in
    omega (arith, last, most, add-mul (n - 1) (T - 1) stride)

-- sums over woven rows are those down the columns
pub columns_are : (taps : List ℤ) (samples woven : List ℕ) (n T stride k : ℕ) → length taps ≡ T → 2 * (T / 2) ≡ T → 0 < n → k < n * n →
    HasFirst 0 ((n + T - 2) * (2 * n)) (λ k. slice_index_or samples (woven_place n stride k) 0) woven →
    placed_sum taps woven (paired_place (2 * k) (4 * n)) ≡ strided_sum taps samples (place_of n stride k) stride
columns_are taps samples woven n T stride k count even some inside has =
    weighted_same taps (λ t. pos (slice_index_or woven (paired_place (2 * k) (4 * n) t) 0))
    (λ t. pos (slice_index_or samples (place_of n stride k + t * stride) 0))
    (λ t below.
    let y : ℕ = k / n in
    let x : ℕ = k % n in
    let h : ℕ = t / 2 in
    let b : ℕ = t % 2 in
    let own : k ≡ k / n * n + k % n = sym (div-add-mod' k n) in
    let column : k % n < n = mod_below k n some in
    let row : k / n < n = (div-lt_iff_lt-mul some).1 inside in
    let place : paired_place (2 * k) (4 * n) t ≡ (y + 2 * h) * (2 * n) + (2 * x + b) =
    omega (arith, own, add-mul (k / n) (2 * (t / 2)) (2 * n)) in
    let room : (y + 2 * h) * (2 * n) + (2 * x + b) < (n + T - 2) * (2 * n) =
    place_inside (2 * n) (n + T - 2) (y + 2 * h) (2 * x + b) (omega (arith, row, below, count, even)) (omega (arith, column)) in
    let tap : y + 2 * h + b ≡ y + t = omega arith in
    let there : woven_place n stride ((y + 2 * h) * (2 * n) + (2 * x + b)) ≡ place_of n stride k + t * stride =
    woven_place_is n stride (y + 2 * h) x b column (omega arith) ∙ ap (λ r. r * stride + k % n) tap ∙
    omega (arith, add-mul (k / n) t stride) in
    ap pos (ap (λ i. slice_index_or woven i 0) place ∙ has _ room ∙ ap (λ i. slice_index_or samples i 0) there))
