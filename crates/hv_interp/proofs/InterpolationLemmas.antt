-- The filters over a window, as the sums over its columns and rows.
use Rattle.std.proofs.Common.{◌≡◌, ℕ, zero, suc, ◌+◌, ◌-◌, ◌*◌, ◌/◌, ◌%◌, ◌<◌, ◌≤◌, List, ℤ, pos, sym, ◌∙◌, ap, arith, length, drop, slice_index_or, take, take_all, length-drop}
use Rattle.std.proofs.Math.Nat.{add-mul, mul-le-mul_right}
use Rattle.std.proofs.lemmas.Nat.{mod_below, div-add-mod'}
use Rattle.std.proofs.lemmas.List.{get_or-drop}
use Rattle.std.specs.Int.{int_shr}
use Rattle.hv_lemmas.proofs.ComparisonLemmas.{other_than_0}
use Rattle.hv_inter_model.specs.Interpolation.{weighted, weighted_sample}
use Rattle.hv_types.specs.Windows.{HoldsBlock}
use Rattle.hv_interp.specs.Windows.{sample_of}
use Rattle.hv_interp.specs.Filters.{HasFirst, place_of, filtered, filtered_twice, HoldsTaps, strided_sum, strided_total, predicted}
use Rattle.hv_interp.proofs.SumLemmas.{weighted_same}
use Rattle.hv_interp.proofs.PlaceLemmas.{place_is}

-- a sample behind the first m ones
behind : (w : List ℕ) (m at i j stride : ℕ) → m + at ≡ j * stride + i →
    pos (slice_index_or (drop m w) at 0) ≡ sample_of w stride i j
behind w m at i j stride e = ap pos (get_or-drop m w at 0 ∙ ap (λ k. slice_index_or w k 0) e)

-- the samples behind the first ones
pub rest_is : (m : ℕ) (w : List ℕ) → take (length w - m) (drop m w) ≡ drop m w
rest_is m w = take_all (length w - m) (drop m w) (omega (arith, length-drop m w))

pub rows_are_filtered : (before xFrac n k stride : ℕ) (across down : List ℤ) (w : List ℕ) → 0 < xFrac →
    filtered across (drop (before * stride) w) stride 1 n k ≡
    predicted before xFrac 0 across down (sample_of w stride) n k
rows_are_filtered before xFrac n k stride across down w some =
    let A : ℕ → ℕ → ℤ = sample_of w stride in
    let sums : strided_sum across (drop (before * stride) w) (place_of n stride k) 1 ≡
    weighted across (λ i. A (k % n + i) (k / n + before)) =
    weighted_same across (λ i. pos (slice_index_or (drop (before * stride) w) (place_of n stride k + i * 1) 0))
    (λ i. A (k % n + i) (k / n + before))
    (λ i below. behind w (before * stride) (place_of n stride k + i * 1) (k % n + i) (k / n + before) stride
    (omega (arith, add-mul (k / n) before stride))) in
    rw (other_than_0 xFrac some) (ap weighted_sample sums)

pub columns_are_filtered : (before yFrac n k stride : ℕ) (across down : List ℤ) (w : List ℕ) → 0 < yFrac →
    filtered down (drop before w) stride stride n k ≡
    predicted before 0 yFrac across down (sample_of w stride) n k
columns_are_filtered before yFrac n k stride across down w some =
    let A : ℕ → ℕ → ℤ = sample_of w stride in
    let sums : strided_sum down (drop before w) (place_of n stride k) stride ≡
    weighted down (λ i. A (k % n + before) (k / n + i)) =
    weighted_same down (λ i. pos (slice_index_or (drop before w) (place_of n stride k + i * stride) 0))
    (λ i. A (k % n + before) (k / n + i))
    (λ i below. behind w before (place_of n stride k + i * stride) (k % n + before) (k / n + i) stride
    (omega (arith, add-mul (k / n) i stride))) in
    rw (other_than_0 yFrac some) (ap weighted_sample sums)

pub both_are_filtered : (before xFrac yFrac n k stride : ℕ) (across down : List ℤ) (w : List ℕ) →
    0 < xFrac → 0 < yFrac →
    filtered_twice across down w stride n k ≡
    predicted before xFrac yFrac across down (sample_of w stride) n k
both_are_filtered before xFrac yFrac n k stride across down w some more =
    let A : ℕ → ℕ → ℤ = sample_of w stride in
    let sums : weighted down (λ j. strided_sum across w (place_of n stride k + j * stride) 1) ≡
    weighted down (λ j. weighted across (λ i. A (k % n + i) (k / n + j))) =
    weighted_same down (λ j. strided_sum across w (place_of n stride k + j * stride) 1)
    (λ j. weighted across (λ i. A (k % n + i) (k / n + j)))
    (λ j low. weighted_same across (λ i. pos (slice_index_or w (place_of n stride k + j * stride + i * 1) 0))
    (λ i. A (k % n + i) (k / n + j))
    (λ i below. ap (λ at. pos (slice_index_or w at 0)) (omega (arith, add-mul (k / n) j stride)))) in
    rw (other_than_0 xFrac some, other_than_0 yFrac more) (ap (λ z. weighted_sample (int_shr z 6)) sums)

-- place k of a block, so many rows further down
place_below : (n k j stride : ℕ) → 0 < n → place_of n stride (k + j * n) ≡ place_of n stride k + j * stride
place_below n k j stride some =
    let own : k ≡ k / n * n + k % n = sym (div-add-mod' k n) in
    let same : k + j * n ≡ (k / n + j) * n + k % n = omega (arith, own, add-mul (k / n) j n) in
    ap (place_of n stride) same ∙ place_is n stride (k / n + j) (k % n) (mod_below k n some) ∙
    omega (arith, add-mul (k / n) j stride)

-- sums of rows, down their columns: m rows of n
pub sums_are_filtered : (n m k stride rows : ℕ) (across down : List ℤ) (w : List ℕ) (sums : List ℤ) → k < m * n →
    m + length down ≤ rows + 1 →
    HasFirst (pos 0) (rows * n) (λ k. strided_sum across w (place_of n stride k) 1) sums →
    weighted_sample (int_shr (strided_total down sums k n) 6) ≡ filtered_twice across down w stride n k
sums_are_filtered zero m k stride rows across down w sums inside enough has = absurd (omega (arith, inside))
sums_are_filtered (suc i) m k stride rows across down w sums inside enough has =
    let n : ℕ = suc i in
    ap (λ z. weighted_sample (int_shr z 6))
    (weighted_same down _ _ (λ j low.
    let last : (m + j) * n ≤ rows * n = mul-le-mul_right n (omega (arith, enough, low)) in
    has (k + j * n) (omega (arith, last, inside, add-mul m j n)) ∙
    ap (λ at. strided_sum across w at 1) (place_below n k j stride (omega arith))))

-- the samples behind the first ones hold what the taps down the columns meet
pub columns_inside : (before taps stride n : ℕ) (w : List ℕ) → 2 * before + 2 ≡ taps →
    HoldsBlock w stride (n + taps - 1) (n + taps - 1) →
    HoldsTaps (take (length w - before) (drop before w)) stride stride taps n n
columns_inside before taps stride n w e inside y below =
    let last = inside (y + (taps - 1)) (omega (arith, below, e)) in
    rw (rest_is before w) (omega (arith, last, e, add-mul y (taps - 1) stride, length-drop before w))
