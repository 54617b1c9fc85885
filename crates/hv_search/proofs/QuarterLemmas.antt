-- The picture of quarter size: its samples are means of squares.
use Rattle.std.proofs.Common.{◌≡◌, ℕ, ◌+◌, ◌*◌, ◌/◌, ◌%◌, ◌^◌, ◌<◌, ◌≤◌, zero, suc, List, [], ◌∷◌, length, take, drop, get_or, refl, arith, ap, ap₂, ◌∙◌, take-add, length-drop}
use Rattle.std.specs.Prelude.{sum}
use Rattle.std.proofs.lemmas.List.Sums.{sum_by-append, sum_by-cons}
use Rattle.std.proofs.lemmas.List.{get_or-take, get_or-drop}
use Rattle.std.proofs.Math.Nat.{add-mul, mul-le-mul_right, mul_comm}
use Rattle.hv_types.specs.Samples.{Plane, plane_by_rows}
use Rattle.hv_kernel.specs.QuarterPicture.{quarter_sample}
use Rattle.hv_sample_model.specs.Blocks.{total_of}
use Rattle.hv_sample_model.proofs.SumLemmas.{total_of_same}
use Rattle.hv_search_model.specs.MotionSearch.{mean_of_square, quarter_size}
use Rattle.hv_interp.specs.Filters.{HasFirst}
use Rattle.hv_types.proofs.SampleLemmas.{rows_are}
use Rattle.std.proofs.lemmas.Nat.{mod-mul-add, div-mul-add, mul-add-lt}
use Rattle.hv_search.proofs.FullLemmas.{total_of_rows, take_one}

-- a run of samples
sum_of_run : (s : List ℕ) (a n : ℕ) → a + n ≤ length s →
    sum (take n (drop a s)) ≡ total_of n (λ i. get_or s (a + i) 0)
unfolding total_of
sum_of_run s a zero inside = refl
sum_of_run s a (suc n) inside =
    let xs : List ℕ = drop a s in
    let more : suc n ≡ n + 1 = omega arith in
    let last : take 1 (drop n xs) ≡ get_or s (a + n) 0 ∷ [] =
    take_one xs n (omega (arith, length-drop a s, inside)) ∙ ap (λ v. v ∷ []) (get_or-drop a s n 0) in
    ap (λ m. sum (take m xs)) more ∙ ap sum (take-add n 1 xs) ∙ sum_by-append (λ v. v) (take n xs) (take 1 (drop n xs)) ∙
    ap₂ (λ u v. u + v) (sum_of_run s a n (omega (arith, inside))) (ap sum last ∙ sum_by-cons (λ v. v) (get_or s (a + n) 0) [] ∙ omega arith)

-- sample k of row y
pub quarter_is : (plane : Plane) (y k : ℕ) (rows : List ℕ) →
    rows ≡ take (4 * plane.width) (drop (4 * y * plane.width) plane.samples) →
    length rows ≡ 4 * plane.width → 4 * k + 4 ≤ plane.width →
    quarter_sample rows plane.width k ≡ mean_of_square plane k y
quarter_is plane y k rows is long inside =
    ap (λ t. (t + 8) / 2 ^ 4)
    (total_of_rows (λ j. sum (take 4 (drop (j * w + 4 * k) rows))) 4 ∙
    total_of_same 4 (λ j. sum (take 4 (drop (j * w + 4 * k) rows)))
    (λ j. total_of 4 (λ i. get_or s ((4 * y + j) * w + (4 * k + i)) 0)) row)
  where
    w : ℕ
    w = plane.width

    s : List ℕ
    s = plane.samples

    row : (j : ℕ) → j < 4 → sum (take 4 (drop (j * w + 4 * k) rows)) ≡
        total_of 4 (λ i. get_or s ((4 * y + j) * w + (4 * k + i)) 0)
    row j below =
        let upto : j * w ≤ 3 * w = mul-le-mul_right w (omega (arith, below)) in
        sum_of_run rows (j * w + 4 * k) 4 (omega (arith, long, upto, inside)) ∙
        total_of_same 4 (λ i. get_or rows (j * w + 4 * k + i) 0) (λ i. get_or s ((4 * y + j) * w + (4 * k + i)) 0)
        (λ i few.
        ap (λ l. get_or l (j * w + 4 * k + i) 0) is ∙
        get_or-take (4 * w) (drop (4 * y * w) s) (j * w + 4 * k + i) 0 (omega (arith, upto, inside, few)) ∙
        get_or-drop (4 * y * w) s (j * w + 4 * k + i) 0 ∙
        ap (λ m. get_or s m 0) (omega (arith, add-mul (4 * y) j w)))

-- four rows of w lie inside
pub four_rows_inside : (y w h : ℕ) → 4 * y + 4 ≤ h → 4 * y * w + 4 * w ≤ w * h
four_rows_inside y w h inside =
    omega (arith, mul-le-mul_right w inside, add-mul (4 * y) 4 w, mul_comm h w)

-- the samples by rows are those of the picture of quarter size
pub quarter_size_is : (plane : Plane) (samples : List ℕ) → 0 < plane.width / 4 →
    length samples ≡ plane.width / 4 * (plane.height / 4) →
    HasFirst 0 (plane.width / 4 * (plane.height / 4)) (λ k. mean_of_square plane (k % (plane.width / 4)) (k / (plane.width / 4))) samples →
    plane_by_rows (plane.width / 4) (plane.height / 4) samples ≡ quarter_size plane
unfolding quarter_size
quarter_size_is plane samples wide long each =
    ap (plane_by_rows (plane.width / 4) (plane.height / 4))
    (rows_are (plane.width / 4) (plane.height / 4) (mean_of_square plane) samples wide long
    (λ x y across down.
    let n : ℕ = plane.width / 4 in
    each (y * n + x) (omega (arith, mul-add-lt y n x (plane.height / 4) down across, mul_comm n (plane.height / 4))) ∙
    ap₂ (mean_of_square plane) (mod-mul-add y n x across) (div-mul-add y n x across)))
