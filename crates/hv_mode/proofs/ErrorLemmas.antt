-- Squared differences of two windows, by rows and columns.
use Rattle.std.proofs.Common.{◌≡◌, ℕ, zero, suc, ◌+◌, ◌-◌, ◌*◌, ◌^◌, ◌<◌, ◌≤◌, List, [], ◌∷◌, length, take, drop, get_or, refl, sym, ap, ap₂, subst, ◌∙◌, arith, length-drop}
use Rattle.std.specs.Prelude.{slice_get}
use Rattle.std.proofs.Math.Nat.{mul-le-mul_right, add-mul}
use Rattle.std.proofs.lemmas.List.{take_more, length-take-le, get_or-drop}
use Rattle.hv_types.specs.Samples.{Plane, sample_at}
use Rattle.hv_types.specs.declared.window.Window.{Window}
use Rattle.hv_types.specs.Windows.{HoldsBlock, row_of_block}
use Rattle.hv_sample_model.specs.Blocks.{total_of}
use Rattle.hv_recon_model.specs.Reconstruction.{sample_of}
use Rattle.hv_recon_model.specs.SeenSamples.{by_rows}
use Rattle.hv_mode_model.specs.ModeDecision.{squared_difference}
use Rattle.hv_kernel.specs.Blocks.{sum_of_rows}
use Rattle.hv_kernel.specs.Differences.{ssd_of}
use Rattle.hv_kernel.proofs.PairLemmas.{sum_of_pairs-append}
use Rattle.hv_mode.specs.declared.square.Square.{Square}
use Rattle.hv_mode.specs.NodeErrors.{errors_by_rows}
use Rattle.hv_sample_model.proofs.SumLemmas.{total_of_same}

-- ---- sums

rows_are : (n : ℕ) (f : ℕ → ℕ) → sum_of_rows f n ≡ total_of n f
unfolding total_of sum_of_rows
rows_are zero f = refl
rows_are (suc n) f = ap (λ a. a + f n) (rows_are n f)

one_pair : (x y : ℕ) → ssd_of (x ∷ []) (y ∷ []) ≡ squared_difference x y
one_pair x y = omega arith

-- the squared differences of the first samples of two rows
pub row_is : (n : ℕ) (xs ys : List ℕ) → n ≤ length xs → n ≤ length ys →
    ssd_of (take n xs) (take n ys) ≡
    total_of n (λ x. squared_difference (get_or xs x 0) (get_or ys x 0))
unfolding total_of
row_is zero xs ys few many = refl
row_is (suc n) xs ys few many =
    let next : suc n ≡ n + 1 = omega arith in
    let same : length (take n xs) ≡ length (take n ys) =
    length-take-le n xs (omega (arith, few)) ∙ sym (length-take-le n ys (omega (arith, many))) in
    ap (λ m. ssd_of (take m xs) (take m ys)) next ∙
    ap₂ ssd_of (take_more xs n 0 (omega (arith, few))) (take_more ys n 0 (omega (arith, many))) ∙
    sum_of_pairs-append squared_difference (take n xs) (get_or xs n 0 ∷ []) (take n ys)
    (get_or ys n 0 ∷ []) same ∙
    ap₂ (λ a b. a + b) (row_is n xs ys (omega (arith, few)) (omega (arith, many)))
    (one_pair (get_or xs n 0) (get_or ys n 0))

-- ---- windows

-- the samples of a plane from a place on, with its stride
window_sample : (all : List ℕ) (at stride x y k : ℕ) → at + y * stride + x ≡ k →
    get_or (drop (y * stride) (drop at all)) x 0 ≡ get_or all k 0
window_sample all at stride x y k same =
    get_or-drop (y * stride) (drop at all) x 0 ∙ get_or-drop at all (y * stride + x) 0 ∙
    ap (λ i. get_or all i 0) (omega (arith, same))

place_of : (top row stride left column : ℕ) →
    top * stride + left + row * stride + column ≡ (top + row) * stride + (left + column)
place_of top row stride left column = omega arith

known_sample : (own : List ℕ) (k : ℕ) → get_or own k 0 ≡ sample_of (slice_get own k)
known_sample [] k = refl
known_sample (x ∷ own) zero = refl
known_sample (x ∷ own) (suc k) = known_sample own k

row_room : (samples : List ℕ) (stride n y : ℕ) → HoldsBlock samples stride n n → y < n →
    n ≤ length (drop (y * stride) samples)
row_room samples stride n y holds below =
    omega (arith, holds y below, length-drop (y * stride) samples)

-- a row of a square of a block, whose samples stand by rows of this side
pub own_row : (own : List ℕ) (side row column columns y : ℕ) → length own ≡ side * side →
    column + columns ≤ side → row + columns ≤ side → y < columns →
    y * side + columns ≤
    length (take (length own - (row * side + column)) (drop (row * side + column) own))
own_row own side row column columns y whole right bottom below =
    let at : ℕ = row * side + column in
    let rows : (row + y + 1) * side ≤ side * side =
    mul-le-mul_right side (omega (arith, bottom, below)) in
    let rest : length (drop at own) ≡ length own - at = length-drop at own in
    omega (
      arith,
      rows,
      add-mul (row + y) 1 side,
      add-mul row y side,
      whole,
      right,
      rest,
      length-take-le (length own - at) (drop at own) (omega (arith, rest)),
    )

-- of a plane and a block, from these places on
pub windows_are : (input : Plane) (own : List ℕ) (side n left top column row : ℕ) →
    HoldsBlock (drop (top * input.width + left) input.samples) input.width n n →
    HoldsBlock (drop (row * side + column) own) side n n →
    sum_of_rows (λ y.
    ssd_of (row_of_block (drop (top * input.width + left) input.samples) input.width n y)
    (row_of_block (drop (row * side + column) own) side n y)) n ≡
    total_of n (λ y. total_of n (λ x. squared_difference (sample_at input (left + x) (top + y))
    (sample_of (by_rows side own (column + x) (row + y)))))
windows_are input own side n left top column row first second =
    rows_are n _ ∙ total_of_same n _ _ (λ y below.
    row_is n _ _ (row_room _ input.width n y first below) (row_room _ side n y second below) ∙
    total_of_same n _ _ (λ x inside.
    ap₂ squared_difference
    (window_sample input.samples (top * input.width + left) input.width x y _
    (place_of top y input.width left x))
    (window_sample own (row * side + column) side x y _ (place_of row y side column x) ∙
    known_sample own ((row + y) * side + (column + x)))))

-- ---- two windows that are these

same_rows : (a b : List ℕ) (stride stride2 columns columns2 rows rows2 : ℕ) → a ≡ b →
    stride ≡ stride2 → columns ≡ columns2 → rows ≡ rows2 → HoldsBlock a stride columns rows →
    HoldsBlock b stride2 columns2 rows2
same_rows a b stride stride2 columns columns2 rows rows2 samples strides wide high holds =
    subst (λ v. HoldsBlock v stride2 columns2 rows2) samples
    (subst (λ v. HoldsBlock a v columns2 rows2) strides
    (subst (λ v. HoldsBlock a stride v rows2) wide
    (subst (λ v. HoldsBlock a stride columns v) high holds)))

-- a window has these samples, this stride, and n columns and rows
pub record IsWindow (w : Window) (samples : List ℕ) (stride n : ℕ) : Type 0 where
  pub samples_are : w.samples.now ≡ samples
  pub stride_is : w.stride ≡ stride
  pub columns_are : w.columns ≡ n
  pub rows_are : w.rows ≡ n

window_holds : (w : Window) (samples : List ℕ) (stride n : ℕ) → IsWindow w samples stride n →
    HoldsBlock samples stride n n
window_holds w samples stride n is =
    same_rows w.samples.now samples w.stride stride w.columns n w.rows n is.samples_are is.stride_is
    is.columns_are is.rows_are w.whole

pub square_is : (result n : ℕ) (first second : Window) (input : Plane) (own : List ℕ) (side : ℕ)
    (s : Square) → n ≡ 2 ^ s.log2 →
    IsWindow first (drop (s.top * input.width + s.left) input.samples) input.width n →
    IsWindow second (drop (s.row * side + s.column) own) side n →
    result ≡
    sum_of_rows (λ y.
    ssd_of (row_of_block first.samples.now first.stride first.columns y)
    (row_of_block second.samples.now second.stride second.columns y)) first.rows →
    result ≡ errors_by_rows side input own s
square_is result n first second input own side s power a b summed =
    summed ∙
    (λ i. sum_of_rows (λ y.
    ssd_of (row_of_block (a.samples_are i) (a.stride_is i) (a.columns_are i) y)
    (row_of_block (b.samples_are i) (b.stride_is i) (b.columns_are i) y)) (a.rows_are i)) ∙
    windows_are input own side n s.left s.top s.column s.row (window_holds first _ _ n a)
    (window_holds second _ _ n b) ∙
    (λ i. total_of (power i) (λ y. total_of (power i) (λ x.
    squared_difference (sample_at input (s.left + x) (s.top + y))
    (sample_of (by_rows side own (s.column + x) (s.row + y))))))
