-- Sums over the rows of a block, some rows at a time.
use Rattle.std.proofs.Common.{◌≡◌, ℕ, ◌+◌, ◌*◌, ◌<◌, ◌≤◌, List, ◌++◌, length, refl, arith, add-one, add_assoc, length-append, length-drop, take, drop, ap}
use Rattle.std.proofs.Math.Nat.{mul-le-mul_right}
use Rattle.std.proofs.lemmas.List.{drop-drop}
use Rattle.std.proofs.lemmas.Simd.{length-chunk}
use Rattle.hv_kernel.specs.Differences.{sad_of}
use Rattle.std.specs.Int.{abs_diff}
use Rattle.hv_kernel.proofs.PairLemmas.{sum_of_pairs-append}
use Rattle.hv_types.specs.Windows.{HoldsBlock, row_of_block}
use Rattle.hv_kernel.specs.Blocks.{sum_of_rows}

pub sum_of_no_rows : (of_row : ℕ → ℕ) → sum_of_rows of_row 0 ≡ 0
unfolding sum_of_rows
sum_of_no_rows of_row = refl

pub sum_of_rows_more : (of_row : ℕ → ℕ) (y : ℕ) → sum_of_rows of_row (y + 1) ≡ sum_of_rows of_row y + of_row y
unfolding sum_of_rows
sum_of_rows_more of_row y = rw add-one refl

-- a row that is there has the block's width
pub length-row_of_block : (samples : List ℕ) (stride width height y : ℕ) → HoldsBlock samples stride width height → y < height → length (row_of_block samples stride width y) ≡ width
length-row_of_block samples stride width height y holds below = length-chunk (y * stride) width samples (holds y below)

-- the sum after one more row, where the rows are counted on from y
sum_after : (of_row : ℕ → ℕ) (y n m : ℕ) → m ≡ n + 1 → sum_of_rows of_row (y + m) ≡ sum_of_rows of_row (y + n) + of_row (y + n)
sum_after of_row y n m e = rw (e, ← add_assoc y n 1) (sum_of_rows_more of_row (y + n))

-- four rows at once
pub four_rows_more : (xs ys : ℕ → List ℕ) (y : ℕ) → length (xs y) ≡ length (ys y) → length (xs (y + 1)) ≡ length (ys (y + 1)) → length (xs (y + 2)) ≡ length (ys (y + 2)) → sum_of_rows (λ k. sad_of (xs k) (ys k)) (y + 4) ≡ sum_of_rows (λ k. sad_of (xs k) (ys k)) y + sad_of ((xs y ++ xs (y + 1)) ++ (xs (y + 2) ++ xs (y + 3))) ((ys y ++ ys (y + 1)) ++ (ys (y + 2) ++ ys (y + 3)))
four_rows_more xs ys y e f g =
    let of_row : ℕ → ℕ = λ k. sad_of (xs k) (ys k) in
    let upper : sad_of (xs y ++ xs (y + 1)) (ys y ++ ys (y + 1)) ≡ of_row y + of_row (y + 1) = sum_of_pairs-append abs_diff (xs y) (xs (y + 1)) (ys y) (ys (y + 1)) e in
    let lower : sad_of (xs (y + 2) ++ xs (y + 3)) (ys (y + 2) ++ ys (y + 3)) ≡ of_row (y + 2) + of_row (y + 3) = sum_of_pairs-append abs_diff (xs (y + 2)) (xs (y + 3)) (ys (y + 2)) (ys (y + 3)) g in
    let even : length (xs y ++ xs (y + 1)) ≡ length (ys y ++ ys (y + 1)) = omega (arith, length-append (xs y) (xs (y + 1)), length-append (ys y) (ys (y + 1))) in
    let joined = sum_of_pairs-append abs_diff (xs y ++ xs (y + 1)) (xs (y + 2) ++ xs (y + 3)) (ys y ++ ys (y + 1)) (ys (y + 2) ++ ys (y + 3)) even in
    omega (arith, joined, upper, lower, sum_of_rows_more of_row y, sum_after of_row y 1 2 refl, sum_after of_row y 2 3 refl, sum_after of_row y 3 4 refl)

-- what a caller tests: the last row ends within the samples
pub HoldsBlock-from_last_row : (samples : List ℕ) (stride width last height : ℕ) → height ≤ last + 1 → last * stride + width ≤ length samples → HoldsBlock samples stride width height
HoldsBlock-from_last_row samples stride width last height few ends = λ y below.
    let upto : y * stride ≤ last * stride = mul-le-mul_right stride (omega arith) in
    omega arith

-- the same inside a picture, from its sample `at` on
pub HoldsBlock-drop : (samples : List ℕ) (at stride width last height : ℕ) → height ≤ last + 1 → at + last * stride + width ≤ length samples → HoldsBlock (drop at samples) stride width height
HoldsBlock-drop samples at stride width last height few ends =
    HoldsBlock-from_last_row (drop at samples) stride width last height few (omega (arith, length-drop at samples))

-- row `y` of a block inside a picture, from the picture's sample `at` on
pub row_of_block-drop : (samples : List ℕ) (at stride width y : ℕ) → row_of_block (drop at samples) stride width y ≡ take width (drop (at + y * stride) samples)
row_of_block-drop samples at stride width y = ap (take width) (drop-drop (y * stride) at samples)
