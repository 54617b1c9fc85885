-- Sums of differences of two blocks.
use Rattle.std.specs.Prelude.{ℕ, ◌+◌, zero, suc, List}
use Rattle.hv_types.specs.declared.window.Window.{Window}
use Rattle.hv_types.specs.Windows.{row_of_block}
use Rattle.hv_kernel.specs.declared.pair.Pair.{Pair}
use Rattle.hv_kernel.specs.Differences.{sad_of, ssd_of}

-- row y of a block
abbrev pub row_of : Window → ℕ → List ℕ
row_of w y = row_of_block w.samples.now w.stride w.columns y

-- a number for each row, summed over the first rows
unfoldable pub sum_of_rows : (ℕ → ℕ) → ℕ → ℕ
sum_of_rows of_row zero = 0
sum_of_rows of_row (suc y) = sum_of_rows of_row y + of_row y

-- the sum of absolute differences of two blocks of so many columns and rows, each given by its
-- samples and its stride: the plain sum over the rows
abbrev pub sad_of_lists : List ℕ → ℕ → List ℕ → ℕ → ℕ → ℕ → ℕ
sad_of_lists a a_stride b b_stride columns rows =
    sum_of_rows (λ y. sad_of (row_of_block a a_stride columns y)
    (row_of_block b b_stride columns y)) rows

-- the sum of squared differences, likewise
abbrev pub ssd_of_lists : List ℕ → ℕ → List ℕ → ℕ → ℕ → ℕ → ℕ
ssd_of_lists a a_stride b b_stride columns rows =
    sum_of_rows (λ y. ssd_of (row_of_block a a_stride columns y)
    (row_of_block b b_stride columns y)) rows

-- the sum of absolute differences of the first rows of two blocks: the plain sum over these rows
abbrev pub sad_of_rows : Pair → ℕ → ℕ
sad_of_rows blocks rows =
    sum_of_rows (λ y. sad_of (row_of blocks.first y) (row_of blocks.second y)) rows

-- the sum of squared differences, likewise
abbrev pub ssd_of_rows : Pair → ℕ → ℕ
ssd_of_rows blocks rows =
    sum_of_rows (λ y. ssd_of (row_of blocks.first y) (row_of blocks.second y)) rows

-- .. of all rows
abbrev pub sad_of_blocks : Pair → ℕ
sad_of_blocks blocks = sad_of_rows blocks blocks.first.rows

abbrev pub ssd_of_blocks : Pair → ℕ
ssd_of_blocks blocks = ssd_of_rows blocks blocks.first.rows
