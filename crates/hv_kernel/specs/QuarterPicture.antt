-- The quarter picture: one sample for each square of 4x4 luma samples.
use Rattle.std.specs.Prelude.{ℕ, ◌+◌, ◌*◌, ◌/◌, ◌^◌, List, take, drop, sum}
use Rattle.hv_kernel.specs.Blocks.{sum_of_rows}

-- the sum of the square of 4x4 samples that begins at `column`, in four rows of `width` samples
abbrev pub sum_of_square : List ℕ → ℕ → ℕ → ℕ
sum_of_square rows width column = sum_of_rows (λ y. sum (take 4 (drop (y * width + column) rows))) 4

-- sample `k` of a row of the quarter picture: the mean of its square, a half rounded up
abbrev pub quarter_sample : List ℕ → ℕ → ℕ → ℕ
quarter_sample rows width k = (sum_of_square rows width (4 * k) + 8) / 2 ^ 4
