-- Worked values of the definitions.
use Rattle.std.proofs.Common.{◌≡◌, ℕ, List, [], ◌∷◌, refl}
use Rattle.hv_kernel.specs.Differences.{sad_of, ssd_of}
use Rattle.hv_kernel.specs.Blocks.{sum_of_rows, sad_of_lists, ssd_of_lists}
use Rattle.hv_kernel.specs.QuarterPicture.{quarter_sample}

three_pairs : sad_of (1 ∷ 2 ∷ 3 ∷ []) (4 ∷ 0 ∷ 3 ∷ []) ≡ 5
three_pairs = refl

three_squared_pairs : ssd_of (1 ∷ 2 ∷ 3 ∷ []) (4 ∷ 0 ∷ 3 ∷ []) ≡ 13
three_squared_pairs = refl

black_against_white : ssd_of (0 ∷ 255 ∷ []) (255 ∷ 0 ∷ []) ≡ 130050
black_against_white = refl

-- two rows of two columns; the nines lie outside the block
first : List ℕ
first = 1 ∷ 2 ∷ 9 ∷ 3 ∷ 4 ∷ 9 ∷ []

second : List ℕ
second = 5 ∷ 5 ∷ 9 ∷ 9 ∷ 7 ∷ 7 ∷ []

two_rows_of_two : sad_of_lists first 3 second 4 2 2 ≡ 14
unfolding sum_of_rows first second
two_rows_of_two = refl

two_squared_rows_of_two : ssd_of_lists first 3 second 4 2 2 ≡ 50
unfolding sum_of_rows first second
two_squared_rows_of_two = refl

-- two squares side by side, of the sums 7 and 24
rows : List ℕ
rows = 7 ∷ 0 ∷ 0 ∷ 0 ∷ 8 ∷ 0 ∷ 0 ∷ 0 ∷ 0 ∷ 0 ∷ 0 ∷ 0 ∷ 0 ∷ 8 ∷ 0 ∷ 0 ∷ 0 ∷ 0 ∷ 0 ∷ 0 ∷ 0 ∷ 0 ∷ 0 ∷ 0 ∷ 0 ∷ 0 ∷ 0 ∷ 0 ∷ 0 ∷ 0 ∷ 0 ∷ 8 ∷ []

a_mean_below_a_half : quarter_sample rows 8 0 ≡ 0
unfolding sum_of_rows rows
a_mean_below_a_half = refl

a_half_rounded_up : quarter_sample rows 8 1 ≡ 2
unfolding sum_of_rows rows
a_half_rounded_up = refl
