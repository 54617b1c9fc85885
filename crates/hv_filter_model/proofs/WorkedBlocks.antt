-- Worked areas of coding tree blocks, costs and first least costs.
use Rattle.std.proofs.Common.{◌≡◌, ℕ, ◌/◌, refl, [], ◌∷◌, map}
use Rattle.hv_lemmas.specs.Lists.{tabulate}
use Rattle.hv_types.specs.Samples.{plane_by_rows}
use Rattle.hv_filter_model.specs.Blocks.{luma_side, chroma_side, blocks_over, block_number, block_area, Location, locations}
use Rattle.hv_filter_model.specs.Costs.{bin_weight, cost, first_least}

sides : map (λ samples. blocks_over luma_side samples) (8 ∷ 64 ∷ 65 ∷ 128 ∷ 129 ∷ []) ≡
    1 ∷ 1 ∷ 2 ∷ 2 ∷ 3 ∷ []
sides = refl

chroma_sides : map (λ samples. blocks_over chroma_side samples) (4 ∷ 32 ∷ 33 ∷ 64 ∷ []) ≡
    1 ∷ 1 ∷ 2 ∷ 2 ∷ []
chroma_sides = refl

numbers : map (λ x. block_number 64 3 x 64) (0 ∷ 63 ∷ 64 ∷ 191 ∷ []) ≡ 3 ∷ 3 ∷ 4 ∷ 5 ∷ []
numbers = refl

-- the last of two columns and two rows of blocks, of a plane of 72 columns and 130 rows
cut_area : block_area 64 2 3 (plane_by_rows 72 130 []) ≡
    record { left = 64; top = 64; columns = 8; rows = 64 }
cut_area = refl

lowest_area : block_area 64 2 4 (plane_by_rows 72 130 []) ≡
    record { left = 0; top = 128; columns = 64; rows = 2 }
lowest_area = refl

abbrev at : ℕ → ℕ → Location
at x y = record { x = x; y = y }

by_rows : locations (record { left = 4; top = 7; columns = 3; rows = 2 }) ≡
    at 4 7 ∷ at 5 7 ∷ at 6 7 ∷ at 4 8 ∷ at 5 8 ∷ at 6 8 ∷ []
unfolding tabulate
by_rows = refl

-- 9, 11 and 14 times 1, 2, 4, 8 and 16, divided by 16 and rounded down
low_weights : tabulate 15 bin_weight ≡
    0 ∷ 0 ∷ 0 ∷ 1 ∷ 1 ∷ 1 ∷ 2 ∷ 2 ∷ 3 ∷ 4 ∷ 5 ∷ 7 ∷ 9 ∷ 11 ∷ 14 ∷ []
unfolding tabulate
low_weights = refl

-- 14 * 1024 / 16, 11 * 65536 / 16, 14 * 65536 / 16 and 9 * 131072 / 16
high_weights : map bin_weight (32 ∷ 49 ∷ 50 ∷ 51 ∷ []) ≡ 896 ∷ 45056 ∷ 57344 ∷ 73728 ∷ []
high_weights = refl

two_squares_and_three_bins : cost 12 2 3 ≡ 59
two_squares_and_three_bins = refl

-- of the tens 2, 1, 1, 3 and 1
earliest_of_equals : first_least (λ n. n / 10) 25 (13 ∷ 17 ∷ 31 ∷ 11 ∷ []) ≡ 13
earliest_of_equals = refl

first_of_equals : first_least (λ n. n / 10) 15 (13 ∷ 17 ∷ []) ≡ 15
first_of_equals = refl

last_is_least : first_least (λ n. n / 10) 25 (31 ∷ 19 ∷ []) ≡ 19
last_is_least = refl
