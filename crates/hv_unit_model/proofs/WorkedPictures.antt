-- Worked values of what earlier blocks and units tell later ones, and of nodes at the edges of a
-- picture.
use Rattle.std.proofs.Common.{◌≡◌, ℕ, true, false, List, [], ◌∷◌, ◌++◌, refl}
use Rattle.hv_tables.specs.declared.bins.CtxTable.TheVariants.{PartMode, PrevIntra, ChromaMode, CbfLuma, CbfChroma}
use Rattle.hv_tables.specs.declared.bins.SliceKind.TheVariants.{I}
use Rattle.hv_residual_model.specs.UnitBins.{UnitBin, InBypass, unit_bin}
use Rattle.hv_residual_model.specs.Binarization.{truncated_unary_bins}
use Rattle.hv_lemmas.specs.Lists.{tabulate}
use Rattle.hv_tree_model.specs.Trees.{Motion, Intra, Inter, Tree, Leaf, Split as SplitTree, Outside, no_levels, no_units}
use Rattle.hv_tree_model.specs.Sites.{Site, site, sites, address_of, column_of, row_of, is_outside, crosses, must_split}
use Rattle.hv_tree_model.specs.EarlierUnits.{Unavailable, Coded, square_at, Square, squares_of, Surroundings, look_picture, in_picture, split_ctxInc}
use Rattle.hv_tree_model.specs.MostProbableModes.{candModeList, candidates}
use Rattle.hv_unit_model.specs.Bins.{bin, luma_mode_bins, transform_tree_bins, transform_unit_bins, predicted_bins, bins_of_node}

-- a unit of this mode
of_mode : ℕ → Tree
of_mode mode = Leaf (Intra mode) []

four : Tree → Tree
four tree = SplitTree tree tree tree tree

-- a node that isn't split but in the quarter at its upper right
deep_at_right : Tree → Tree → Tree
deep_at_right flat deep = SplitTree flat deep flat flat

-- ---- split_cu_flag inside a block of a picture of 64x64

block_of_64 : Surroundings
block_of_64 = in_picture I 0 (site 64 64 0) []

-- 32x32 behind one of units of 16x16: at its right, and below it
behind_units_of_16 : List Square
behind_units_of_16 = squares_of 2 (four (of_mode 1))

first_has_no_neighbours : split_ctxInc block_of_64 2 0 [] ≡ 0
unfolding block_of_64 look_picture column_of row_of address_of
first_has_no_neighbours = refl

left_is_deeper : split_ctxInc block_of_64 2 16 behind_units_of_16 ≡ 1
unfolding block_of_64 behind_units_of_16 four of_mode look_picture column_of row_of address_of
left_is_deeper = refl

above_is_deeper :
    split_ctxInc block_of_64 2 32 (behind_units_of_16 ++ squares_of 2 (of_mode 1)) ≡ 1
unfolding block_of_64 behind_units_of_16 four of_mode look_picture column_of row_of address_of
above_is_deeper = refl

neither_is_deeper :
    split_ctxInc block_of_64 2 48
    (behind_units_of_16 ++ (squares_of 2 (of_mode 1) ++ squares_of 2 (of_mode 1))) ≡ 0
unfolding block_of_64 behind_units_of_16 four of_mode look_picture column_of row_of address_of
neither_is_deeper = refl

both_are_deeper :
    split_ctxInc block_of_64 2 48
    (behind_units_of_16 ++ (behind_units_of_16 ++ behind_units_of_16)) ≡ 2
unfolding block_of_64 behind_units_of_16 four of_mode look_picture column_of row_of address_of
both_are_deeper = refl

-- units of 8x8 in the upper right 16x16 alone: 16x16 at the right of them, and one lower
behind_small_corner : List Square
behind_small_corner = squares_of 2 (deep_at_right (of_mode 1) (four (of_mode 1)))

left_is_deeper_here : split_ctxInc block_of_64 1 16 behind_small_corner ≡ 1
unfolding block_of_64 behind_small_corner deep_at_right four of_mode look_picture column_of row_of address_of
left_is_deeper_here = refl

left_is_not_deeper_there :
    split_ctxInc block_of_64 1 24
    (behind_small_corner ++ (squares_of 1 (of_mode 1) ++ squares_of 1 (of_mode 1))) ≡ 0
unfolding block_of_64 behind_small_corner deep_at_right four of_mode look_picture column_of row_of address_of
left_is_not_deeper_there = refl

-- ---- the last of four blocks: in the one at its left the 16x16 at the upper right has units of
-- 8x8 of mode 10, and else mode 11; the one above it is one unit of mode 26

small_corner_of_64 : Tree
small_corner_of_64 =
    deep_at_right (of_mode 11) (deep_at_right (of_mode 11) (four (of_mode 10)))

behind_three_blocks : Tree → List Square
behind_three_blocks above =
    squares_of 3 (of_mode 2) ++ (squares_of 3 above ++ squares_of 3 small_corner_of_64)

last_of_four : Tree → Surroundings
last_of_four above = in_picture I 0 (site 128 128 3) (behind_three_blocks above)

left_block_is_deeper : split_ctxInc (last_of_four (of_mode 26)) 1 0 [] ≡ 1
unfolding last_of_four behind_three_blocks small_corner_of_64 deep_at_right four of_mode look_picture column_of row_of address_of
left_block_is_deeper = refl

left_block_is_not_deeper_below :
    split_ctxInc (last_of_four (of_mode 26)) 1 8
    (squares_of 1 (of_mode 1) ++ squares_of 1 (of_mode 1)) ≡ 0
unfolding last_of_four behind_three_blocks small_corner_of_64 deep_at_right four of_mode look_picture column_of row_of address_of
left_block_is_not_deeper_below = refl

block_above_is_deeper_too : split_ctxInc (last_of_four (four (four (of_mode 1)))) 3 0 [] ≡ 2
unfolding last_of_four behind_three_blocks small_corner_of_64 deep_at_right four of_mode look_picture column_of row_of address_of
block_above_is_deeper_too = refl

-- the mode of the block at the left counts, that of the block above stands for DC
mode_above_the_row : candidates (last_of_four (of_mode 26)) 0 [] ≡ 10 ∷ 1 ∷ 0 ∷ []
unfolding last_of_four behind_three_blocks small_corner_of_64 deep_at_right four of_mode candModeList look_picture column_of row_of address_of
mode_above_the_row = refl

-- 16x16 at the left edge, the third: its left is the other block's mode 11, above it is mode 5
mode_inside_the_row :
    candidates (last_of_four (of_mode 26)) 8 (squares_of 1 (of_mode 5) ++ squares_of 1 (of_mode 7))
    ≡ 11 ∷ 5 ∷ 0 ∷ []
unfolding last_of_four behind_three_blocks small_corner_of_64 deep_at_right four of_mode candModeList look_picture column_of row_of address_of
mode_inside_the_row = refl

-- the second: its left is the first
mode_at_the_right :
    candidates (last_of_four (of_mode 26)) 4 (squares_of 1 (of_mode 5)) ≡ 5 ∷ 1 ∷ 0 ∷ []
unfolding last_of_four behind_three_blocks small_corner_of_64 deep_at_right four of_mode candModeList look_picture column_of row_of address_of
mode_at_the_right = refl

-- the third block, at the picture's left edge: nothing is at its left
at_left_edge : Surroundings
at_left_edge =
    in_picture I 0 (site 128 128 2)
    (squares_of 3 (four (of_mode 2)) ++ squares_of 3 (four (four (of_mode 2))))

left_edge_is_not_deeper : split_ctxInc at_left_edge 3 0 [] ≡ 1
unfolding at_left_edge four of_mode look_picture column_of row_of address_of
left_edge_is_not_deeper = refl

left_edge_has_no_mode :
    candidates at_left_edge 2 (squares_of 0 (of_mode 9) ++ squares_of 0 (of_mode 8)) ≡
    1 ∷ 9 ∷ 0 ∷ []
unfolding at_left_edge four of_mode candModeList look_picture column_of row_of address_of
left_edge_has_no_mode = refl

-- beside four units of 8x8 with modes of their own: at their right the second counts, and below them
-- the third
four_modes : List Square
four_modes = squares_of 1 (SplitTree (of_mode 3) (of_mode 4) (of_mode 6) (of_mode 7))

second_at_the_right : candidates block_of_64 4 four_modes ≡ 4 ∷ 1 ∷ 0 ∷ []
unfolding block_of_64 four_modes of_mode candModeList look_picture column_of row_of address_of
second_at_the_right = refl

third_above : candidates block_of_64 8 (four_modes ++ four_modes) ≡ 1 ∷ 6 ∷ 0 ∷ []
unfolding block_of_64 four_modes of_mode candModeList look_picture column_of row_of address_of
third_above = refl

-- an inter unit stands for DC
inter_stands_for_dc :
    (motion : Motion) →
    candidates block_of_64 4 (squares_of 1 (Leaf (Inter motion) [])) ≡ 0 ∷ 1 ∷ 26 ∷ []
unfolding block_of_64 candModeList look_picture column_of row_of address_of
inter_stands_for_dc motion = refl

-- ---- squares at places of a picture, which are counted from 8: each is marked by its number

marked : ℕ → List Square
marked count = tabulate count (λ n. Coded n (Intra 1))

-- of 16x16 squares: column 11 and row 13 lie in the last block, at column 3 and row 5
in_last_block : square_at (site 128 128 0) (marked 256) 19 21 ≡ Coded 231 (Intra 1)
unfolding marked tabulate address_of
in_last_block = refl

in_second_block : square_at (site 128 128 3) (marked 256) 22 9 ≡ Coded 86 (Intra 1)
unfolding marked tabulate address_of
in_second_block = refl

not_yet : square_at (site 128 128 0) (marked 231) 19 21 ≡ Unavailable
unfolding marked tabulate address_of
not_yet = refl

-- of 9x7 squares: the last column and the last row, one beyond each, and one before the first
last_column : square_at (site 72 56 0) (marked 128) 16 8 ≡ Coded 64 (Intra 1)
unfolding marked tabulate address_of
last_column = refl

beyond_the_right : square_at (site 72 56 0) (marked 128) 17 8 ≡ Unavailable
unfolding marked tabulate address_of
beyond_the_right = refl

last_row : square_at (site 72 56 0) (marked 128) 8 14 ≡ Coded 40 (Intra 1)
unfolding marked tabulate address_of
last_row = refl

-- of 8x16 squares
last_row_of_16 : square_at (site 64 128 0) (marked 128) 8 23 ≡ Coded 106 (Intra 1)
unfolding marked tabulate address_of
last_row_of_16 = refl

below_the_last : square_at (site 72 56 0) (marked 128) 8 15 ≡ Unavailable
unfolding marked tabulate address_of
below_the_last = refl

before_the_first : square_at (site 72 56 0) (marked 128) 7 8 ≡ Unavailable
unfolding marked tabulate address_of
before_the_first = refl

above_the_first : square_at (site 72 56 0) (marked 128) 8 7 ≡ Unavailable
unfolding marked tabulate address_of
above_the_first = refl

-- ---- a picture of 66x50, padded to 72x56: two blocks

two_sites : sites 72 56 ≡ site 72 56 0 ∷ site 72 56 1 ∷ []
unfolding sites
two_sites = refl

left_block : Site
left_block = site 72 56 0

right_block : Site
right_block = site 72 56 1

-- the left block lies inside but for its last row: 64x64 and the lower 32x32 and 16x16 cross it
sizes_that_cross :
    (must_split left_block 3 0 ≡ true) × (must_split left_block 2 0 ≡ false) ×
    (must_split left_block 2 16 ≡ false) × (must_split left_block 2 32 ≡ true) ×
    (must_split left_block 1 32 ≡ false) × (must_split left_block 1 40 ≡ true) ×
    (must_split left_block 0 40 ≡ false) × (is_outside left_block 40 ≡ false) ×
    (is_outside left_block 42 ≡ true) × (is_outside left_block 21 ≡ false)
unfolding left_block crosses is_outside column_of row_of
sizes_that_cross = (refl, refl, refl, refl, refl, refl, refl, refl, refl, refl)

-- of the right block one column of 8x8 is there
columns_that_cross :
    (must_split right_block 2 0 ≡ true) × (must_split right_block 1 0 ≡ true) ×
    (must_split right_block 0 0 ≡ false) × (is_outside right_block 0 ≡ false) ×
    (is_outside right_block 1 ≡ true) × (is_outside right_block 16 ≡ true) ×
    (is_outside right_block 40 ≡ false) × (is_outside right_block 42 ≡ true)
unfolding right_block crosses is_outside column_of row_of
columns_that_cross = (refl, refl, refl, refl, refl, refl, refl, refl)

flat : Tree
flat = Leaf (Intra 1) (no_units 0)

at_left : Tree → Tree → Tree
at_left upper lower = SplitTree upper Outside lower Outside

column_of_8 : Tree
column_of_8 =
    at_left (at_left (at_left flat flat) (at_left flat flat))
    (at_left (at_left flat flat) (at_left flat Outside))

bins_of_flat : List UnitBin
bins_of_flat =
    bin PartMode 0 true ∷ bin PrevIntra 0 true ∷ unit_bin InBypass true ∷ unit_bin InBypass false ∷
    bin ChromaMode 0 false ∷ bin CbfChroma 0 false ∷ bin CbfChroma 0 false ∷
    bin CbfLuma 1 false ∷ []

-- seven units, and no split_cu_flag
bins_of_column :
    bins_of_node (in_picture I 0 right_block (squares_of 3 (four (of_mode 1)))) 3 0 [] column_of_8 ≡
    bins_of_flat ++ (bins_of_flat ++ (bins_of_flat ++ (bins_of_flat ++ (bins_of_flat ++
    (bins_of_flat ++ bins_of_flat)))))
unfolding right_block flat at_left column_of_8 bins_of_flat four of_mode bins_of_node predicted_bins luma_mode_bins candModeList transform_tree_bins transform_unit_bins truncated_unary_bins no_units no_levels look_picture column_of row_of address_of crosses is_outside
bins_of_column = refl
