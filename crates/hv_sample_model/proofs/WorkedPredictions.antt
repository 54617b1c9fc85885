-- Worked predictions of intra blocks (8.4.4.2).
use Rattle.std.proofs.Common.{◌≡◌, refl, ℕ, Bool, true, false, not, List, [], ◌∷◌, ◌++◌, map, replicate, Some, None}
use Rattle.std.specs.Prelude.{filter, ◌*◌}
use Rattle.hv_sample_model.specs.IntraPrediction.{substituted, smoothed, is_smoothed, filtered, predicted, by_mode}
use Rattle.hv_sample_model.specs.Blocks.{total_of}
use Rattle.hv_lemmas.specs.Lists.{tabulate}

-- ---- substitution

-- nothing available
nothing : substituted (replicate 17 None) ≡ replicate 17 128
nothing = refl

first_missing : substituted (None ∷ None ∷ Some 7 ∷ None ∷ Some 9 ∷ None ∷ []) ≡ 7 ∷ 7 ∷ 7 ∷ 7 ∷ 9 ∷ 9 ∷ []
first_missing = refl

-- ---- filtering

smooth_line : smoothed (0 ∷ 8 ∷ 0 ∷ 0 ∷ 4 ∷ []) ≡ 0 ∷ 4 ∷ 2 ∷ 1 ∷ 4 ∷ []
smooth_line = refl

-- between the ends the weighted sums are 2, 1, 1, 3 and 12, and 2 more before they are divided by 4
uneven_line : smoothed (0 ∷ 1 ∷ 0 ∷ 0 ∷ 1 ∷ 1 ∷ 9 ∷ []) ≡ 0 ∷ 1 ∷ 0 ∷ 0 ∷ 1 ∷ 3 ∷ 9 ∷ []
uneven_line = refl

-- the modes that filter the neighbours of a luma block, and those that don't
abbrev filtering : ℕ → List ℕ
filtering log2 = filter (λ mode. is_smoothed log2 mode true) (tabulate 35 (λ mode. mode))

abbrev plain : ℕ → List ℕ
plain log2 = filter (λ mode. not (is_smoothed log2 mode true)) (tabulate 35 (λ mode. mode))

none_at_4 : filtering 2 ≡ []
unfolding tabulate
none_at_4 = refl

-- planar and the three diagonals, at distances of 8 and more
filtering_at_8 : filtering 3 ≡ 0 ∷ 2 ∷ 18 ∷ 34 ∷ []
unfolding tabulate
filtering_at_8 = refl

-- DC, and those at distances of 0 and 1
plain_at_16 : plain 4 ≡ 1 ∷ 9 ∷ 10 ∷ 11 ∷ 25 ∷ 26 ∷ 27 ∷ []
unfolding tabulate
plain_at_16 = refl

-- DC, and those at distance 0
plain_at_32 : plain 5 ≡ 1 ∷ 10 ∷ 26 ∷ []
unfolding tabulate
plain_at_32 = refl

none_in_chroma : filter (λ mode. is_smoothed 5 mode false) (tabulate 35 (λ mode. mode)) ≡ []
unfolding tabulate
none_in_chroma = refl

-- the sample in column x of row y, from the substituted neighbours
abbrev sample : ℕ → ℕ → Bool → List ℕ → ℕ → ℕ → ℕ
sample log2 mode is_luma line x y = by_mode log2 mode is_luma (filtered log2 mode is_luma line) x y

-- a neighbour of 64 among others of 0
abbrev spike : ℕ → ℕ → List ℕ
spike before behind = replicate before 0 ++ 64 ∷ replicate behind 0

-- Of a block of 16x16, the one at the left that is 12 below the corner. In mode 8, at distance 2, it is 16, 32 and 16 of
-- three, and the first column lies 5 32nds of a sample further down: (5 * 16 + 16) / 32, (27 * 16 + 5 * 32 + 16) / 32,
-- (27 * 32 + 5 * 16 + 16) / 32 and (27 * 16 + 16) / 32. In mode 9, at distance 1, it is 64, and the column lies 2 32nds
-- further down.
distance_2_at_16 : map (sample 4 8 true (spike 20 44) 0) (9 ∷ 10 ∷ 11 ∷ 12 ∷ []) ≡ 3 ∷ 19 ∷ 30 ∷ 14 ∷ []
distance_2_at_16 = refl

distance_1_at_16 : map (sample 4 9 true (spike 20 44) 0) (9 ∷ 10 ∷ 11 ∷ 12 ∷ []) ≡ 0 ∷ 4 ∷ 60 ∷ 0 ∷ []
distance_1_at_16 = refl

-- above the block in the modes 28 and 27
distance_2_above : map (λ x. sample 4 28 true (spike 44 20) x 0) (9 ∷ 10 ∷ 11 ∷ 12 ∷ []) ≡ 3 ∷ 19 ∷ 30 ∷ 14 ∷ []
distance_2_above = refl

distance_1_above : map (λ x. sample 4 27 true (spike 44 20) x 0) (9 ∷ 10 ∷ 11 ∷ 12 ∷ []) ≡ 0 ∷ 4 ∷ 60 ∷ 0 ∷ []
distance_1_above = refl

-- Of a block of 32x32, the one that is 24 below the corner: 16, 32 and 16 of three in mode 9, 64 in mode 10.
distance_1_at_32 : map (sample 5 9 true (spike 40 88) 0) (21 ∷ 22 ∷ 23 ∷ 24 ∷ []) ≡ 1 ∷ 17 ∷ 31 ∷ 15 ∷ []
distance_1_at_32 = refl

distance_0_at_32 : map (sample 5 10 true (spike 40 88) 0) (21 ∷ 22 ∷ 23 ∷ 24 ∷ []) ≡ 0 ∷ 0 ∷ 64 ∷ 0 ∷ []
distance_0_at_32 = refl

-- Planar of 8x8, where the neighbour at the left of the first row is 64: 32 in luma, with 16 below it. Row 0 has
-- ((7 - x) * 32 + 8) / 16, row 1 ((7 - x) * 16 + 8) / 16.
planar_at_8 :
    map (λ x. sample 3 0 true (spike 15 17) x 0) (0 ∷ 1 ∷ 2 ∷ 7 ∷ []) ≡ 14 ∷ 12 ∷ 10 ∷ 0 ∷ []
planar_at_8 = refl

planar_below :
    map (λ x. sample 3 0 true (spike 15 17) x 1) (0 ∷ 1 ∷ 2 ∷ 7 ∷ []) ≡ 7 ∷ 6 ∷ 5 ∷ 0 ∷ []
planar_below = refl

planar_in_chroma :
    map (λ x. sample 3 0 false (spike 15 17) x 0) (0 ∷ 1 ∷ 2 ∷ 7 ∷ []) ≡ 28 ∷ 24 ∷ 20 ∷ 0 ∷ []
planar_in_chroma = refl

-- ---- DC

-- of a luma block of 8x8, between 60 at the left and 100 above
abbrev line_of_8 : List ℕ
line_of_8 = replicate 16 60 ++ 0 ∷ replicate 16 100

dc_block :
    predicted 3 1 true line_of_8 ≡
    80 ∷ replicate 7 85 ++
    75 ∷ replicate 7 80 ++ 75 ∷ replicate 7 80 ++ 75 ∷ replicate 7 80 ++ 75 ∷ replicate 7 80 ++
    75 ∷ replicate 7 80 ++ 75 ∷ replicate 7 80 ++ 75 ∷ replicate 7 80
unfolding predicted tabulate total_of
dc_block = refl

-- the neighbours of a block of 4x4, of which these stand at the left of the first two rows
abbrev line_of_4 : ℕ → ℕ → List ℕ
line_of_4 first second =
    0 ∷ 0 ∷ 0 ∷ 0 ∷ 5 ∷ 2 ∷ second ∷ first ∷ 9 ∷ 4 ∷ 6 ∷ 1 ∷ 6 ∷ 0 ∷ 0 ∷ 0 ∷ 0 ∷ []

-- Their sum is 28, and (28 + 4) / 8 is 4. In the corner (3 + 2 * 4 + 4 + 2) / 4. In the first row behind it, of which a
-- quarter is taken, stand 6 + 12, 1 + 12 and 6 + 12, and 2 more; in the first column 1 + 12, 2 + 12 and 5 + 12.
dc_uneven :
    predicted 2 1 true (line_of_4 3 1) ≡
    4 ∷ 5 ∷ 3 ∷ 5 ∷ 3 ∷ 4 ∷ 4 ∷ 4 ∷ 4 ∷ 4 ∷ 4 ∷ 4 ∷ 4 ∷ 4 ∷ 4 ∷ 4 ∷ []
unfolding predicted tabulate total_of
dc_uneven = refl

-- (2 + 2 * 4 + 4 + 2) / 4
dc_corner_of_2 : by_mode 2 1 true (line_of_4 2 2) 0 0 ≡ 4
unfolding total_of
dc_corner_of_2 = refl

-- (1 + 2 * 4 + 4 + 2) / 4
dc_corner_of_1 : by_mode 2 1 true (line_of_4 1 3) 0 0 ≡ 3
unfolding total_of
dc_corner_of_1 = refl

-- (27 + 4) / 8
dc_rounded_down : by_mode 2 1 true (line_of_4 2 1) 3 3 ≡ 3
unfolding total_of
dc_rounded_down = refl

-- ---- edges

-- neighbours of a luma block of this side: 40 at the left, 45 in the corner, 100 above
abbrev even_sides : ℕ → List ℕ
even_sides side = replicate (2 * side) 40 ++ 45 ∷ replicate (2 * side) 100

-- the corners of the first row and column, and the sample behind the first on either
abbrev begins : ℕ → ℕ → Bool → ℕ → List ℕ
begins log2 mode is_luma side =
    let f = by_mode log2 mode is_luma (even_sides side) in f 0 0 ∷ f 1 0 ∷ f 0 1 ∷ f 1 1 ∷ []

-- The mean is 70: (40 + 140 + 100 + 2) / 4, (100 + 210 + 2) / 4, (40 + 210 + 2) / 4. At 32 no edge is smoothed.
dc_edges_at_16 : begins 4 1 true 16 ≡ 70 ∷ 78 ∷ 63 ∷ 70 ∷ []
unfolding total_of
dc_edges_at_16 = refl

dc_edges_at_32 : begins 5 1 true 32 ≡ 70 ∷ 70 ∷ 70 ∷ 70 ∷ []
unfolding total_of
dc_edges_at_32 = refl

-- The first column of the vertical mode falls by half of 5, rounded up; the first row of the horizontal one rises by half
-- of 55, rounded down. At 32 neither does.
vertical_at_16 : begins 4 26 true 16 ≡ 97 ∷ 100 ∷ 97 ∷ 100 ∷ []
vertical_at_16 = refl

horizontal_at_16 : begins 4 10 true 16 ≡ 67 ∷ 67 ∷ 40 ∷ 40 ∷ []
horizontal_at_16 = refl

vertical_at_32 : begins 5 26 true 32 ≡ 100 ∷ 100 ∷ 100 ∷ 100 ∷ []
vertical_at_32 = refl

horizontal_at_32 : begins 5 10 true 32 ≡ 40 ∷ 40 ∷ 40 ∷ 40 ∷ []
horizontal_at_32 = refl

vertical_in_chroma : begins 4 26 false 16 ≡ 100 ∷ 100 ∷ 100 ∷ 100 ∷ []
vertical_in_chroma = refl
