-- Worked planes behind the deblocking filter (8.7.2), and squares from plans.
use Rattle.std.proofs.Common.{◌≡◌, ℕ, ◌+◌, refl, Bool, true, false, cond, ◌&&◌, nat_lt, List, [], ◌∷◌, ◌++◌, replicate, pos}
use Rattle.std.specs.Prelude.{nat_eq}
use Rattle.hv_lemmas.specs.Lists.{tabulate}
use Rattle.hv_types.specs.declared.picture.Picture.{Picture}
use Rattle.hv_types.specs.Samples.{plane_of, sample_at}
use Rattle.hv_plan.specs.declared.prediction.Pred.TheVariants.{Intra}
use Rattle.hv_tree_model.specs.Sites.{address_of}
use Rattle.hv_tree_model.specs.Plans.{Plan}
use Rattle.hv_deblock_model.specs.EdgeStrength.{Squares}
use Rattle.hv_deblock_model.specs.Deblocking.{Samples, pass, luma_filter, chroma_filter, both_passes, deblocked_picture}
use Rattle.hv_deblock_model.specs.CodedSquares.{squares_of_plans}
use Rattle.hv_deblock_model.proofs.WorkedStrengths.{coded, moved}

-- intra units of 8x8
abbrev all_intra : Squares
all_intra column row = coded 3 (Intra 1) false

-- ---- one pass

-- 100 and then 110, in rows of 24: an edge at column 8, and none at columns 0 and 24
abbrev steps : Samples
steps x y = cond (nat_lt x 8) 100 110

one_edge : tabulate 24 (λ x. pass 24 (luma_filter 32 all_intra) steps x 3) ≡
    100 ∷ 100 ∷ 100 ∷ 100 ∷ 100 ∷ 100 ∷ 101 ∷ 103 ∷
    107 ∷ 109 ∷ 110 ∷ 110 ∷ 110 ∷ 110 ∷ 110 ∷ 110 ∷
    110 ∷ 110 ∷ 110 ∷ 110 ∷ 110 ∷ 110 ∷ 110 ∷ 110 ∷ []
unfolding tabulate
one_edge = refl

-- at the border of 8 columns there is no edge
no_edge : tabulate 8 (λ x. pass 8 (luma_filter 32 all_intra) (λ x y. cond (nat_lt x 4) 100 110) x 0) ≡
    100 ∷ 100 ∷ 100 ∷ 100 ∷ 110 ∷ 110 ∷ 110 ∷ 110 ∷ []
unfolding tabulate
no_edge = refl

-- Four rows are decided on by the first and the last of them: one row has a spike at its p1.
abbrev uneven : ℕ → Samples
uneven row x y = cond (nat_eq y row && nat_eq x 6) 160 (steps x y)

abbrev row_of_uneven : ℕ → ℕ → List ℕ
row_of_uneven row y = tabulate 8 (λ i. pass 16 (luma_filter 32 all_intra) (uneven row) (i + 4) y)

decided_by_others : row_of_uneven 1 0 ∷ row_of_uneven 3 0 ∷ row_of_uneven 3 4 ∷ [] ≡
    (100 ∷ 100 ∷ 101 ∷ 103 ∷ 107 ∷ 109 ∷ 110 ∷ 110 ∷ []) ∷
    (100 ∷ 100 ∷ 100 ∷ 100 ∷ 110 ∷ 110 ∷ 110 ∷ 110 ∷ []) ∷
    (100 ∷ 100 ∷ 101 ∷ 103 ∷ 107 ∷ 109 ∷ 110 ∷ 110 ∷ []) ∷ []
unfolding tabulate
decided_by_others = refl

-- chroma: a step at column 4, which is no edge, and at column 8
abbrev chroma_steps : Samples
chroma_steps x y = cond (nat_lt x 4) 100 (cond (nat_lt x 8) 104 110)

edge_of_chroma : tabulate 16 (λ x. pass 16 (chroma_filter 32 all_intra) chroma_steps x 5) ≡
    100 ∷ 100 ∷ 100 ∷ 100 ∷ 104 ∷ 104 ∷ 104 ∷ 106 ∷
    108 ∷ 110 ∷ 110 ∷ 110 ∷ 110 ∷ 110 ∷ 110 ∷ 110 ∷ []
unfolding tabulate
edge_of_chroma = refl

-- strengths of chroma are those of columns 1 and 2 of squares, and of 4 rows a square
abbrev intra_below : Squares
intra_below column row = coded 3 (cond (nat_lt 0 row) (Intra 1) (moved 0 (pos 0) (pos 0))) false

rows_of_chroma : tabulate 8 (λ y. pass 16 (chroma_filter 32 intra_below) chroma_steps 7 y) ≡
    104 ∷ 104 ∷ 104 ∷ 104 ∷ 106 ∷ 106 ∷ 106 ∷ 106 ∷ []
unfolding tabulate
rows_of_chroma = refl

-- ---- both passes

-- four squares: 100 and 112, and 101 and 108 below them
abbrev quarters : Samples
quarters x y = cond (nat_lt y 8) (cond (nat_lt x 8) 100 112) (cond (nat_lt x 8) 101 108)

abbrev deblocked : ℕ → ℕ → ℕ
deblocked = both_passes 16 16 (luma_filter 32) all_intra quarters

-- with the horizontal edge first these would be 109, 111, 112 and 112, and 106, 108, 109 and 109
vertical_edges_first : tabulate 4 (λ i. deblocked (i + 8) 5) ∷ tabulate 4 (λ i. deblocked (i + 8) 9) ∷ [] ≡
    (109 ∷ 110 ∷ 111 ∷ 112 ∷ []) ∷ (106 ∷ 107 ∷ 108 ∷ 109 ∷ []) ∷ []
unfolding tabulate
vertical_edges_first = refl

-- an intra square at the lower right alone: the edges at its left and above it are filtered, and not
-- those of its neighbours
abbrev one_intra : Squares
one_intra column row =
    coded 3 (cond (nat_lt 0 column && nat_lt 0 row) (Intra 1) (moved 0 (pos 0) (pos 0))) false

abbrev around_one : ℕ → ℕ → ℕ
around_one = both_passes 16 16 (luma_filter 32) one_intra quarters

strengths_by_place : (around_one 7 3 ∷ around_one 8 3 ∷ around_one 3 7 ∷ around_one 3 8 ∷ []) ∷ (around_one 7 12 ∷ around_one 8 12 ∷ around_one 12 7 ∷ around_one 12 8 ∷ []) ∷ [] ≡
    (100 ∷ 112 ∷ 100 ∷ 101 ∷ []) ∷ (104 ∷ 105 ∷ 111 ∷ 110 ∷ []) ∷ []
strengths_by_place = refl

-- 16 columns of 8 rows have a vertical edge alone
one_row_of_squares : tabulate 16 (λ x. both_passes 16 8 (luma_filter 32) all_intra (λ x y. cond (nat_lt x 8) 100 112) x 7) ≡
    100 ∷ 100 ∷ 100 ∷ 100 ∷ 100 ∷ 100 ∷ 101 ∷ 103 ∷
    109 ∷ 111 ∷ 112 ∷ 112 ∷ 112 ∷ 112 ∷ 112 ∷ 112 ∷ []
unfolding tabulate
one_row_of_squares = refl

-- luma of 32 columns has its step at column 8, and Cb and Cr theirs at column 8 of 16
abbrev picture : Picture
picture = record {
  luma = plane_of 32 8 steps;
  cb = plane_of 16 4 chroma_steps;
  cr = plane_of 16 4 steps;
}

each_component_its_own :
    (let shown = deblocked_picture 32 all_intra picture in
    sample_at shown.luma 6 7 ∷ sample_at shown.luma 7 7 ∷
    sample_at shown.cb 6 3 ∷ sample_at shown.cb 7 3 ∷
    sample_at shown.cr 6 3 ∷ sample_at shown.cr 7 3 ∷ []) ≡
    101 ∷ 103 ∷ 104 ∷ 106 ∷ 100 ∷ 103 ∷ []
unfolding tabulate
each_component_its_own = refl

-- ---- squares from plans

-- one level of luma, in the square at address 5: its column is 3 and its row 0
abbrev with_level : ℕ → Plan
with_level depth = record {
  units = replicate 64 (record { depth = depth; pred = Intra 1 });
  luma = replicate 323 (pos 0) ++ pos 1 ∷ replicate 3772 (pos 0);
  cb = replicate 1024 (pos 0);
  cr = replicate 1024 (pos 0);
}

abbrev levels_in_row : ℕ → ℕ → List Bool
levels_in_row depth row =
    tabulate 5 (λ column. (squares_of_plans 128 (with_level depth ∷ []) column row).has_levels)

-- a transform block of 8x8, of 16x16, and of 32x32 also in a unit of 64x64
by_transform_blocks : levels_in_row 3 0 ∷ levels_in_row 2 0 ∷ levels_in_row 2 1 ∷ levels_in_row 1 3 ∷ levels_in_row 0 3 ∷ levels_in_row 3 1 ∷ levels_in_row 0 4 ∷ [] ≡
    (false ∷ false ∷ false ∷ true ∷ false ∷ []) ∷
    (false ∷ false ∷ true ∷ true ∷ false ∷ []) ∷
    (false ∷ false ∷ true ∷ true ∷ false ∷ []) ∷
    (true ∷ true ∷ true ∷ true ∷ false ∷ []) ∷
    (true ∷ true ∷ true ∷ true ∷ false ∷ []) ∷
    (false ∷ false ∷ false ∷ false ∷ false ∷ []) ∷
    (false ∷ false ∷ false ∷ false ∷ false ∷ []) ∷ []
unfolding tabulate address_of
by_transform_blocks = refl

-- two blocks in a row, and two below
abbrev four : List Plan
four = with_level 0 ∷ with_level 1 ∷ with_level 2 ∷ with_level 3 ∷ []

depth_at : ℕ → ℕ → ℕ
depth_at column row = (squares_of_plans 72 four column row).unit.depth

by_blocks : depth_at 7 7 ∷ depth_at 8 7 ∷ depth_at 7 8 ∷ depth_at 8 8 ∷ [] ≡ 0 ∷ 1 ∷ 2 ∷ 3 ∷ []
unfolding depth_at address_of
by_blocks = refl
