-- Worked values of the bins of coding quadtrees (7.3.8.4 to 7.3.8.10).
use Rattle.std.proofs.Common.{◌≡◌, ℕ, Bool, true, false, List, [], ◌∷◌, ◌++◌, refl, replicate, ℤ, pos, negsuc, map}
use Rattle.hv_tables.specs.declared.bins.CtxTable.TheVariants.{Split, Skip, PartMode, PredMode, PrevIntra, ChromaMode, Merge, RefIdx, MvdGreater0, MvdGreater1, MvpFlag, RootCbf, CbfLuma, CbfChroma}
use Rattle.hv_tables.specs.declared.bins.SliceKind.{SliceKind}
use Rattle.hv_tables.specs.declared.bins.SliceKind.TheVariants.{P}
use Rattle.hv_plan.specs.declared.prediction.Mv.{Mv}
use Rattle.hv_plan.specs.declared.prediction.Scan.TheVariants.{Diagonal, Vertical}
use Rattle.hv_residual_model.specs.UnitBins.{UnitBin, InBypass, unit_bin}
use Rattle.hv_residual_model.specs.Binarization.{truncated_unary_bins, exp_golomb_bins}
use Rattle.hv_residual_model.specs.ResidualContexts.{TransformBlock}
use Rattle.hv_residual_model.specs.ResidualBins.{residual_bins}
use Rattle.hv_tree_model.specs.Trees.{Motion, Prediction, Intra, Inter, TransformUnit, Tree, Leaf, no_levels, no_unit, no_units}
use Rattle.hv_tree_model.specs.Sites.{site, address_of, column_of, row_of, is_outside, crosses}
use Rattle.hv_tree_model.specs.EarlierUnits.{Surroundings, look_picture, in_picture}
use Rattle.hv_tree_model.specs.MostProbableModes.{candModeList}
use Rattle.hv_unit_model.specs.Bins.{bin, luma_mode_bins, mvd_bins, prediction_unit_bins, transform_unit_bins, quarters_bins, transform_tree_bins, predicted_bins, bins_of_node}

bypass_of : List Bool → List UnitBin
bypass_of values = map (unit_bin InBypass) values

-- the first block of a picture
first_block : SliceKind → ℕ → ℕ → ℕ → Surroundings
first_block slice_type references width height =
    in_picture slice_type references (site width height 0) []

vector : ℤ → ℤ → Mv
vector x y = record { x = x; y = y }

motion : ℕ → ℕ → Mv → Motion
motion reference flag difference =
    record { ref_idx_l0 = reference; mvp_l0_flag = flag; MvdL0 = difference }

block : ℕ → Bool → TransformBlock
block log2 is_luma =
    record { scanIdx = Diagonal; log2TrafoSize = log2; is_luma = is_luma }

-- levels of which the first is 1
one_level : ℕ → List ℤ
one_level rest = pos 1 ∷ replicate rest (pos 0)

-- ---- an intra unit of 8x8, of mode DC, without neighbours and levels, in a P slice

flat_dc : Tree
flat_dc = Leaf (Intra 1) (no_units 0)

small_intra_unit :
    bins_of_node (first_block P 1 8 8) 0 0 [] flat_dc ≡
    bin Skip 0 false ∷ bin PredMode 0 true ∷ bin PartMode 0 true ∷ bin PrevIntra 0 true ∷
    (bypass_of (true ∷ false ∷ []) ++
    (bin ChromaMode 0 false ∷ bin CbfChroma 0 false ∷ bin CbfChroma 0 false ∷
    bin CbfLuma 1 false ∷ []))
unfolding first_block flat_dc bypass_of bins_of_node predicted_bins luma_mode_bins candModeList transform_tree_bins transform_unit_bins truncated_unary_bins no_units no_levels look_picture column_of row_of address_of crosses is_outside
small_intra_unit = refl

-- ---- an inter unit of 64x64 with one reference, the difference (1, -3), and no levels

large_inter_unit :
    bins_of_node (first_block P 1 64 64) 3 0 []
    (Leaf (Inter (motion 0 0 (vector (pos 1) (negsuc 2)))) (no_units 3)) ≡
    bin Split 0 false ∷ bin Skip 0 false ∷ bin PredMode 0 false ∷ bin PartMode 0 true ∷
    bin Merge 0 false ∷ bin MvdGreater0 0 true ∷ bin MvdGreater0 0 true ∷
    bin MvdGreater1 0 false ∷ bin MvdGreater1 0 true ∷
    (bypass_of (false ∷ false ∷ true ∷ true ∷ []) ++
    (bin MvpFlag 0 false ∷ bin RootCbf 0 false ∷ []))
unfolding first_block bypass_of motion vector bins_of_node predicted_bins prediction_unit_bins mvd_bins exp_golomb_bins no_units no_levels look_picture column_of row_of address_of crosses is_outside
large_inter_unit = refl

-- ---- differences of vectors

difference_of : ℤ → ℤ → List UnitBin
difference_of x y = mvd_bins (vector x y)

no_difference : difference_of (pos 0) (pos 0) ≡
    bin MvdGreater0 0 false ∷ bin MvdGreater0 0 false ∷ []
unfolding difference_of vector mvd_bins exp_golomb_bins
no_difference = refl

difference_of_1 :
    difference_of (pos 1) (negsuc 0) ≡
    bin MvdGreater0 0 true ∷ bin MvdGreater0 0 true ∷
    bin MvdGreater1 0 false ∷ bin MvdGreater1 0 false ∷ bypass_of (false ∷ true ∷ [])
unfolding difference_of vector mvd_bins exp_golomb_bins bypass_of
difference_of_1 = refl

difference_of_2 :
    difference_of (pos 2) (negsuc 1) ≡
    bin MvdGreater0 0 true ∷ bin MvdGreater0 0 true ∷
    bin MvdGreater1 0 true ∷ bin MvdGreater1 0 true ∷
    bypass_of (false ∷ false ∷ false ∷ false ∷ false ∷ true ∷ [])
unfolding difference_of vector mvd_bins exp_golomb_bins bypass_of
difference_of_2 = refl

only_x : difference_of (negsuc 0) (pos 0) ≡
    bin MvdGreater0 0 true ∷ bin MvdGreater0 0 false ∷
    bin MvdGreater1 0 false ∷ bypass_of (true ∷ [])
unfolding difference_of vector mvd_bins exp_golomb_bins bypass_of
only_x = refl

only_y : difference_of (pos 0) (pos 2) ≡
    bin MvdGreater0 0 false ∷ bin MvdGreater0 0 true ∷
    bin MvdGreater1 0 true ∷ bypass_of (false ∷ false ∷ false ∷ [])
unfolding difference_of vector mvd_bins exp_golomb_bins bypass_of
only_y = refl

-- 32,765 is 16,382 = 2 + 4 + .. + 8,192 and 16,383; 32,766 is 2 + 4 + .. + 16,384 and 0
extreme_differences :
    difference_of (pos 32767) (negsuc 32767) ≡
    bin MvdGreater0 0 true ∷ bin MvdGreater0 0 true ∷
    bin MvdGreater1 0 true ∷ bin MvdGreater1 0 true ∷
    (bypass_of (replicate 13 true) ++ (bypass_of (false ∷ []) ++
    (bypass_of (replicate 14 true) ++ (bypass_of (false ∷ []) ++
    (bypass_of (replicate 14 true) ++ (bypass_of (false ∷ []) ++
    (bypass_of (replicate 15 false) ++ bypass_of (true ∷ []))))))))
unfolding difference_of vector mvd_bins exp_golomb_bins bypass_of
extreme_differences = refl

difference_of_2_to_the_left :
    difference_of (negsuc 1) (pos 1) ≡
    bin MvdGreater0 0 true ∷ bin MvdGreater0 0 true ∷
    bin MvdGreater1 0 true ∷ bin MvdGreater1 0 false ∷
    bypass_of (false ∷ false ∷ true ∷ false ∷ [])
unfolding difference_of vector mvd_bins exp_golomb_bins bypass_of
difference_of_2_to_the_left = refl

extreme_differences_back :
    difference_of (negsuc 32767) (pos 32767) ≡
    bin MvdGreater0 0 true ∷ bin MvdGreater0 0 true ∷
    bin MvdGreater1 0 true ∷ bin MvdGreater1 0 true ∷
    (bypass_of (replicate 14 true) ++ (bypass_of (false ∷ []) ++
    (bypass_of (replicate 15 false) ++ (bypass_of (true ∷ []) ++
    (bypass_of (replicate 13 true) ++ (bypass_of (false ∷ []) ++
    (bypass_of (replicate 14 true) ++ bypass_of (false ∷ []))))))))
unfolding difference_of vector mvd_bins exp_golomb_bins bypass_of
extreme_differences_back = refl

-- ---- the second of two references, and the second candidate

second_reference :
    prediction_unit_bins 2 (motion 1 1 (vector (pos 0) (pos 0))) ≡
    bin Merge 0 false ∷ bin RefIdx 0 true ∷ bin MvdGreater0 0 false ∷ bin MvdGreater0 0 false ∷
    bin MvpFlag 0 true ∷ []
unfolding motion vector prediction_unit_bins mvd_bins exp_golomb_bins
second_reference = refl

first_reference :
    prediction_unit_bins 2 (motion 0 0 (vector (pos 0) (pos 0))) ≡
    bin Merge 0 false ∷ bin RefIdx 0 false ∷ bin MvdGreater0 0 false ∷ bin MvdGreater0 0 false ∷
    bin MvpFlag 0 false ∷ []
unfolding motion vector prediction_unit_bins mvd_bins exp_golomb_bins
first_reference = refl

-- ---- transform trees

still : Prediction
still = Inter (motion 0 0 (vector (pos 0) (pos 0)))

-- 64x64: a level of Cb in the third quarter alone
cb_in_one_quarter : List TransformUnit
cb_in_one_quarter =
    no_unit 5 ∷ no_unit 5 ∷
    record { luma = no_levels 5; cb = one_level 255; cr = no_levels 4 } ∷ no_unit 5 ∷ []

bins_of_cb_in_one_quarter :
    transform_tree_bins still 3 cb_in_one_quarter ≡
    bin CbfChroma 0 true ∷ bin CbfChroma 0 false ∷
    bin CbfChroma 1 false ∷ bin CbfLuma 0 false ∷
    bin CbfChroma 1 false ∷ bin CbfLuma 0 false ∷
    bin CbfChroma 1 true ∷ bin CbfLuma 0 false ∷
    ((residual_bins (block 4 false) (one_level 255) ++ []) ++
    (bin CbfChroma 1 false ∷ bin CbfLuma 0 false ∷ []))
unfolding still motion vector block one_level cb_in_one_quarter transform_tree_bins quarters_bins transform_unit_bins no_levels
bins_of_cb_in_one_quarter = refl

-- 64x64: a level of Cr in the last quarter alone
cr_in_one_quarter : List TransformUnit
cr_in_one_quarter =
    no_unit 5 ∷ no_unit 5 ∷ no_unit 5 ∷
    record { luma = no_levels 5; cb = no_levels 4; cr = one_level 255 } ∷ []

bins_of_cr_in_one_quarter :
    transform_tree_bins still 3 cr_in_one_quarter ≡
    bin CbfChroma 0 false ∷ bin CbfChroma 0 true ∷
    bin CbfChroma 1 false ∷ bin CbfLuma 0 false ∷
    bin CbfChroma 1 false ∷ bin CbfLuma 0 false ∷
    bin CbfChroma 1 false ∷ bin CbfLuma 0 false ∷
    bin CbfChroma 1 true ∷ bin CbfLuma 0 false ∷
    (residual_bins (block 4 false) (one_level 255) ++ [])
unfolding still motion vector block one_level cr_in_one_quarter transform_tree_bins quarters_bins transform_unit_bins no_levels
bins_of_cr_in_one_quarter = refl

-- 64x64: a level of luma in the second quarter alone
luma_in_one_quarter : List TransformUnit
luma_in_one_quarter =
    no_unit 5 ∷ record { luma = one_level 1023; cb = no_levels 4; cr = no_levels 4 } ∷
    no_unit 5 ∷ no_unit 5 ∷ []

bins_of_luma_in_one_quarter :
    transform_tree_bins still 3 luma_in_one_quarter ≡
    bin CbfChroma 0 false ∷ bin CbfChroma 0 false ∷
    bin CbfLuma 0 false ∷ bin CbfLuma 0 true ∷
    ((residual_bins (block 5 true) (one_level 1023) ++ []) ++
    (bin CbfLuma 0 false ∷ bin CbfLuma 0 false ∷ []))
unfolding still motion vector block one_level luma_in_one_quarter transform_tree_bins quarters_bins transform_unit_bins no_levels
bins_of_luma_in_one_quarter = refl

-- 16x16 inter, luma alone: cbf_luma is inferred
bins_of_luma_alone :
    transform_tree_bins still 1
    (record { luma = one_level 255; cb = no_levels 3; cr = no_levels 3 } ∷ []) ≡
    bin CbfChroma 0 false ∷ bin CbfChroma 0 false ∷
    (residual_bins (block 4 true) (one_level 255) ++ [])
unfolding still motion vector block one_level transform_tree_bins transform_unit_bins no_levels
bins_of_luma_alone = refl

-- 32x32 inter, Cr alone: cbf_luma is coded
bins_of_cr_alone :
    transform_tree_bins still 2
    (record { luma = no_levels 5; cb = no_levels 4; cr = one_level 255 } ∷ []) ≡
    bin CbfChroma 0 false ∷ bin CbfChroma 0 true ∷ bin CbfLuma 1 false ∷
    residual_bins (block 4 false) (one_level 255)
unfolding still motion vector block one_level transform_tree_bins transform_unit_bins no_levels
bins_of_cr_alone = refl

-- 8x8 intra of mode 10, all three: the scan of luma and of 4x4 chroma is vertical
upright : ℕ → Bool → TransformBlock
upright log2 is_luma =
    record { scanIdx = Vertical; log2TrafoSize = log2; is_luma = is_luma }

bins_of_all_three :
    transform_tree_bins (Intra 10) 0
    (record { luma = one_level 63; cb = one_level 15; cr = one_level 15 } ∷ []) ≡
    bin CbfChroma 0 true ∷ bin CbfChroma 0 true ∷ bin CbfLuma 1 true ∷
    (residual_bins (upright 3 true) (one_level 63) ++
    (residual_bins (upright 2 false) (one_level 15) ++
    residual_bins (upright 2 false) (one_level 15)))
unfolding upright one_level transform_tree_bins transform_unit_bins no_levels
bins_of_all_three = refl
