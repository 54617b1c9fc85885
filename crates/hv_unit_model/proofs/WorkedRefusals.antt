-- Bins that the syntax of this profile refuses, and such as it takes.
use Rattle.std.proofs.Common.{◌≡◌, Bool, true, false, List, [], ◌∷◌, ◌++◌, refl, replicate, ℤ, pos, negsuc}
use Rattle.std.specs.Prelude.{Option, Some, None}
use Rattle.hv_tables.specs.declared.bins.SliceKind.TheVariants.{P}
use Rattle.hv_plan.specs.declared.prediction.Mv.{Mv}
use Rattle.hv_stream_model.specs.Scripts.{run}
use Rattle.hv_residual_model.specs.UnitBins.{UnitQuestion, UnitScript}
use Rattle.hv_residual_model.specs.Binarization.{truncated_unary, exp_golomb}
use Rattle.hv_tree_model.specs.Trees.{Prediction, Intra, Inter, Tree, Leaf, no_levels, no_units}
use Rattle.hv_tree_model.specs.Sites.{site, address_of, column_of, row_of, is_outside, crosses}
use Rattle.hv_tree_model.specs.EarlierUnits.{Surroundings, look_picture, in_picture}
use Rattle.hv_tree_model.specs.MostProbableModes.{candModeList, mode_of_remaining}
use Rattle.hv_unit_model.specs.BlockSyntax.{sao, luma_mode, mvd_coding, prediction_unit, block_levels, transform_unit, quarters, transform_tree, rooted_tree, intra_unit, inter_unit, coding_unit, coding_quadtree}

-- values of bins, whatever is asked
next : List Bool → UnitQuestion → Option (Bool × List Bool)
next [] question = None
next (value ∷ values) question = Some (value, values)

-- what a script reads of them
read : {A : Type 0} → UnitScript A → List Bool → Option (A × List Bool)
read script values = run UnitQuestion Bool (List Bool) next script values

-- ---- vector differences

vector : ℤ → ℤ → Mv
vector x y = record { x = x; y = y }

-- magnitude 32,768 in y: abs_mvd_minus2 is 32,766
greatest_magnitude : Bool → List Bool
greatest_magnitude sign =
    false ∷ true ∷ true ∷ (replicate 14 true ++ (false ∷ (replicate 15 false ++ (sign ∷ []))))

least_difference :
    read mvd_coding (greatest_magnitude true) ≡ Some (vector (pos 0) (negsuc 32767), [])
unfolding read next vector greatest_magnitude mvd_coding exp_golomb
least_difference = refl

above_16_bits : read mvd_coding (greatest_magnitude false) ≡ None
unfolding read next greatest_magnitude mvd_coding exp_golomb
above_16_bits = refl

-- magnitude 32,769
below_16_bits :
    read mvd_coding
    (true ∷ false ∷ true ∷
    (replicate 14 true ++ (false ∷ (replicate 14 false ++ (true ∷ true ∷ []))))) ≡ None
unfolding read next mvd_coding exp_golomb
below_16_bits = refl

-- ---- flags over nothing, in an inter unit of 64x64

still : Prediction
still = Inter (record { ref_idx_l0 = 0; mvp_l0_flag = 0; MvdL0 = vector (pos 0) (pos 0) })

no_flag_in_intra : read (transform_tree (Intra 1) 3) (replicate 6 false) ≡ Some (no_units 3, [])
unfolding read next transform_tree quarters transform_unit block_levels no_units no_levels
no_flag_in_intra = refl

cb_over_nothing : read (transform_tree still 3) (true ∷ replicate 9 false) ≡ None
unfolding read next vector still transform_tree quarters transform_unit block_levels no_units no_levels
cb_over_nothing = refl

cr_over_nothing : read (transform_tree still 3) (false ∷ true ∷ replicate 8 false) ≡ None
unfolding read next vector still transform_tree quarters transform_unit block_levels no_units no_levels
cr_over_nothing = refl

no_root : read (rooted_tree still 3 false) [] ≡ Some (no_units 3, [])
unfolding read next vector still no_units
no_root = refl

root_over_nothing : read (rooted_tree still 3 true) (replicate 6 false) ≡ None
unfolding read next vector still transform_tree quarters transform_unit block_levels no_units no_levels
root_over_nothing = refl

-- ---- bins that this profile fixes, in units of 8x8

small_block : Surroundings
small_block = in_picture P 1 (site 8 8 0) []

read_unit : List Bool → Option (Tree × List Bool)
read_unit values = read (coding_quadtree small_block 0 0 []) values

-- cu_skip_flag 0, pred_mode_flag 1, part_mode 1, prev_intra_luma_pred_flag 1, mpm_idx 1,
-- intra_chroma_pred_mode 0, and no levels
intra_unit_is_read :
    read_unit
    (false ∷ true ∷ true ∷ true ∷ true ∷ false ∷ false ∷ false ∷ false ∷ false ∷ []) ≡
    Some (Leaf (Intra 1) (no_units 0), [])
unfolding read_unit small_block read next coding_quadtree coding_unit intra_unit luma_mode candModeList mode_of_remaining truncated_unary transform_tree transform_unit block_levels no_units no_levels look_picture column_of row_of address_of crosses is_outside
intra_unit_is_read = refl

-- cu_skip_flag 0, pred_mode_flag 0, part_mode 1, merge_flag 0, no difference, mvp_l0_flag 0,
-- rqt_root_cbf 0
inter_unit_is_read :
    read_unit (false ∷ false ∷ true ∷ false ∷ false ∷ false ∷ false ∷ false ∷ []) ≡
    Some (Leaf still (no_units 0), [])
unfolding read_unit small_block still vector read next coding_quadtree coding_unit inter_unit prediction_unit mvd_coding exp_golomb no_units no_levels look_picture column_of row_of address_of crosses is_outside
inter_unit_is_read = refl

skipped : read_unit (true ∷ replicate 9 false) ≡ None
unfolding read_unit small_block read next coding_quadtree coding_unit look_picture column_of row_of address_of crosses is_outside
skipped = refl

divided_intra : read_unit (false ∷ true ∷ false ∷ true ∷ replicate 9 false) ≡ None
unfolding read_unit small_block read next coding_quadtree coding_unit intra_unit look_picture column_of row_of address_of crosses is_outside
divided_intra = refl

divided_inter : read_unit (false ∷ false ∷ false ∷ replicate 9 false) ≡ None
unfolding read_unit small_block read next coding_quadtree coding_unit inter_unit look_picture column_of row_of address_of crosses is_outside
divided_inter = refl

merged : read_unit (false ∷ false ∷ true ∷ true ∷ replicate 9 false) ≡ None
unfolding read_unit small_block read next coding_quadtree coding_unit inter_unit prediction_unit look_picture column_of row_of address_of crosses is_outside
merged = refl

other_chroma_mode :
    read_unit (false ∷ true ∷ true ∷ true ∷ true ∷ false ∷ true ∷ replicate 9 false) ≡ None
unfolding read_unit small_block read next coding_quadtree coding_unit intra_unit luma_mode candModeList mode_of_remaining truncated_unary look_picture column_of row_of address_of crosses is_outside
other_chroma_mode = refl

merged_offsets : read (sao (site 128 64 1)) (true ∷ replicate 9 false) ≡ None
unfolding read next sao truncated_unary
merged_offsets = refl
