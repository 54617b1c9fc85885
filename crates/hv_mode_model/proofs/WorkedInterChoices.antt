-- Worked choices in P pictures, by a program of its own, in another language, which chooses from the
-- same rules, and whose streams are those of another encoder.
use Rattle.std.proofs.Common.{◌≡◌, ℕ, ◌+◌, ◌-◌, ◌*◌, List, [], ◌∷◌, refl, ℤ, pos, negsuc}
use Rattle.std.specs.Prelude.{cond, nat_lt, nat_eq, min, ◌%◌, Some, None}
use Rattle.std.specs.Int.{int_wrap}
use Rattle.hv_lemmas.specs.Lists.{tabulate}
use Rattle.hv_plan.specs.declared.prediction.Mv.{Mv}
use Rattle.hv_tables.specs.declared.bins.SliceKind.{SliceKind}
use Rattle.hv_tables.specs.declared.bins.SliceKind.TheVariants.{I, P}
use Rattle.hv_types.specs.declared.picture.Picture.{Picture}
use Rattle.hv_sample_model.specs.Blocks.{total_of, sum_of}
use Rattle.hv_sample_model.specs.IntraPrediction.{predicted}
use Rattle.hv_sample_model.specs.InverseTransform.{residual}
use Rattle.hv_sample_model.specs.Quantisation.{levels}
use Rattle.hv_inter_model.specs.Interpolation.{inter_predicted}
use Rattle.hv_residual_model.specs.Binarization.{truncated_unary_bins, exp_golomb_bins, remaining_bins}
use Rattle.hv_residual_model.specs.ScanOrder.{scan_order, block_position}
use Rattle.hv_residual_model.specs.ResidualSyntax.{positions}
use Rattle.hv_residual_model.specs.ResidualBins.{level_at, downwards, levels_below, last_significant, prefix_of, last_bins, sig_coeff_bins, greater1_bins, level_bins, sub_blocks_bins, bins_from, residual_bins}
use Rattle.hv_tree_model.specs.Trees.{Inter, Tree, Leaf, Split, Outside}
use Rattle.hv_tree_model.specs.Sites.{site, sites, is_outside, column_of, row_of, crosses, address_of}
use Rattle.hv_tree_model.specs.EarlierUnits.{Coded, look_picture}
use Rattle.hv_tree_model.specs.MostProbableModes.{candModeList, remaining_of}
use Rattle.hv_unit_model.specs.Bins.{luma_mode_bins, mvd_bins, bins_of_node, predicted_bins, prediction_unit_bins, transform_tree_bins, transform_unit_bins}
use Rattle.hv_recon_model.specs.Reconstruction.{nothing_decoded, decoded_block, decoded_tree}
use Rattle.hv_vector_model.specs.VectorPrediction.{Distances, distance, scaled}
use Rattle.hv_mode_model.specs.Differences.{tree_with_differences, trees_with_differences}
use Rattle.hv_mode_model.specs.ModeDecision.{FoundVectors, Task, given_at, best_trees, coded_trees, best, chosen, leaf, luma_mode, predictor, chosen_levels, score, cost_of, squared_errors}
use Rattle.hv_mode_model.proofs.WorkedPictures.{picture, unit_8, leaf_8, first_part, tree_of_8}

-- ---- pictures

-- luma by a formula, without colour
abbrev grey : ℕ → ℕ → (ℕ → ℕ → ℕ) → Picture
grey width height luma = picture width height luma 128 128

abbrev flat : ℕ → ℕ → ℕ
flat x y = 128

-- a texture, in which no sample is like those near it
abbrev texture : ℕ → ℕ → ℕ
texture x y = (37 * x + 91 * y + 13 * (x * y)) % 256

-- what lies so many samples further right of one so wide, where its last column is repeated
abbrev further : ℕ → ℕ → ℕ → ℕ → ℕ
further width right x y = texture (min (x + right) (width - 1)) y

-- ---- choices

abbrev vector : ℤ → ℤ → Mv
vector x y = record { x = x; y = y }

-- one vector for all nodes and entries; and one for those in column 0, another for the others
abbrev everywhere : Mv → FoundVectors
everywhere mv entry x y side = Some mv

abbrev first_and_others : Mv → Mv → FoundVectors
first_and_others first others entry x y side = Some (cond (nat_eq x 0) first others)

-- at effort 1, from these reference pictures
abbrev given : SliceKind → ℕ → Picture → ℕ → Distances → FoundVectors → Task
given kind qp input count distances vectors = record {
  effort = 1;
  qp = qp;
  input = input;
  slice_type = kind;
  references = count;
  distances = distances;
  vectors = vectors;
}

-- with vectors, and as it is coded
abbrev trees_of : Task → List Picture → List Tree
trees_of task references =
    best_trees task (sites task.input.luma.width task.input.luma.height) []
    (nothing_decoded references)

abbrev coded_of : Task → List Picture → List Tree
coded_of task references =
    coded_trees task (sites task.input.luma.width task.input.luma.height) []
    (nothing_decoded references)

-- a unit of 8x8 from this entry of list 0, with a first level in luma alone: flag, vector, level
abbrev moved_8 : ℕ → ℕ → Mv → ℤ → Tree
moved_8 entry flag mv luma =
    Leaf (Inter (record { ref_idx_l0 = entry; mvp_l0_flag = flag; MvdL0 = mv }))
    (unit_8 luma (pos 0) (pos 0) ∷ [])

abbrev still : Mv
still = vector (pos 0) (pos 0)

-- the tree of a picture of two units
abbrev two_units : Tree → Tree → Tree
two_units left right = first_part (first_part (Split left right Outside Outside))

-- ---- one unit

-- The reference picture again: no difference and no level.
copy_8 :
    trees_of (given P 32 (grey 8 8 texture) 1 (pos 1 ∷ []) (everywhere still))
    (grey 8 8 texture ∷ []) ≡
    tree_of_8 (moved_8 0 0 still (pos 0)) ∷ []
unfolding int_wrap best_trees best chosen leaf predictor sites is_outside column_of row_of crosses luma_mode score luma_mode_bins candModeList remaining_of truncated_unary_bins look_picture address_of chosen_levels levels inter_predicted tabulate predicted total_of sum_of decoded_tree decoded_block residual cost_of tree_with_differences squared_errors bins_of_node predicted_bins prediction_unit_bins mvd_bins transform_tree_bins transform_unit_bins residual_bins level_at last_significant prefix_of last_bins block_position scan_order bins_from levels_below downwards sig_coeff_bins level_bins greater1_bins remaining_bins exp_golomb_bins sub_blocks_bins positions distance scaled
copy_8 = refl

-- one sample further right
moved_right_8 :
    trees_of (given P 32 (grey 8 8 (further 8 1)) 1 (pos 1 ∷ []) (everywhere (vector (pos 4) (pos 0))))
    (grey 8 8 texture ∷ []) ≡
    tree_of_8 (moved_8 0 0 (vector (pos 4) (pos 0)) (pos 0)) ∷ []
unfolding int_wrap best_trees best chosen leaf predictor sites is_outside column_of row_of crosses luma_mode score luma_mode_bins candModeList remaining_of truncated_unary_bins look_picture address_of chosen_levels levels inter_predicted tabulate predicted total_of sum_of decoded_tree decoded_block residual cost_of tree_with_differences squared_errors bins_of_node predicted_bins prediction_unit_bins mvd_bins transform_tree_bins transform_unit_bins residual_bins level_at last_significant prefix_of last_bins block_position scan_order bins_from levels_below downwards sig_coeff_bins level_bins greater1_bins remaining_bins exp_golomb_bins sub_blocks_bins positions distance scaled
moved_right_8 = refl

-- 12 more in each sample make 3.93 steps, of which the offset of inter units leaves 3: that of intra
-- units would make 4.
inter_rounding_8 :
    trees_of (given P 32 (grey 8 8 (λ x y. 32 + texture x y % 200)) 1 (pos 1 ∷ [])
    (everywhere still)) (grey 8 8 (λ x y. 20 + texture x y % 200) ∷ []) ≡
    tree_of_8 (moved_8 0 0 still (pos 3)) ∷ []
unfolding int_wrap best_trees best chosen leaf predictor sites is_outside column_of row_of crosses luma_mode score luma_mode_bins candModeList remaining_of truncated_unary_bins look_picture address_of chosen_levels levels inter_predicted tabulate predicted total_of sum_of decoded_tree decoded_block residual cost_of tree_with_differences squared_errors bins_of_node predicted_bins prediction_unit_bins mvd_bins transform_tree_bins transform_unit_bins residual_bins level_at last_significant prefix_of last_bins block_position scan_order bins_from levels_below downwards sig_coeff_bins level_bins greater1_bins remaining_bins exp_golomb_bins sub_blocks_bins positions distance scaled
inter_rounding_8 = refl

-- At the least quantiser a bin weighs nothing, so that both predictions cost the same: the one from
-- the reference picture is tried first, and stays.
equal_costs_8 :
    trees_of (given P 0 (grey 8 8 flat) 1 (pos 1 ∷ []) (everywhere still)) (grey 8 8 flat ∷ []) ≡
    tree_of_8 (moved_8 0 0 still (pos 0)) ∷ []
unfolding int_wrap best_trees best chosen leaf predictor sites is_outside column_of row_of crosses luma_mode score luma_mode_bins candModeList remaining_of truncated_unary_bins look_picture address_of chosen_levels levels inter_predicted tabulate predicted total_of sum_of decoded_tree decoded_block residual cost_of tree_with_differences squared_errors bins_of_node predicted_bins prediction_unit_bins mvd_bins transform_tree_bins transform_unit_bins residual_bins level_at last_significant prefix_of last_bins block_position scan_order bins_from levels_below downwards sig_coeff_bins level_bins greater1_bins remaining_bins exp_golomb_bins sub_blocks_bins positions distance scaled
equal_costs_8 = refl

-- in an I slice there is no list 0
i_slice_8 :
    trees_of (given I 0 (grey 8 8 flat) 1 (pos 1 ∷ []) (everywhere still)) (grey 8 8 flat ∷ []) ≡
    tree_of_8 (leaf_8 0 (pos 0)) ∷ []
unfolding int_wrap best_trees best chosen leaf predictor sites is_outside column_of row_of crosses luma_mode score luma_mode_bins candModeList remaining_of truncated_unary_bins look_picture address_of chosen_levels levels inter_predicted tabulate predicted total_of sum_of decoded_tree decoded_block residual cost_of tree_with_differences squared_errors bins_of_node predicted_bins prediction_unit_bins mvd_bins transform_tree_bins transform_unit_bins residual_bins level_at last_significant prefix_of last_bins block_position scan_order bins_from levels_below downwards sig_coeff_bins level_bins greater1_bins remaining_bins exp_golomb_bins sub_blocks_bins positions distance scaled
i_slice_8 = refl

-- the reference picture is unlike it
unlike_8 :
    trees_of (given P 0 (grey 8 8 flat) 1 (pos 1 ∷ []) (everywhere still)) (grey 8 8 texture ∷ []) ≡
    tree_of_8 (leaf_8 0 (pos 0)) ∷ []
unfolding int_wrap best_trees best chosen leaf predictor sites is_outside column_of row_of crosses luma_mode score luma_mode_bins candModeList remaining_of truncated_unary_bins look_picture address_of chosen_levels levels inter_predicted tabulate predicted total_of sum_of decoded_tree decoded_block residual cost_of tree_with_differences squared_errors bins_of_node predicted_bins prediction_unit_bins mvd_bins transform_tree_bins transform_unit_bins residual_bins level_at last_significant prefix_of last_bins block_position scan_order bins_from levels_below downwards sig_coeff_bins level_bins greater1_bins remaining_bins exp_golomb_bins sub_blocks_bins positions distance scaled
unlike_8 = refl

-- ---- two reference pictures

-- the second one is like it
second_entry_8 :
    trees_of (given P 32 (grey 8 8 texture) 2 (pos 1 ∷ negsuc 0 ∷ []) (everywhere still))
    (grey 8 8 flat ∷ grey 8 8 texture ∷ []) ≡
    tree_of_8 (moved_8 1 0 still (pos 0)) ∷ []
unfolding int_wrap best_trees best chosen leaf predictor sites is_outside column_of row_of crosses luma_mode score luma_mode_bins candModeList remaining_of truncated_unary_bins look_picture address_of chosen_levels levels inter_predicted tabulate predicted total_of sum_of decoded_tree decoded_block residual cost_of tree_with_differences squared_errors bins_of_node predicted_bins prediction_unit_bins mvd_bins transform_tree_bins transform_unit_bins residual_bins level_at last_significant prefix_of last_bins block_position scan_order bins_from levels_below downwards sig_coeff_bins level_bins greater1_bins remaining_bins exp_golomb_bins sub_blocks_bins positions distance scaled
second_entry_8 = refl

-- both are: the first one stays
equal_entries_8 :
    trees_of (given P 32 (grey 8 8 texture) 2 (pos 1 ∷ negsuc 0 ∷ []) (everywhere still))
    (grey 8 8 texture ∷ grey 8 8 texture ∷ []) ≡
    tree_of_8 (moved_8 0 0 still (pos 0)) ∷ []
unfolding int_wrap best_trees best chosen leaf predictor sites is_outside column_of row_of crosses luma_mode score luma_mode_bins candModeList remaining_of truncated_unary_bins look_picture address_of chosen_levels levels inter_predicted tabulate predicted total_of sum_of decoded_tree decoded_block residual cost_of tree_with_differences squared_errors bins_of_node predicted_bins prediction_unit_bins mvd_bins transform_tree_bins transform_unit_bins residual_bins level_at last_significant prefix_of last_bins block_position scan_order bins_from levels_below downwards sig_coeff_bins level_bins greater1_bins remaining_bins exp_golomb_bins sub_blocks_bins positions distance scaled
equal_entries_8 = refl

-- ---- the candidates of a vector

-- The left unit moves, and the right one doesn't. Its candidates are the vector at its left, and none:
-- the second leaves no difference.
abbrev second_candidate : Task
second_candidate =
    given P 32
    (grey 16 8 (λ x y. cond (nat_lt x 8) (further 16 3 x (min (y + 1) 7)) (texture x y)))
    1 (pos 1 ∷ []) (first_and_others (vector (pos 12) (pos 4)) still)

-- with vectors
second_candidate_16 :
    trees_of second_candidate (grey 16 8 texture ∷ []) ≡
    two_units (moved_8 0 0 (vector (pos 12) (pos 4)) (pos 0)) (moved_8 0 1 still (pos 0)) ∷ []
unfolding int_wrap best_trees best chosen leaf predictor sites is_outside column_of row_of crosses luma_mode score luma_mode_bins candModeList remaining_of truncated_unary_bins look_picture address_of chosen_levels levels inter_predicted tabulate predicted total_of sum_of decoded_tree decoded_block residual cost_of tree_with_differences squared_errors bins_of_node predicted_bins prediction_unit_bins mvd_bins transform_tree_bins transform_unit_bins residual_bins level_at last_significant prefix_of last_bins block_position scan_order bins_from levels_below downwards sig_coeff_bins level_bins greater1_bins remaining_bins exp_golomb_bins sub_blocks_bins positions distance scaled
second_candidate_16 = refl

-- Two units above each other, where search found a vector for nodes of 8x8 alone: the lower unit has
-- the vector above it as its first candidate.
abbrev upright : Task
upright =
    given P 32 (grey 8 16 (λ x y. cond (nat_lt y 8) (further 8 1 x y) (texture x y))) 1
    (pos 1 ∷ [])
    (λ entry x y side.
    cond (nat_eq side 8) (Some (cond (nat_eq y 0) (vector (pos 4) (pos 0)) still)) None)

-- with vectors
upright_16 :
    trees_of upright (grey 8 16 texture ∷ []) ≡
    first_part (first_part (Split (moved_8 0 0 (vector (pos 4) (pos 0)) (pos 0)) Outside
    (moved_8 0 1 still (pos 0)) Outside)) ∷ []
unfolding int_wrap best_trees best chosen leaf predictor sites is_outside column_of row_of crosses luma_mode score luma_mode_bins candModeList remaining_of truncated_unary_bins look_picture address_of chosen_levels levels inter_predicted tabulate predicted total_of sum_of decoded_tree decoded_block residual cost_of tree_with_differences squared_errors bins_of_node predicted_bins prediction_unit_bins mvd_bins transform_tree_bins transform_unit_bins residual_bins level_at last_significant prefix_of last_bins block_position scan_order bins_from levels_below downwards sig_coeff_bins level_bins greater1_bins remaining_bins exp_golomb_bins sub_blocks_bins positions distance scaled
upright_16 = refl

-- Behind a unit at the left that moves by (4, -3), a vector of (7, 0) leaves (3, 3), which takes 10
-- bins, or (7, 0), which is longer and takes 8: the second candidate is taken.
fewer_bins :
    predictor
    (given_at (given P 32 (grey 16 8 flat) 1 (pos 1 ∷ []) (everywhere still)) (site 16 8 0) []) 0 1
    (record {
      decoded = nothing_decoded (grey 16 8 flat ∷ []);
      earlier = Coded 3 (Inter (record {
        ref_idx_l0 = 0;
        mvp_l0_flag = 0;
        MvdL0 = vector (pos 4) (negsuc 2);
      })) ∷ [];
    })
    0 (vector (pos 7) (pos 0)) ≡ 1
unfolding int_wrap predictor look_picture address_of column_of row_of mvd_bins exp_golomb_bins
    distance scaled
fewer_bins = refl

-- Both candidates leave differences of the same bins, -4 and 4: the first is taken.
abbrev equal_candidates : Task
equal_candidates =
    given P 32 (grey 16 8 (λ x y. further 16 (cond (nat_lt x 8) 2 1) x y)) 1 (pos 1 ∷ [])
    (first_and_others (vector (pos 8) (pos 0)) (vector (pos 4) (pos 0)))

-- with vectors
equal_candidates_16 :
    trees_of equal_candidates (grey 16 8 texture ∷ []) ≡
    two_units (moved_8 0 0 (vector (pos 8) (pos 0)) (pos 0))
    (moved_8 0 0 (vector (pos 4) (pos 0)) (pos 0)) ∷ []
unfolding int_wrap best_trees best chosen leaf predictor sites is_outside column_of row_of crosses luma_mode score luma_mode_bins candModeList remaining_of truncated_unary_bins look_picture address_of chosen_levels levels inter_predicted tabulate predicted total_of sum_of decoded_tree decoded_block residual cost_of tree_with_differences squared_errors bins_of_node predicted_bins prediction_unit_bins mvd_bins transform_tree_bins transform_unit_bins residual_bins level_at last_significant prefix_of last_bins block_position scan_order bins_from levels_below downwards sig_coeff_bins level_bins greater1_bins remaining_bins exp_golomb_bins sub_blocks_bins positions distance scaled
equal_candidates_16 = refl

-- as they are coded
equal_candidates_coded :
    coded_of equal_candidates (grey 16 8 texture ∷ []) ≡
    two_units (moved_8 0 0 (vector (pos 8) (pos 0)) (pos 0))
    (moved_8 0 0 (vector (negsuc 3) (pos 0)) (pos 0)) ∷ []
unfolding int_wrap best_trees best chosen leaf predictor sites is_outside column_of row_of crosses luma_mode score luma_mode_bins candModeList remaining_of truncated_unary_bins look_picture address_of chosen_levels levels inter_predicted tabulate predicted total_of sum_of decoded_tree decoded_block residual cost_of tree_with_differences squared_errors bins_of_node predicted_bins prediction_unit_bins mvd_bins transform_tree_bins transform_unit_bins residual_bins level_at last_significant prefix_of last_bins block_position scan_order bins_from levels_below downwards sig_coeff_bins level_bins greater1_bins remaining_bins exp_golomb_bins sub_blocks_bins positions distance scaled trees_with_differences
equal_candidates_coded = refl

-- The left unit moves by entry 0, and the right one by entry 1, backwards, with a distance of the
-- other sign: the vector at the left, drawn to this distance, leaves no difference.
abbrev apart : Task
apart =
    given P 32
    (grey 16 8 (λ x y.
    cond (nat_lt x 8) (further 16 2 x y) ((texture (x - 2) y + 90) % 256)))
    2 (pos 1 ∷ negsuc 0 ∷ [])
    (λ entry x y side. Some (vector (cond (nat_eq entry 0) (pos 8) (negsuc 7)) (pos 0)))

abbrev apart_from : List Picture
apart_from = grey 16 8 texture ∷ grey 16 8 (λ x y. (texture x y + 90) % 256) ∷ []

-- with vectors
apart_16 :
    trees_of apart apart_from ≡
    two_units (moved_8 0 0 (vector (pos 8) (pos 0)) (pos 0))
    (moved_8 1 0 (vector (negsuc 7) (pos 0)) (pos 0)) ∷ []
unfolding int_wrap best_trees best chosen leaf predictor sites is_outside column_of row_of crosses luma_mode score luma_mode_bins candModeList remaining_of truncated_unary_bins look_picture address_of chosen_levels levels inter_predicted tabulate predicted total_of sum_of decoded_tree decoded_block residual cost_of tree_with_differences squared_errors bins_of_node predicted_bins prediction_unit_bins mvd_bins transform_tree_bins transform_unit_bins residual_bins level_at last_significant prefix_of last_bins block_position scan_order bins_from levels_below downwards sig_coeff_bins level_bins greater1_bins remaining_bins exp_golomb_bins sub_blocks_bins positions distance scaled
apart_16 = refl

-- as they are coded
apart_coded :
    coded_of apart apart_from ≡
    two_units (moved_8 0 0 (vector (pos 8) (pos 0)) (pos 0)) (moved_8 1 0 still (pos 0)) ∷ []
unfolding int_wrap best_trees best chosen leaf predictor sites is_outside column_of row_of crosses luma_mode score luma_mode_bins candModeList remaining_of truncated_unary_bins look_picture address_of chosen_levels levels inter_predicted tabulate predicted total_of sum_of decoded_tree decoded_block residual cost_of tree_with_differences squared_errors bins_of_node predicted_bins prediction_unit_bins mvd_bins transform_tree_bins transform_unit_bins residual_bins level_at last_significant prefix_of last_bins block_position scan_order bins_from levels_below downwards sig_coeff_bins level_bins greater1_bins remaining_bins exp_golomb_bins sub_blocks_bins positions distance scaled trees_with_differences
apart_coded = refl
