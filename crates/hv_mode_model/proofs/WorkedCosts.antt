-- Worked scores and costs, by a program of its own, in another language.
use Rattle.std.proofs.Common.{◌≡◌, ◌+◌, ◌*◌, [], ◌∷◌, refl, pos, negsuc, map}
use Rattle.std.specs.Prelude.{cond, nat_lt, Some, None}
use Rattle.hv_lemmas.specs.Lists.{tabulate}
use Rattle.hv_sample_model.specs.Blocks.{total_of, sum_of}
use Rattle.hv_sample_model.specs.IntraPrediction.{predicted}
use Rattle.hv_sample_model.specs.InverseTransform.{residual}
use Rattle.hv_sample_model.specs.Quantisation.{levels}
use Rattle.hv_residual_model.specs.Binarization.{truncated_unary_bins, exp_golomb_bins, remaining_bins}
use Rattle.hv_residual_model.specs.ScanOrder.{scan_order, block_position}
use Rattle.hv_residual_model.specs.ResidualSyntax.{positions}
use Rattle.hv_residual_model.specs.ResidualBins.{level_at, downwards, levels_below, last_significant, prefix_of, last_bins, sig_coeff_bins, greater1_bins, level_bins, sub_blocks_bins, bins_from, residual_bins}
use Rattle.hv_tree_model.specs.Trees.{Intra, Split}
use Rattle.hv_tree_model.specs.Sites.{is_outside, column_of, row_of, crosses, address_of}
use Rattle.hv_tree_model.specs.EarlierUnits.{Coded, look_picture}
use Rattle.hv_tree_model.specs.MostProbableModes.{candModeList, remaining_of}
use Rattle.hv_unit_model.specs.Bins.{luma_mode_bins, bins_of_node, predicted_bins, transform_tree_bins, transform_unit_bins}
use Rattle.hv_recon_model.specs.Reconstruction.{nothing, decoded_block, decoded_tree}
use Rattle.hv_mode_model.specs.Differences.{tree_with_differences}
use Rattle.hv_mode_model.specs.ModeDecision.{Given, Before, mode_bin_weight, score, leaf, chosen_levels, cost_of, squared_errors}
use Rattle.hv_mode_model.proofs.WorkedPictures.{picture, first_given, nothing_before, leaf_8}

-- ---- weights

mode_weights :
    map mode_bin_weight (0 ∷ 11 ∷ 12 ∷ 17 ∷ 18 ∷ 30 ∷ 51 ∷ []) ≡
    0 ∷ 0 ∷ 1 ∷ 1 ∷ 2 ∷ 8 ∷ 64 ∷ []
mode_weights = refl

-- ---- scores

-- The second unit of a slope, behind one of mode 10 that was decoded as 100, 103 and so on down its
-- rows. Mode 10 takes 2 bins, planar and DC take 3, and others 6; a bin weighs 8.
abbrev slope : Given
slope = first_given 2 30 (picture 16 16 (λ x y. 10 * x + 5 * y) 128 128)

abbrev behind_one : Before
behind_one = record {
  decoded = record {
    luma = λ x y. cond (nat_lt x 8) (Some (100 + 3 * y)) None;
    cb = nothing;
    cr = nothing;
    references = [];
  };
  earlier = Coded 3 (Intra 10) ∷ [];
}

scores :
    map (score slope 0 1 behind_one) (0 ∷ 1 ∷ 10 ∷ 26 ∷ 34 ∷ 2 ∷ 14 ∷ 18 ∷ []) ≡
    1811 ∷ 2004 ∷ 1692 ∷ 2250 ∷ 2258 ∷ 1046 ∷ 1970 ∷ 2153 ∷ []
unfolding score luma_mode_bins candModeList remaining_of truncated_unary_bins look_picture address_of column_of row_of tabulate predicted total_of
scores = refl

-- Of a unit of 64x64 the first 32x32 samples are compared: each is 28 less than 128.
score_of_64 :
    score (first_given 1 51 (picture 64 64 (λ x y. cond (nat_lt x 32) 100 200) 128 128)) 3 0
    nothing_before 0 ≡ 28800
unfolding score luma_mode_bins candModeList remaining_of truncated_unary_bins look_picture address_of column_of row_of tabulate predicted total_of
score_of_64 = refl

-- ---- costs

-- A left half of 40 and a right half of 200: one unit has squared differences of 224, and 202 bins.
abbrev edge : Given
edge = first_given 1 22 (picture 16 16 (λ x y. cond (nat_lt x 8) 40 200) 128 128)

cost_of_unit : cost_of edge 1 0 nothing_before (leaf edge 1 0 nothing_before (Intra 0)) ≡ 21360
unfolding cost_of tree_with_differences squared_errors is_outside column_of row_of crosses look_picture address_of luma_mode_bins candModeList remaining_of truncated_unary_bins bins_of_node predicted_bins transform_tree_bins transform_unit_bins residual_bins level_at last_significant prefix_of last_bins block_position scan_order bins_from levels_below downwards sig_coeff_bins level_bins greater1_bins remaining_bins exp_golomb_bins sub_blocks_bins positions tabulate predicted total_of sum_of decoded_tree decoded_block residual leaf chosen_levels levels
cost_of_unit = refl

-- four units have 74 bins, of which the first is split_cu_flag, and no differences
cost_of_split :
    cost_of edge 1 0 nothing_before
    (Split (leaf_8 0 (negsuc 87)) (leaf_8 0 (pos 160)) (leaf_8 1 (pos 0)) (leaf_8 26 (pos 0))) ≡
    6512
unfolding cost_of tree_with_differences squared_errors is_outside column_of row_of crosses look_picture address_of luma_mode_bins candModeList remaining_of truncated_unary_bins bins_of_node predicted_bins transform_tree_bins transform_unit_bins residual_bins level_at last_significant prefix_of last_bins block_position scan_order bins_from levels_below downwards sig_coeff_bins level_bins greater1_bins remaining_bins exp_golomb_bins sub_blocks_bins positions tabulate predicted total_of sum_of decoded_tree decoded_block residual
cost_of_split = refl

-- Each component counts: without levels all samples are 128, and 8 bins weigh 1,408 each. Squares
-- of luma sum to 201,856, those of Cb to 16 times 22 * 22, and those of Cr to 16 times 38 * 38.
cost_without_levels :
    cost_of (first_given 1 34 (picture 8 8 (λ x y. 20 * x + 10 * y) 150 90)) 0 0 nothing_before
    (leaf_8 1 (pos 0)) ≡ 3734528
unfolding cost_of tree_with_differences squared_errors is_outside column_of row_of crosses look_picture address_of luma_mode_bins candModeList truncated_unary_bins bins_of_node predicted_bins transform_tree_bins transform_unit_bins tabulate predicted total_of sum_of decoded_tree decoded_block residual
cost_without_levels = refl
