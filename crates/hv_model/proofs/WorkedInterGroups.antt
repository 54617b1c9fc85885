-- What is written of a group whose second picture is predicted from the first, computed by the
-- definitions: its bytes are those of another encoder.
use Rattle.std.proofs.Common.{◌≡◌, ℕ, ◌+◌, ◌*◌, List, [], ◌∷◌, ◌++◌, refl, ap₂, pos}
use Rattle.std.specs.Prelude.{None, Some}
use Rattle.std.specs.Int.{int_wrap}
use Rattle.hv_lemmas.specs.Lists.{tabulate}
use Rattle.hv_types.specs.declared.settings.Settings.{Settings}
use Rattle.hv_types.specs.declared.settings.Emit.TheVariants.{Stream}
use Rattle.hv_types.specs.declared.picture.Picture.{Picture}
use Rattle.hv_types.specs.Samples.{plane_of}
use Rattle.hv_stream_model.specs.Bits.{first_bytes}
use Rattle.hv_stream_model.specs.Fields.{log2_of}
use Rattle.hv_entropy_model.specs.Contexts.{lps_width, next_variable, first_variables}
use Rattle.hv_entropy_model.specs.CodeWord.{shift_of}
use Rattle.hv_sample_model.specs.Blocks.{total_of, sum_of}
use Rattle.hv_sample_model.specs.IntraPrediction.{predicted}
use Rattle.hv_sample_model.specs.InverseTransform.{residual}
use Rattle.hv_sample_model.specs.Quantisation.{levels}
use Rattle.hv_inter_model.specs.Interpolation.{inter_predicted}
use Rattle.hv_search_model.specs.MotionSearch.{vector, least_around, best_vector, quarter_size, node_vector, motion}
use Rattle.hv_residual_model.specs.Binarization.{truncated_unary_bins, exp_golomb_bins, remaining_bins}
use Rattle.hv_residual_model.specs.ScanOrder.{scan_order, block_position, block_number}
use Rattle.hv_residual_model.specs.ResidualSyntax.{positions}
use Rattle.hv_residual_model.specs.ResidualBins.{level_at, downwards, levels_below, last_significant, prefix_of, last_bins, sig_coeff_bins, greater1_bins, level_bins, sub_blocks_bins, bins_from, residual_bins}
use Rattle.hv_tree_model.specs.Trees.{no_levels, no_units}
use Rattle.hv_tree_model.specs.Sites.{sites, is_outside, column_of, row_of, crosses, address_of}
use Rattle.hv_tree_model.specs.EarlierUnits.{look_picture}
use Rattle.hv_tree_model.specs.MostProbableModes.{candModeList, remaining_of}
use Rattle.hv_unit_model.specs.Bins.{sao_bins, luma_mode_bins, bins_of_node, predicted_bins, mvd_bins, prediction_unit_bins, transform_tree_bins, quarters_bins, transform_unit_bins}
use Rattle.hv_vector_model.specs.VectorPrediction.{distance, scaled}
use Rattle.hv_recon_model.specs.Reconstruction.{decoded_block, decoded_tree}
use Rattle.hv_mode_model.specs.Differences.{tree_with_differences, trees_with_differences}
use Rattle.hv_mode_model.specs.ModeDecision.{best_trees, best_decoded, best, chosen, leaf, luma_mode, predictor, chosen_levels, score, cost_of, squared_errors}
use Rattle.hv_model.specs.InterPictures.{group_input, recon_within, picture_unit, group_bytes}

-- settings of pictures of 8x8
abbrev small : Settings
small = record {
  width = 8;
  height = 8;
  qp = 10;
  levels = 0;
  group = 3;
  workers = 1;
  effort = 1;
  segment = 4;
  emit = Stream;
  synth = None;
}

-- a slope that begins with these samples
abbrev slope : ℕ → ℕ → ℕ → Picture
slope luma cb cr = record {
  luma = plane_of 8 8 (λ x y. luma + 2 * x + 3 * y);
  cb = plane_of 4 4 (λ x y. cb + 2 * x + 3 * y);
  cr = plane_of 4 4 (λ x y. cr + 2 * x + 3 * y);
}

-- all samples are 5 more in the second picture
abbrev two_slopes : List Picture
two_slopes = slope 15 55 95 ∷ slope 20 60 100 ∷ []

-- their units
abbrev first_unit : List ℕ
first_unit =
    0x00 ∷ 0x00 ∷ 0x00 ∷ 0x01 ∷ 0x28 ∷ 0x01 ∷ 0xAF ∷ 0x04 ∷ 0x30 ∷ 0x64 ∷ 0x5E ∷ 0x29 ∷ 0xA1 ∷
    0x56 ∷ 0x88 ∷ 0xCF ∷ 0xF2 ∷ 0x35 ∷ 0xE9 ∷ 0xFD ∷ 0xB7 ∷ 0x25 ∷ 0x10 ∷ 0xE1 ∷ 0xC7 ∷ 0x38 ∷
    0xF7 ∷ 0xF2 ∷ 0x7F ∷ 0xC0 ∷ []

abbrev second_unit : List ℕ
second_unit =
    0x00 ∷ 0x00 ∷ 0x00 ∷ 0x01 ∷ 0x02 ∷ 0x01 ∷ 0xD0 ∷ 0x09 ∷ 0x7F ∷ 0x28 ∷ 0x7E ∷ 0x41 ∷ 0x47 ∷
    0xCC ∷ 0x7E ∷ 0x58 ∷ 0x64 ∷ 0x5E ∷ 0xEF ∷ 0x66 ∷ 0x46 ∷ 0x9F ∷ 0xB5 ∷ 0xFF ∷ 0xD1 ∷ 0x16 ∷
    0x41 ∷ 0x89 ∷ 0x7B ∷ 0x3F ∷ 0x77 ∷ 0xF8 ∷ []

-- the first picture, an IDR picture
first_written : picture_unit small two_slopes 0 ≡ first_unit
unfolding first_bytes lps_width next_variable first_variables shift_of log2_of sites sao_bins bins_of_node predicted_bins luma_mode_bins candModeList remaining_of transform_tree_bins quarters_bins transform_unit_bins truncated_unary_bins exp_golomb_bins remaining_bins no_units no_levels look_picture column_of row_of address_of crosses is_outside residual_bins level_at last_significant prefix_of last_bins block_position block_number scan_order bins_from levels_below downwards sig_coeff_bins level_bins greater1_bins sub_blocks_bins positions tabulate decoded_block decoded_tree predicted residual sum_of total_of levels best_trees best_decoded best chosen leaf luma_mode chosen_levels score cost_of tree_with_differences squared_errors trees_with_differences predictor prediction_unit_bins mvd_bins inter_predicted distance scaled int_wrap motion node_vector best_vector least_around quarter_size recon_within
first_written = refl

-- what motion search finds for the second: one sample to the right and down in the first
found_for_second : motion (group_input small two_slopes) 1 0 0 0 8 ≡ Some (vector (pos 4) (pos 4))
unfolding motion node_vector best_vector least_around quarter_size tabulate total_of
found_for_second = refl

-- the second picture, a P picture
second_written : picture_unit small two_slopes 1 ≡ second_unit
unfolding first_bytes lps_width next_variable first_variables shift_of log2_of sites sao_bins bins_of_node predicted_bins luma_mode_bins candModeList remaining_of transform_tree_bins quarters_bins transform_unit_bins truncated_unary_bins exp_golomb_bins remaining_bins no_units no_levels look_picture column_of row_of address_of crosses is_outside residual_bins level_at last_significant prefix_of last_bins block_position block_number scan_order bins_from levels_below downwards sig_coeff_bins level_bins greater1_bins sub_blocks_bins positions tabulate decoded_block decoded_tree predicted residual sum_of total_of levels best_trees best_decoded best chosen leaf luma_mode chosen_levels score cost_of tree_with_differences squared_errors trees_with_differences predictor prediction_unit_bins mvd_bins inter_predicted distance scaled int_wrap motion node_vector best_vector least_around quarter_size recon_within
second_written = refl

-- both
group_written : group_bytes small two_slopes ≡ first_unit ++ second_unit
group_written = ap₂ (λ first second. first ++ (second ++ [])) first_written second_written
