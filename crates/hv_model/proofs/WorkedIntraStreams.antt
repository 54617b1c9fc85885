-- What is written and shown of pictures whose units are predicted within them, computed by the
-- definitions: the streams are those of another encoder, and the samples those of another decoder.
use Rattle.std.proofs.Common.{◌≡◌, ℕ, ◌+◌, ◌*◌, List, [], ◌∷◌, ◌++◌, refl}
use Rattle.std.specs.Prelude.{None, replicate}
use Rattle.hv_lemmas.specs.Lists.{tabulate}
use Rattle.hv_types.specs.declared.settings.Settings.{Settings}
use Rattle.hv_types.specs.declared.settings.Emit.TheVariants.{Stream}
use Rattle.hv_types.specs.declared.picture.Picture.{Picture}
use Rattle.hv_types.specs.Samples.{plane_of, plane_by_rows}
use Rattle.hv_stream_model.specs.Bits.{first_bytes}
use Rattle.hv_stream_model.specs.Fields.{log2_of}
use Rattle.hv_entropy_model.specs.Contexts.{lps_width, next_variable, first_variables}
use Rattle.hv_entropy_model.specs.CodeWord.{shift_of}
use Rattle.hv_sample_model.specs.Blocks.{total_of, sum_of}
use Rattle.hv_sample_model.specs.IntraPrediction.{predicted}
use Rattle.hv_sample_model.specs.InverseTransform.{residual}
use Rattle.hv_sample_model.specs.Quantisation.{levels}
use Rattle.hv_residual_model.specs.Binarization.{truncated_unary_bins, exp_golomb_bins, remaining_bins}
use Rattle.hv_residual_model.specs.ScanOrder.{scan_order, block_position, block_number}
use Rattle.hv_residual_model.specs.ResidualSyntax.{positions}
use Rattle.hv_residual_model.specs.ResidualBins.{level_at, downwards, levels_below, last_significant, prefix_of, last_bins, sig_coeff_bins, greater1_bins, level_bins, sub_blocks_bins, bins_from, residual_bins}
use Rattle.hv_tree_model.specs.Trees.{no_levels, no_units}
use Rattle.hv_tree_model.specs.Sites.{sites, is_outside, column_of, row_of, crosses, address_of}
use Rattle.hv_tree_model.specs.EarlierUnits.{look_picture}
use Rattle.hv_tree_model.specs.MostProbableModes.{candModeList, remaining_of}
use Rattle.hv_unit_model.specs.Bins.{sao_bins, luma_mode_bins, bins_of_node, predicted_bins, transform_tree_bins, quarters_bins, transform_unit_bins}
use Rattle.hv_recon_model.specs.Reconstruction.{decoded_block, decoded_tree}
use Rattle.hv_mode_model.specs.Differences.{tree_with_differences}
use Rattle.hv_mode_model.specs.ModeDecision.{best_trees, best_decoded, best, chosen, leaf, luma_mode, chosen_levels, score, cost_of, squared_errors}
use Rattle.hv_model.specs.IntraPictures.{encode_of, recon_of}

-- settings of pictures of 8x8, one a group
abbrev small : ℕ → ℕ → Settings
small effort qp = record {
  width = 8;
  height = 8;
  qp = qp;
  levels = 0;
  group = 1;
  workers = 1;
  effort = effort;
  segment = 4;
  emit = Stream;
  synth = None;
}

-- a slope that begins with these samples
abbrev slope : ℕ → ℕ → ℕ → Picture
slope luma cb cr = record {
  luma = plane_of 8 8 (λ x y. luma + 2 * x + 3 * y);
  cb = plane_of 4 4 (λ x y. cb + 2 * x + 3 * y);
  cr = plane_of 4 4 (λ x y. cr + 2 * x + 3 * y);
}

-- the parameter sets
abbrev sets : List ℕ
sets =
    0x00 ∷ 0x00 ∷ 0x00 ∷ 0x01 ∷ 0x40 ∷ 0x01 ∷ 0x0C ∷ 0x01 ∷ 0xFF ∷ 0xFF ∷ 0x01 ∷ 0x60 ∷ 0x00 ∷
    0x00 ∷ 0x03 ∷ 0x00 ∷ 0x90 ∷ 0x00 ∷ 0x00 ∷ 0x03 ∷ 0x00 ∷ 0x00 ∷ 0x03 ∷ 0x00 ∷ 0x99 ∷ 0xAC ∷
    0x09 ∷
    0x00 ∷ 0x00 ∷ 0x00 ∷ 0x01 ∷ 0x42 ∷ 0x01 ∷ 0x01 ∷ 0x01 ∷ 0x60 ∷ 0x00 ∷ 0x00 ∷ 0x03 ∷ 0x00 ∷
    0x90 ∷ 0x00 ∷ 0x00 ∷ 0x03 ∷ 0x00 ∷ 0x00 ∷ 0x03 ∷ 0x00 ∷ 0x99 ∷ 0xA1 ∷ 0x22 ∷ 0x59 ∷ 0x6B ∷
    0x92 ∷ 0x4C ∷ 0xA0 ∷ 0x80 ∷
    0x00 ∷ 0x00 ∷ 0x00 ∷ 0x01 ∷ 0x44 ∷ 0x01 ∷ 0xC0 ∷ 0x71 ∷ 0x80 ∷ 0x12 ∷ []

-- one picture, at effort 1
one_written : encode_of (small 1 37) (slope 0 40 80 ∷ []) ≡ sets ++ (
    0x00 ∷ 0x00 ∷ 0x00 ∷ 0x01 ∷ 0x28 ∷ 0x01 ∷ 0xAF ∷ 0x0B ∷ 0x40 ∷ 0xF6 ∷ 0xAA ∷ 0x3C ∷ 0xFC ∷
    0x62 ∷ 0xBB ∷ 0x50 ∷ 0xA1 ∷ 0xC0 ∷ [])
unfolding first_bytes lps_width next_variable first_variables shift_of log2_of sites sao_bins bins_of_node predicted_bins luma_mode_bins candModeList remaining_of transform_tree_bins quarters_bins transform_unit_bins truncated_unary_bins exp_golomb_bins remaining_bins no_units no_levels look_picture column_of row_of address_of crosses is_outside residual_bins level_at last_significant prefix_of last_bins block_position block_number scan_order bins_from levels_below downwards sig_coeff_bins level_bins greater1_bins sub_blocks_bins positions tabulate decoded_block decoded_tree predicted residual sum_of total_of levels best_trees best_decoded best chosen leaf luma_mode chosen_levels score cost_of tree_with_differences squared_errors
one_written = refl

-- two pictures, at effort 2
abbrev two_slopes : List Picture
two_slopes = slope 0 40 80 ∷ slope 5 45 85 ∷ []

two_written : encode_of (small 2 30) two_slopes ≡ sets ++ (
    0x00 ∷ 0x00 ∷ 0x00 ∷ 0x01 ∷ 0x28 ∷ 0x01 ∷ 0xAF ∷ 0x11 ∷ 0xEA ∷ 0xED ∷ 0x17 ∷ 0x88 ∷ 0xF3 ∷
    0xC7 ∷ 0x7D ∷ 0x51 ∷ 0xD3 ∷ 0x79 ∷ 0x30 ∷
    0x00 ∷ 0x00 ∷ 0x00 ∷ 0x01 ∷ 0x28 ∷ 0x01 ∷ 0xAF ∷ 0x11 ∷ 0xEA ∷ 0xED ∷ 0x17 ∷ 0x88 ∷ 0xEA ∷
    0x17 ∷ 0x7D ∷ 0x0F ∷ 0xD3 ∷ 0x65 ∷ 0xC0 ∷ [])
unfolding first_bytes lps_width next_variable first_variables shift_of log2_of sites sao_bins bins_of_node predicted_bins luma_mode_bins candModeList remaining_of transform_tree_bins quarters_bins transform_unit_bins truncated_unary_bins exp_golomb_bins remaining_bins no_units no_levels look_picture column_of row_of address_of crosses is_outside residual_bins level_at last_significant prefix_of last_bins block_position block_number scan_order bins_from levels_below downwards sig_coeff_bins level_bins greater1_bins sub_blocks_bins positions tabulate decoded_block decoded_tree predicted residual sum_of total_of levels best_trees best_decoded best chosen leaf luma_mode chosen_levels score cost_of tree_with_differences squared_errors
two_written = refl

-- four rows of one value each
abbrev four_rows : ℕ → ℕ → ℕ → ℕ → List ℕ
four_rows a b c d = replicate 4 a ++ replicate 4 b ++ replicate 4 c ++ replicate 4 d

two_shown : recon_of (small 2 30) two_slopes ≡
    record {
      luma = plane_by_rows 8 8 (
          1 ∷ 2 ∷ 4 ∷ 6 ∷ 9 ∷ 11 ∷ 13 ∷ 15 ∷
          2 ∷ 3 ∷ 5 ∷ 8 ∷ 11 ∷ 13 ∷ 15 ∷ 16 ∷
          5 ∷ 6 ∷ 8 ∷ 11 ∷ 14 ∷ 16 ∷ 18 ∷ 19 ∷
          9 ∷ 10 ∷ 12 ∷ 14 ∷ 17 ∷ 20 ∷ 22 ∷ 23 ∷
          13 ∷ 14 ∷ 16 ∷ 19 ∷ 22 ∷ 24 ∷ 26 ∷ 27 ∷
          17 ∷ 18 ∷ 20 ∷ 22 ∷ 25 ∷ 28 ∷ 30 ∷ 31 ∷
          20 ∷ 21 ∷ 23 ∷ 25 ∷ 28 ∷ 31 ∷ 33 ∷ 34 ∷
          21 ∷ 23 ∷ 25 ∷ 27 ∷ 30 ∷ 32 ∷ 34 ∷ 35 ∷ []
          );
      cb = plane_by_rows 4 4 (four_rows 41 44 50 53);
      cr = plane_by_rows 4 4 (four_rows 82 85 90 93);
    } ∷
    record {
      luma = plane_by_rows 8 8 (
          6 ∷ 7 ∷ 9 ∷ 11 ∷ 14 ∷ 16 ∷ 18 ∷ 20 ∷
          7 ∷ 8 ∷ 10 ∷ 13 ∷ 16 ∷ 18 ∷ 20 ∷ 21 ∷
          10 ∷ 11 ∷ 13 ∷ 16 ∷ 19 ∷ 21 ∷ 23 ∷ 24 ∷
          14 ∷ 15 ∷ 17 ∷ 19 ∷ 22 ∷ 25 ∷ 27 ∷ 28 ∷
          18 ∷ 19 ∷ 21 ∷ 24 ∷ 27 ∷ 29 ∷ 31 ∷ 32 ∷
          22 ∷ 23 ∷ 25 ∷ 27 ∷ 30 ∷ 33 ∷ 35 ∷ 36 ∷
          25 ∷ 26 ∷ 28 ∷ 30 ∷ 33 ∷ 36 ∷ 38 ∷ 39 ∷
          26 ∷ 28 ∷ 30 ∷ 32 ∷ 35 ∷ 37 ∷ 39 ∷ 40 ∷ []
          );
      cb = plane_by_rows 4 4 (four_rows 46 49 54 57);
      cr = plane_by_rows 4 4 (four_rows 86 89 95 98);
    } ∷ []
unfolding first_bytes lps_width next_variable first_variables shift_of log2_of sites sao_bins bins_of_node predicted_bins luma_mode_bins candModeList remaining_of transform_tree_bins quarters_bins transform_unit_bins truncated_unary_bins exp_golomb_bins remaining_bins no_units no_levels look_picture column_of row_of address_of crosses is_outside residual_bins level_at last_significant prefix_of last_bins block_position block_number scan_order bins_from levels_below downwards sig_coeff_bins level_bins greater1_bins sub_blocks_bins positions tabulate decoded_block decoded_tree predicted residual sum_of total_of levels best_trees best_decoded best chosen leaf luma_mode chosen_levels score cost_of tree_with_differences squared_errors
two_shown = refl
