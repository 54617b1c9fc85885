-- Five pictures of 8x8 as another encoder writes them, in one group with two temporal levels, and in
-- two groups with none: that the one-thread encoder writes these bytes, and what is parsed and shown
-- of them, computed by the definitions.
use Rattle.std.proofs.Common.{◌≡◌, ℕ, Bool, true, false, List, [], ◌∷◌, refl}
use Rattle.std.specs.Prelude.{Some, None, replicate}
use Rattle.hv_tables.specs.declared.bins.SliceKind.TheVariants.{P}
use Rattle.hv_types.specs.declared.settings.Settings.{Settings}
use Rattle.hv_types.specs.declared.settings.Emit.TheVariants.{Stream}
use Rattle.hv_types.specs.Video.{crop}
use Rattle.hv_lemmas.specs.Lists.{tabulate}
use Rattle.hv_sample_model.specs.Blocks.{sum_of, total_of}
use Rattle.hv_sample_model.specs.IntraPrediction.{predicted}
use Rattle.hv_sample_model.specs.InverseTransform.{residual}
use Rattle.hv_stream_model.specs.Bits.{first_bytes}
use Rattle.hv_entropy_model.specs.Contexts.{lps_width, next_variable, first_variables}
use Rattle.hv_entropy_model.specs.CodeWord.{shift_of}
use Rattle.hv_stream_model.specs.Fields.{log2_of}
use Rattle.hv_group_model.specs.Structure.{Kept}
use Rattle.hv_stream_model.specs.Headers.{SliceHeader}
use Rattle.hv_residual_model.specs.Binarization.{truncated_unary, truncated_unary_bins}
use Rattle.hv_tree_model.specs.Trees.{no_levels, no_units}
use Rattle.hv_tree_model.specs.Sites.{sites, column_of, row_of, address_of, crosses, is_outside}
use Rattle.hv_tree_model.specs.EarlierUnits.{look_picture}
use Rattle.hv_tree_model.specs.MostProbableModes.{candModeList, mode_of_remaining}
use Rattle.hv_vector_model.specs.Vectors.{trees_with_vectors, tree_with_vectors}
use Rattle.hv_unit_model.specs.BlockSyntax.{sao, luma_mode, block_levels, transform_unit, quarters, transform_tree, intra_unit, coding_unit, coding_quadtree}
use Rattle.hv_unit_model.specs.Bins.{sao_bins, luma_mode_bins, transform_unit_bins, quarters_bins, transform_tree_bins, predicted_bins, bins_of_node}
use Rattle.hv_slice_model.specs.BlankUnits.{blank_node}
use Rattle.hv_slice_model.specs.Slices.{idr_header}
use Rattle.hv_model.specs.Parsing.{Sequence, CodedPicture, parsed_of}
use Rattle.hv_recon_model.specs.Reconstruction.{decoded_block, decoded_tree, decoded_trees, unfiltered}
use Rattle.hv_recon_model.specs.BlankLaws.{grey}
use Rattle.hv_model.specs.Encoding.{coded_units, encode_of}
use Rattle.hv_model.specs.Decoding.{decode_of}

abbrev five_pictures : List ℕ
five_pictures =
    0x00 ∷ 0x00 ∷ 0x00 ∷ 0x01 ∷ 0x40 ∷ 0x01 ∷ 0x0C ∷ 0x01 ∷ 0xFF ∷ 0xFF ∷ 0x01 ∷ 0x60 ∷ 0x00 ∷
    0x00 ∷ 0x03 ∷ 0x00 ∷ 0x90 ∷ 0x00 ∷ 0x00 ∷ 0x03 ∷ 0x00 ∷ 0x00 ∷ 0x03 ∷ 0x00 ∷ 0x99 ∷ 0x91 ∷
    0xC0 ∷ 0x90 ∷
    0x00 ∷ 0x00 ∷ 0x00 ∷ 0x01 ∷ 0x42 ∷ 0x01 ∷ 0x01 ∷ 0x01 ∷ 0x60 ∷ 0x00 ∷ 0x00 ∷ 0x03 ∷ 0x00 ∷
    0x90 ∷ 0x00 ∷ 0x00 ∷ 0x03 ∷ 0x00 ∷ 0x00 ∷ 0x03 ∷ 0x00 ∷ 0x99 ∷ 0xA1 ∷ 0x22 ∷ 0x59 ∷ 0x64 ∷
    0x79 ∷ 0x24 ∷ 0xCA ∷ 0x08 ∷
    0x00 ∷ 0x00 ∷ 0x00 ∷ 0x01 ∷ 0x44 ∷ 0x01 ∷ 0xC0 ∷ 0x71 ∷ 0x80 ∷ 0x12 ∷
    0x00 ∷ 0x00 ∷ 0x00 ∷ 0x01 ∷ 0x28 ∷ 0x01 ∷ 0xAF ∷ 0x19 ∷ 0xF1 ∷ 0xAA ∷ 0x60 ∷
    0x00 ∷ 0x00 ∷ 0x00 ∷ 0x01 ∷ 0x02 ∷ 0x01 ∷ 0xD0 ∷ 0x21 ∷ 0x49 ∷ 0xF2 ∷ 0x8E ∷ 0x80 ∷ 0xF7 ∷
    0x52 ∷ 0x76 ∷
    0x00 ∷ 0x00 ∷ 0x00 ∷ 0x01 ∷ 0x02 ∷ 0x01 ∷ 0xD0 ∷ 0x11 ∷ 0x25 ∷ 0x5E ∷ 0x8A ∷ 0x10 ∷ 0x80 ∷
    0xF8 ∷ 0x75 ∷ 0x6E ∷
    0x00 ∷ 0x00 ∷ 0x00 ∷ 0x01 ∷ 0x02 ∷ 0x01 ∷ 0xD0 ∷ 0x09 ∷ 0x3F ∷ 0x4E ∷ 0x8A ∷ 0x12 ∷ 0x80 ∷
    0xF8 ∷ 0x25 ∷ 0x6E ∷
    0x00 ∷ 0x00 ∷ 0x00 ∷ 0x01 ∷ 0x02 ∷ 0x01 ∷ 0xD0 ∷ 0x19 ∷ 0x2F ∷ 0xE8 ∷ 0xA1 ∷ 0x28 ∷ 0xF8 ∷
    0x25 ∷ 0x6E ∷ []

abbrev kept : ℕ → Bool → Kept
kept distance is_used = record { distance = distance; is_used = is_used }

abbrev coded : SliceHeader → CodedPicture
coded header = record { header = header; units = coded_units (sites 8 8) }

abbrev other : ℕ → List Kept → List Kept → ℕ → CodedPicture
other count before after qp = coded (record {
  slice_type = P;
  slice_pic_order_cnt_lsb = count;
  references = record { before = before; after = after };
  qp = qp;
})

-- in coding order: the pictures 0 4 2 1 3
abbrev five_coded : Sequence
five_coded = record {
  size = record {
    pic_width_in_luma_samples = 8;
    pic_height_in_luma_samples = 8;
    conf_win_right_offset = 0;
    conf_win_bottom_offset = 0;
  };
  pictures =
      coded (idr_header 32) ∷
      other 4 (kept 4 true ∷ []) [] 33 ∷
      other 2 (kept 2 true ∷ []) (kept 2 true ∷ []) 34 ∷
      other 1 (kept 1 true ∷ []) (kept 1 true ∷ kept 3 false ∷ []) 35 ∷
      other 3 (kept 1 true ∷ []) (kept 1 true ∷ []) 35 ∷
      [];
}

five_parsed : parsed_of five_pictures ≡ Some (five_coded ∷ [])
unfolding first_bytes lps_width next_variable first_variables shift_of log2_of sites sao coding_quadtree coding_unit intra_unit luma_mode candModeList mode_of_remaining truncated_unary transform_tree quarters transform_unit block_levels no_units no_levels look_picture column_of row_of address_of crosses is_outside blank_node
five_parsed = refl

five_shown : decode_of five_pictures ≡ Some (replicate 5 (crop (grey 8 8) 8 8))
unfolding first_bytes lps_width next_variable first_variables shift_of log2_of sites sao coding_quadtree coding_unit intra_unit luma_mode candModeList mode_of_remaining truncated_unary transform_tree quarters transform_unit block_levels no_units no_levels look_picture column_of row_of address_of crosses is_outside decoded_block decoded_tree decoded_trees unfiltered trees_with_vectors tree_with_vectors predicted residual sum_of total_of tabulate
five_shown = refl

-- ---- written

abbrev settings_of : ℕ → ℕ → Settings
settings_of levels group = record {
  width = 8;
  height = 8;
  qp = 32;
  levels = levels;
  group = group;
  workers = 1;
  effort = 0;
  segment = 4;
  emit = Stream;
  synth = None;
}

five_written : encode_of (settings_of 2 9) (replicate 5 (grey 8 8)) ≡ five_pictures
unfolding first_bytes lps_width next_variable first_variables shift_of log2_of sites blank_node sao_bins bins_of_node predicted_bins luma_mode_bins candModeList transform_tree_bins quarters_bins transform_unit_bins truncated_unary_bins no_units no_levels look_picture column_of row_of address_of crosses is_outside
five_written = refl

-- a group of four pictures, each of which refers to the one before it, and one of a single picture
abbrev two_groups : List ℕ
two_groups =
    0x00 ∷ 0x00 ∷ 0x00 ∷ 0x01 ∷ 0x40 ∷ 0x01 ∷ 0x0C ∷ 0x01 ∷ 0xFF ∷ 0xFF ∷ 0x01 ∷ 0x60 ∷ 0x00 ∷
    0x00 ∷ 0x03 ∷ 0x00 ∷ 0x90 ∷ 0x00 ∷ 0x00 ∷ 0x03 ∷ 0x00 ∷ 0x00 ∷ 0x03 ∷ 0x00 ∷ 0x99 ∷ 0xAC ∷
    0x09 ∷
    0x00 ∷ 0x00 ∷ 0x00 ∷ 0x01 ∷ 0x42 ∷ 0x01 ∷ 0x01 ∷ 0x01 ∷ 0x60 ∷ 0x00 ∷ 0x00 ∷ 0x03 ∷ 0x00 ∷
    0x90 ∷ 0x00 ∷ 0x00 ∷ 0x03 ∷ 0x00 ∷ 0x00 ∷ 0x03 ∷ 0x00 ∷ 0x99 ∷ 0xA1 ∷ 0x22 ∷ 0x59 ∷ 0x6B ∷
    0x92 ∷ 0x4C ∷ 0xA0 ∷ 0x80 ∷
    0x00 ∷ 0x00 ∷ 0x00 ∷ 0x01 ∷ 0x44 ∷ 0x01 ∷ 0xC0 ∷ 0x71 ∷ 0x80 ∷ 0x12 ∷
    0x00 ∷ 0x00 ∷ 0x00 ∷ 0x01 ∷ 0x28 ∷ 0x01 ∷ 0xAF ∷ 0x19 ∷ 0xF1 ∷ 0xAA ∷ 0x60 ∷
    0x00 ∷ 0x00 ∷ 0x00 ∷ 0x01 ∷ 0x02 ∷ 0x01 ∷ 0xD0 ∷ 0x09 ∷ 0x7F ∷ 0x28 ∷ 0xE8 ∷ 0xF7 ∷ 0x52 ∷
    0x76 ∷
    0x00 ∷ 0x00 ∷ 0x00 ∷ 0x01 ∷ 0x02 ∷ 0x01 ∷ 0xD0 ∷ 0x11 ∷ 0x7F ∷ 0x28 ∷ 0xE8 ∷ 0xF7 ∷ 0x52 ∷
    0x76 ∷
    0x00 ∷ 0x00 ∷ 0x00 ∷ 0x01 ∷ 0x02 ∷ 0x01 ∷ 0xD0 ∷ 0x19 ∷ 0x7F ∷ 0x28 ∷ 0xE8 ∷ 0xF7 ∷ 0x52 ∷
    0x76 ∷
    0x00 ∷ 0x00 ∷ 0x00 ∷ 0x01 ∷ 0x28 ∷ 0x01 ∷ 0xAF ∷ 0x19 ∷ 0xF1 ∷ 0xAA ∷ 0x60 ∷ []

two_groups_written : encode_of (settings_of 0 4) (replicate 5 (grey 8 8)) ≡ two_groups
unfolding first_bytes lps_width next_variable first_variables shift_of log2_of sites blank_node sao_bins bins_of_node predicted_bins luma_mode_bins candModeList transform_tree_bins quarters_bins transform_unit_bins truncated_unary_bins no_units no_levels look_picture column_of row_of address_of crosses is_outside
two_groups_written = refl

two_groups_shown : decode_of two_groups ≡ Some (replicate 5 (crop (grey 8 8) 8 8))
unfolding first_bytes lps_width next_variable first_variables shift_of log2_of sites sao coding_quadtree coding_unit intra_unit luma_mode candModeList mode_of_remaining truncated_unary transform_tree quarters transform_unit block_levels no_units no_levels look_picture column_of row_of address_of crosses is_outside decoded_block decoded_tree decoded_trees unfiltered trees_with_vectors tree_with_vectors predicted residual sum_of total_of tabulate
two_groups_shown = refl
