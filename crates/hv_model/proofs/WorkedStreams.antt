-- A grey picture of 64x64 and its 80 bytes: what is written and parsed, computed by the definitions,
-- and what is shown, by the laws of grey pictures.
use Rattle.std.proofs.Common.{◌≡◌, ℕ, List, [], ◌∷◌, refl, ap, ◌∙◌, arith}
use Rattle.std.specs.Prelude.{Some, None, option_and_then}
use Rattle.hv_types.specs.declared.settings.Settings.{Settings}
use Rattle.hv_types.specs.declared.settings.Emit.TheVariants.{Stream}
use Rattle.hv_types.specs.Video.{crop}
use Rattle.hv_stream_model.specs.Bits.{first_bytes}
use Rattle.hv_entropy_model.specs.Contexts.{lps_width, next_variable, first_variables}
use Rattle.hv_entropy_model.specs.CodeWord.{shift_of}
use Rattle.hv_stream_model.specs.Fields.{log2_of}
use Rattle.hv_residual_model.specs.Binarization.{truncated_unary, truncated_unary_bins}
use Rattle.hv_tree_model.specs.Trees.{no_levels, no_units}
use Rattle.hv_tree_model.specs.Sites.{sites, column_of, row_of, address_of, crosses, is_outside}
use Rattle.hv_tree_model.specs.EarlierUnits.{look_picture}
use Rattle.hv_tree_model.specs.MostProbableModes.{candModeList, mode_of_remaining}
use Rattle.hv_unit_model.specs.BlockSyntax.{sao, luma_mode, block_levels, transform_unit, quarters, transform_tree, intra_unit, coding_unit, coding_quadtree}
use Rattle.hv_unit_model.specs.Bins.{sao_bins, luma_mode_bins, transform_unit_bins, quarters_bins, transform_tree_bins, predicted_bins, bins_of_node}
use Rattle.hv_slice_model.specs.BlankUnits.{blank_node}
use Rattle.hv_recon_model.specs.BlankLaws.{grey}
use Rattle.hv_recon_model.proofs.BlankPictureLemmas.{blank_pictures_are_grey}
use Rattle.hv_deblock_model.specs.FlatPictures.{FlatPicturesAreShown}
use Rattle.hv_slice_model.specs.Slices.{idr_header}
use Rattle.hv_types.specs.Configuration.{IsValid}
use Rattle.hv_model.specs.Parsing.{CodedPicture, Sequence, parsed_of}
use Rattle.hv_model.specs.Reconstruction.{reconstructed}
use Rattle.hv_model.specs.Encoding.{coded_units, encode_of}
use Rattle.hv_model.specs.Decoding.{shown_of, decode_of}
use Rattle.hv_model.proofs.CodedUnitLemmas.{coded_units_grey}

abbrev pub one_block : Settings
one_block = record {
  width = 64;
  height = 64;
  qp = 26;
  levels = 0;
  group = 1;
  workers = 1;
  effort = 0;
  segment = 4;
  emit = Stream;
  synth = None;
}

abbrev pub eighty_bytes : List ℕ
eighty_bytes =
    0 ∷ 0 ∷ 0 ∷ 1 ∷ 0x40 ∷ 0x01 ∷ 0x0C ∷ 0x01 ∷ 0xFF ∷ 0xFF ∷ 0x01 ∷ 0x60 ∷ 0x00 ∷ 0x00 ∷ 0x03 ∷
    0x00 ∷ 0x90 ∷ 0x00 ∷ 0x00 ∷ 0x03 ∷ 0x00 ∷ 0x00 ∷ 0x03 ∷ 0x00 ∷ 0x99 ∷ 0xAC ∷ 0x09 ∷
    0 ∷ 0 ∷ 0 ∷ 1 ∷ 0x42 ∷ 0x01 ∷ 0x01 ∷ 0x01 ∷ 0x60 ∷ 0x00 ∷ 0x00 ∷ 0x03 ∷ 0x00 ∷ 0x90 ∷ 0x00 ∷
    0x00 ∷ 0x03 ∷ 0x00 ∷ 0x00 ∷ 0x03 ∷ 0x00 ∷ 0x99 ∷ 0xA0 ∷ 0x20 ∷ 0x81 ∷ 0x05 ∷ 0x96 ∷ 0xB9 ∷
    0x24 ∷ 0xCA ∷ 0x08 ∷
    0 ∷ 0 ∷ 0 ∷ 1 ∷ 0x44 ∷ 0x01 ∷ 0xC0 ∷ 0x71 ∷ 0x80 ∷ 0x12 ∷
    0 ∷ 0 ∷ 0 ∷ 1 ∷ 0x28 ∷ 0x01 ∷ 0xAF ∷ 0xC0 ∷ 0xE8 ∷ 0x73 ∷ 0x7F ∷ 0x80 ∷ []

grey_picture_of_eighty_bytes : encode_of one_block (grey 64 64 ∷ []) ≡ eighty_bytes
unfolding first_bytes lps_width next_variable first_variables shift_of log2_of sites blank_node sao_bins bins_of_node predicted_bins luma_mode_bins candModeList transform_tree_bins quarters_bins transform_unit_bins truncated_unary_bins no_units no_levels look_picture column_of row_of address_of crosses is_outside
grey_picture_of_eighty_bytes = refl

abbrev one_coded : CodedPicture
one_coded = record { header = idr_header 26; units = coded_units (sites 64 64) }

abbrev one_sequence : Sequence
one_sequence = record {
  size = record {
    pic_width_in_luma_samples = 64;
    pic_height_in_luma_samples = 64;
    conf_win_right_offset = 0;
    conf_win_bottom_offset = 0;
  };
  pictures = one_coded ∷ [];
}

pub eighty_bytes_parsed : parsed_of eighty_bytes ≡ Some (one_sequence ∷ [])
unfolding first_bytes lps_width next_variable first_variables shift_of log2_of sites sao coding_quadtree coding_unit intra_unit luma_mode candModeList mode_of_remaining truncated_unary transform_tree quarters transform_unit block_levels no_units no_levels look_picture column_of row_of address_of crosses is_outside blank_node
eighty_bytes_parsed = refl

one_block_valid : IsValid one_block
one_block_valid = record {
  even_width = refl;
  even_height = refl;
  width_least = omega arith;
  width_most = omega arith;
  height_least = omega arith;
  height_most = omega arith;
  group_samples = omega arith;
  qp = omega arith;
  levels = omega arith;
  group_least = omega arith;
  group_most = omega arith;
  workers_least = omega arith;
  workers_most = omega arith;
  effort = omega arith;
  segment_least = omega arith;
  segment_most = omega arith;
  pictures = omega arith;
}

one_grey : FlatPicturesAreShown →
    reconstructed 64 64 (idr_header 26) [] (coded_units (sites 64 64)) ≡ Some (grey 64 64)
one_grey flat =
    coded_units_grey blank_pictures_are_grey flat one_block one_block_valid (idr_header 26) []

one_shown : FlatPicturesAreShown →
    shown_of (one_sequence ∷ []) ≡ Some (crop (grey 64 64) 64 64 ∷ [])
one_shown flat = rw (one_grey flat) refl

pub eighty_bytes_decoded : FlatPicturesAreShown →
    decode_of eighty_bytes ≡ Some (crop (grey 64 64) 64 64 ∷ [])
eighty_bytes_decoded flat = ap (option_and_then shown_of) eighty_bytes_parsed ∙ one_shown flat

no_pictures_without_units : decode_of [] ≡ Some []
no_pictures_without_units = refl
