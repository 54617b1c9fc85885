-- What is decoded of pictures that are predicted from others, computed by the definitions.
use Rattle.std.proofs.Common.{◌≡◌, ℕ, ◌+◌, ◌*◌, true, List, [], ◌∷◌, refl, map}
use Rattle.std.specs.Prelude.{Some, option_map, pos, ℤ}
use Rattle.std.specs.Int.{int_wrap}
use Rattle.hv_lemmas.specs.Lists.{tabulate}
use Rattle.hv_types.specs.declared.picture.Picture.{Picture}
use Rattle.hv_types.specs.Samples.{plane_by_rows, plane_of, sample_at}
use Rattle.hv_tables.specs.declared.bins.SliceKind.TheVariants.{P}
use Rattle.hv_stream_model.specs.Bits.{first_bytes}
use Rattle.hv_stream_model.specs.Headers.{SliceHeader}
use Rattle.hv_entropy_model.specs.Contexts.{lps_width, next_variable, first_variables}
use Rattle.hv_entropy_model.specs.CodeWord.{shift_of}
use Rattle.hv_stream_model.specs.Fields.{log2_of}
use Rattle.hv_residual_model.specs.Binarization.{truncated_unary, exp_golomb, coeff_abs_level_remaining}
use Rattle.hv_residual_model.specs.ScanOrder.{scan_order, block_position, block_number}
use Rattle.hv_residual_model.specs.ResidualSyntax.{last_sig_coeff, sig_coeff_flags, greater1_flags, levels_of_flags, positions, sub_blocks_below, residual_coding}
use Rattle.hv_sample_model.specs.Blocks.{sum_of, total_of}
use Rattle.hv_sample_model.specs.IntraPrediction.{predicted}
use Rattle.hv_sample_model.specs.InverseTransform.{residual}
use Rattle.hv_inter_model.specs.Interpolation.{inter_predicted}
use Rattle.hv_tree_model.specs.Trees.{Inter, Tree, Leaf, Split, Outside, CodingTreeUnit, no_levels, no_units}
use Rattle.hv_tree_model.specs.Sites.{sites, column_of, row_of, address_of, crosses, is_outside}
use Rattle.hv_tree_model.specs.EarlierUnits.{look_picture}
use Rattle.hv_tree_model.specs.MostProbableModes.{candModeList, mode_of_remaining}
use Rattle.hv_vector_model.specs.VectorPrediction.{distance, scaled}
use Rattle.hv_vector_model.specs.Vectors.{trees_with_vectors, tree_with_vectors}
use Rattle.hv_unit_model.specs.BlockSyntax.{sao, luma_mode, mvd_coding, prediction_unit, block_levels, transform_unit, quarters, transform_tree, intra_unit, inter_unit, coding_unit, coding_quadtree}
use Rattle.hv_recon_model.specs.Reconstruction.{decoded_block, decoded_tree, decoded_trees, unfiltered}
use Rattle.hv_slice_model.specs.BlankUnits.{no_offsets}
use Rattle.hv_model.specs.Reconstruction.{DecodedPicture, unfiltered_picture}
use Rattle.hv_model.specs.Decoding.{decode_of}

-- ---- a stream

-- five pictures of 8x8 as another encoder writes them, at quantiser 27 and one level above the
-- lowest: the last ones of each two refer to the one before them and the one behind
abbrev moving_ramp : List ℕ
moving_ramp =
    0x00 ∷ 0x00 ∷ 0x00 ∷ 0x01 ∷ 0x40 ∷ 0x01 ∷ 0x0C ∷ 0x01 ∷ 0xFF ∷ 0xFF ∷ 0x01 ∷ 0x60 ∷ 0x00 ∷
    0x00 ∷ 0x03 ∷ 0x00 ∷ 0x90 ∷ 0x00 ∷ 0x00 ∷ 0x03 ∷ 0x00 ∷ 0x00 ∷ 0x03 ∷ 0x00 ∷ 0x99 ∷ 0xB5 ∷
    0x02 ∷ 0x40 ∷
    0x00 ∷ 0x00 ∷ 0x00 ∷ 0x01 ∷ 0x42 ∷ 0x01 ∷ 0x01 ∷ 0x01 ∷ 0x60 ∷ 0x00 ∷ 0x00 ∷ 0x03 ∷ 0x00 ∷
    0x90 ∷ 0x00 ∷ 0x00 ∷ 0x03 ∷ 0x00 ∷ 0x00 ∷ 0x03 ∷ 0x00 ∷ 0x99 ∷ 0xA1 ∷ 0x22 ∷ 0x59 ∷ 0x6D ∷
    0x64 ∷ 0x93 ∷ 0x28 ∷ 0x20 ∷
    0x00 ∷ 0x00 ∷ 0x00 ∷ 0x01 ∷ 0x44 ∷ 0x01 ∷ 0xC0 ∷ 0x71 ∷ 0x80 ∷ 0x12 ∷
    0x00 ∷ 0x00 ∷ 0x00 ∷ 0x01 ∷ 0x28 ∷ 0x01 ∷ 0xAF ∷ 0x50 ∷ 0xE7 ∷ 0xB2 ∷ 0x44 ∷ 0x9A ∷ 0x34 ∷
    0x8D ∷ 0x3E ∷ 0x5D ∷ 0xCF ∷ 0xE7 ∷ 0xEC ∷
    0x00 ∷ 0x00 ∷ 0x00 ∷ 0x01 ∷ 0x02 ∷ 0x01 ∷ 0xD0 ∷ 0x11 ∷ 0x57 ∷ 0xCA ∷ 0x48 ∷ 0xED ∷ 0x50 ∷
    0xAB ∷ 0x37 ∷ 0xC6 ∷ 0x3F ∷ 0x8E ∷ 0x60 ∷
    0x00 ∷ 0x00 ∷ 0x00 ∷ 0x01 ∷ 0x02 ∷ 0x01 ∷ 0xD0 ∷ 0x09 ∷ 0x2F ∷ 0xE8 ∷ 0xA6 ∷ 0x80 ∷ 0xED ∷
    0x2B ∷ 0x5F ∷ 0xC4 ∷
    0x00 ∷ 0x00 ∷ 0x00 ∷ 0x01 ∷ 0x02 ∷ 0x01 ∷ 0xD0 ∷ 0x21 ∷ 0x57 ∷ 0xCA ∷ 0x48 ∷ 0xF7 ∷ 0x61 ∷
    0xDC ∷ 0x30 ∷ 0x1C ∷ 0x80 ∷ 0x09 ∷ 0x8F ∷ 0x62 ∷ 0x8B ∷ 0x7B ∷ 0x80 ∷
    0x00 ∷ 0x00 ∷ 0x00 ∷ 0x01 ∷ 0x02 ∷ 0x01 ∷ 0xD0 ∷ 0x19 ∷ 0x2F ∷ 0xE8 ∷ 0xA6 ∷ 0x80 ∷ 0xED ∷
    0x2B ∷ 0x62 ∷ 0xAE ∷ 0xDE ∷ 0xD0 ∷ []

abbrev shown : List ℕ → List ℕ → List ℕ → Picture
shown luma cb cr = record {
  luma = plane_by_rows 8 8 luma;
  cb = plane_by_rows 4 4 cb;
  cr = plane_by_rows 4 4 cr;
}

-- their samples, as other decoders show them
moving_ramp_shown :
    decode_of moving_ramp ≡
    Some (
    shown
    (3 ∷ 3 ∷ 5 ∷ 7 ∷ 9 ∷ 10 ∷ 12 ∷ 13 ∷
    4 ∷ 5 ∷ 6 ∷ 8 ∷ 10 ∷ 12 ∷ 13 ∷ 14 ∷
    7 ∷ 8 ∷ 9 ∷ 11 ∷ 13 ∷ 15 ∷ 16 ∷ 17 ∷
    11 ∷ 11 ∷ 13 ∷ 15 ∷ 17 ∷ 18 ∷ 20 ∷ 21 ∷
    15 ∷ 15 ∷ 17 ∷ 19 ∷ 21 ∷ 22 ∷ 24 ∷ 25 ∷
    18 ∷ 19 ∷ 20 ∷ 22 ∷ 24 ∷ 26 ∷ 27 ∷ 28 ∷
    21 ∷ 22 ∷ 23 ∷ 25 ∷ 27 ∷ 29 ∷ 30 ∷ 31 ∷
    23 ∷ 23 ∷ 25 ∷ 26 ∷ 28 ∷ 30 ∷ 32 ∷ 32 ∷ [])
    (45 ∷ 45 ∷ 45 ∷ 45 ∷ 48 ∷ 48 ∷ 48 ∷ 48 ∷
    52 ∷ 52 ∷ 52 ∷ 52 ∷ 54 ∷ 54 ∷ 54 ∷ 54 ∷ [])
    (84 ∷ 84 ∷ 84 ∷ 84 ∷ 87 ∷ 87 ∷ 87 ∷ 87 ∷
    91 ∷ 91 ∷ 91 ∷ 91 ∷ 93 ∷ 93 ∷ 93 ∷ 93 ∷ []) ∷
    shown
    (5 ∷ 6 ∷ 8 ∷ 10 ∷ 12 ∷ 13 ∷ 14 ∷ 14 ∷
    8 ∷ 9 ∷ 11 ∷ 13 ∷ 15 ∷ 16 ∷ 17 ∷ 17 ∷
    11 ∷ 13 ∷ 15 ∷ 17 ∷ 18 ∷ 20 ∷ 21 ∷ 21 ∷
    15 ∷ 17 ∷ 19 ∷ 21 ∷ 22 ∷ 24 ∷ 25 ∷ 25 ∷
    19 ∷ 20 ∷ 22 ∷ 24 ∷ 26 ∷ 27 ∷ 28 ∷ 28 ∷
    22 ∷ 23 ∷ 25 ∷ 27 ∷ 29 ∷ 30 ∷ 31 ∷ 31 ∷
    23 ∷ 25 ∷ 26 ∷ 28 ∷ 30 ∷ 32 ∷ 32 ∷ 32 ∷
    23 ∷ 25 ∷ 26 ∷ 28 ∷ 30 ∷ 32 ∷ 32 ∷ 32 ∷ [])
    (46 ∷ 46 ∷ 46 ∷ 46 ∷ 50 ∷ 50 ∷ 50 ∷ 50 ∷
    53 ∷ 53 ∷ 53 ∷ 53 ∷ 54 ∷ 54 ∷ 54 ∷ 54 ∷ [])
    (85 ∷ 85 ∷ 85 ∷ 85 ∷ 89 ∷ 89 ∷ 89 ∷ 89 ∷
    92 ∷ 92 ∷ 92 ∷ 92 ∷ 93 ∷ 93 ∷ 93 ∷ 93 ∷ []) ∷
    shown
    (8 ∷ 10 ∷ 13 ∷ 16 ∷ 18 ∷ 20 ∷ 21 ∷ 22 ∷
    11 ∷ 13 ∷ 16 ∷ 18 ∷ 21 ∷ 23 ∷ 24 ∷ 25 ∷
    14 ∷ 16 ∷ 19 ∷ 21 ∷ 24 ∷ 26 ∷ 27 ∷ 27 ∷
    16 ∷ 19 ∷ 21 ∷ 24 ∷ 26 ∷ 28 ∷ 29 ∷ 30 ∷
    20 ∷ 23 ∷ 25 ∷ 28 ∷ 31 ∷ 33 ∷ 33 ∷ 34 ∷
    25 ∷ 26 ∷ 29 ∷ 32 ∷ 35 ∷ 36 ∷ 37 ∷ 37 ∷
    28 ∷ 29 ∷ 32 ∷ 35 ∷ 38 ∷ 39 ∷ 40 ∷ 40 ∷
    30 ∷ 31 ∷ 34 ∷ 37 ∷ 40 ∷ 41 ∷ 42 ∷ 42 ∷ [])
    (52 ∷ 52 ∷ 52 ∷ 52 ∷ 56 ∷ 56 ∷ 56 ∷ 56 ∷
    58 ∷ 58 ∷ 58 ∷ 58 ∷ 58 ∷ 58 ∷ 58 ∷ 58 ∷ [])
    (91 ∷ 91 ∷ 91 ∷ 91 ∷ 95 ∷ 95 ∷ 95 ∷ 95 ∷
    97 ∷ 97 ∷ 97 ∷ 97 ∷ 97 ∷ 97 ∷ 97 ∷ 97 ∷ []) ∷
    shown
    (13 ∷ 16 ∷ 18 ∷ 21 ∷ 23 ∷ 24 ∷ 25 ∷ 25 ∷
    16 ∷ 19 ∷ 21 ∷ 24 ∷ 26 ∷ 27 ∷ 27 ∷ 27 ∷
    19 ∷ 21 ∷ 24 ∷ 26 ∷ 28 ∷ 29 ∷ 30 ∷ 30 ∷
    23 ∷ 25 ∷ 28 ∷ 31 ∷ 33 ∷ 33 ∷ 34 ∷ 34 ∷
    26 ∷ 29 ∷ 32 ∷ 35 ∷ 36 ∷ 37 ∷ 37 ∷ 37 ∷
    29 ∷ 32 ∷ 35 ∷ 38 ∷ 39 ∷ 40 ∷ 40 ∷ 40 ∷
    31 ∷ 34 ∷ 37 ∷ 40 ∷ 41 ∷ 42 ∷ 42 ∷ 42 ∷
    31 ∷ 34 ∷ 37 ∷ 40 ∷ 41 ∷ 42 ∷ 42 ∷ 42 ∷ [])
    (59 ∷ 59 ∷ 59 ∷ 59 ∷ 62 ∷ 62 ∷ 62 ∷ 62 ∷
    63 ∷ 63 ∷ 63 ∷ 63 ∷ 63 ∷ 63 ∷ 63 ∷ 63 ∷ [])
    (98 ∷ 98 ∷ 98 ∷ 98 ∷ 101 ∷ 101 ∷ 101 ∷ 101 ∷
    102 ∷ 102 ∷ 102 ∷ 102 ∷ 102 ∷ 102 ∷ 102 ∷ 102 ∷ []) ∷
    shown
    (24 ∷ 25 ∷ 27 ∷ 29 ∷ 31 ∷ 33 ∷ 34 ∷ 35 ∷
    25 ∷ 26 ∷ 28 ∷ 30 ∷ 32 ∷ 34 ∷ 36 ∷ 37 ∷
    28 ∷ 29 ∷ 30 ∷ 32 ∷ 34 ∷ 36 ∷ 38 ∷ 39 ∷
    31 ∷ 32 ∷ 33 ∷ 35 ∷ 37 ∷ 39 ∷ 41 ∷ 42 ∷
    34 ∷ 35 ∷ 37 ∷ 39 ∷ 41 ∷ 43 ∷ 44 ∷ 45 ∷
    37 ∷ 38 ∷ 40 ∷ 42 ∷ 44 ∷ 46 ∷ 47 ∷ 48 ∷
    39 ∷ 40 ∷ 42 ∷ 44 ∷ 46 ∷ 48 ∷ 50 ∷ 51 ∷
    41 ∷ 42 ∷ 43 ∷ 45 ∷ 47 ∷ 49 ∷ 51 ∷ 52 ∷ [])
    (63 ∷ 63 ∷ 63 ∷ 63 ∷ 66 ∷ 66 ∷ 66 ∷ 66 ∷
    70 ∷ 70 ∷ 70 ∷ 70 ∷ 73 ∷ 73 ∷ 73 ∷ 73 ∷ [])
    (103 ∷ 103 ∷ 103 ∷ 103 ∷ 106 ∷ 106 ∷ 106 ∷ 106 ∷
    110 ∷ 110 ∷ 110 ∷ 110 ∷ 113 ∷ 113 ∷ 113 ∷ 113 ∷ []) ∷
    [])
unfolding first_bytes lps_width next_variable first_variables shift_of log2_of sites sao coding_quadtree coding_unit intra_unit inter_unit prediction_unit mvd_coding luma_mode candModeList mode_of_remaining truncated_unary transform_tree quarters transform_unit block_levels no_units no_levels look_picture column_of row_of address_of crosses is_outside residual_coding last_sig_coeff sig_coeff_flags greater1_flags levels_of_flags positions sub_blocks_below coeff_abs_level_remaining exp_golomb scan_order block_position block_number tabulate decoded_block decoded_tree decoded_trees unfiltered trees_with_vectors tree_with_vectors distance scaled int_wrap inter_predicted predicted residual sum_of total_of
moving_ramp_shown = refl

-- ---- vectors from units before

-- a picture of 24x8 whose samples of luma tell column and row
abbrev places : ℕ → Picture
places offset = record {
  luma = plane_of 24 8 (λ x y. offset + 8 * x + y);
  cb = plane_of 12 4 (λ x y. 128);
  cr = plane_of 12 4 (λ x y. 128);
}

-- the entries of list 0: two pictures before this one, and four behind it
abbrev references : List DecodedPicture
references =
    record { PicOrderCntVal = 8; picture = places 0 } ∷
    record { PicOrderCntVal = 14; picture = places 7 } ∷ []

abbrev header : SliceHeader
header = record {
  slice_type = P;
  slice_pic_order_cnt_lsb = 10;
  references = record { before = []; after = [] };
  qp = 32;
}

-- a unit of 8x8 of an entry, with a difference of its vector in quarters of a sample
abbrev unit : ℕ → ℤ → ℤ → Tree
unit reference x y =
    Leaf
    (Inter (record { ref_idx_l0 = reference; mvp_l0_flag = 0; MvdL0 = record { x = x; y = y } }))
    (no_units 0)

-- The first unit has the vector (8, 0), its difference. The second is predicted by it and has
-- (8, 4). The third refers to the other picture: (8, 4) over a distance of 2 is (-16, -8) over -4,
-- and with its difference (-8, -8).
abbrev three_units : CodingTreeUnit
three_units = record {
  sao = no_offsets;
  tree =
      Split
      (Split
      (Split (unit 0 (pos 8) (pos 0)) (unit 0 (pos 0) (pos 4)) Outside Outside)
      (Split (unit 1 (pos 8) (pos 0)) Outside Outside Outside) Outside Outside)
      Outside Outside Outside;
  end_of_slice_segment_flag = true;
}

abbrev luma_at : List (ℕ × ℕ) → Picture → List ℕ
luma_at places picture = map (λ place. sample_at picture.luma place.0 place.1) places

-- two samples to the right; those and one down; two to the left and two up
vectors_are_predicted :
    option_map (luma_at ((0, 0) ∷ (7, 7) ∷ (8, 0) ∷ (15, 6) ∷ (15, 7) ∷ (16, 2) ∷ (23, 7) ∷ []))
    (unfiltered_picture 24 8 header references (three_units ∷ [])) ≡
    Some (16 ∷ 79 ∷ 81 ∷ 143 ∷ 143 ∷ 119 ∷ 180 ∷ [])
unfolding sites address_of column_of row_of look_picture no_units no_levels tabulate decoded_block decoded_tree decoded_trees unfiltered trees_with_vectors tree_with_vectors distance scaled int_wrap inter_predicted residual sum_of total_of
vectors_are_predicted = refl
