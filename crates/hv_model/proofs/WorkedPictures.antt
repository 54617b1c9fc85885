-- What is decoded of pictures, computed by the definitions.
use Rattle.std.proofs.Common.{◌≡◌, ℕ, true, List, [], ◌∷◌, refl}
use Rattle.std.specs.Prelude.{Some, None, replicate, pos, negsuc}
use Rattle.std.specs.List.{concat}
use Rattle.hv_lemmas.specs.Lists.{tabulate}
use Rattle.hv_types.specs.Samples.{plane_by_rows}
use Rattle.hv_plan.specs.declared.offsets.SaoKind.TheVariants.{Band}
use Rattle.hv_stream_model.specs.Bits.{first_bytes}
use Rattle.hv_entropy_model.specs.Contexts.{lps_width, next_variable, first_variables}
use Rattle.hv_entropy_model.specs.CodeWord.{shift_of}
use Rattle.hv_stream_model.specs.Fields.{log2_of}
use Rattle.hv_residual_model.specs.Binarization.{truncated_unary, exp_golomb, coeff_abs_level_remaining}
use Rattle.hv_residual_model.specs.ScanOrder.{scan_order, block_position, block_number}
use Rattle.hv_residual_model.specs.ResidualSyntax.{last_sig_coeff, sig_coeff_flags, greater1_flags, levels_of_flags, positions, sub_blocks_below, residual_coding}
use Rattle.hv_sample_model.specs.Blocks.{sum_of, total_of}
use Rattle.hv_sample_model.specs.IntraPrediction.{predicted}
use Rattle.hv_sample_model.specs.InverseTransform.{residual}
use Rattle.hv_tree_model.specs.Trees.{Motion, Intra, Inter, Tree, Leaf, Split, Outside, CodingTreeUnit, no_levels, no_units}
use Rattle.hv_tree_model.specs.Sites.{sites, column_of, row_of, address_of, crosses, is_outside}
use Rattle.hv_tree_model.specs.EarlierUnits.{look_picture}
use Rattle.hv_tree_model.specs.MostProbableModes.{candModeList, mode_of_remaining}
use Rattle.hv_vector_model.specs.Vectors.{trees_with_vectors, tree_with_vectors}
use Rattle.hv_unit_model.specs.BlockSyntax.{sao, luma_mode, block_levels, transform_unit, quarters, transform_tree, intra_unit, coding_unit, coding_quadtree}
use Rattle.hv_recon_model.specs.Reconstruction.{decoded_block, decoded_tree, decoded_trees, unfiltered}
use Rattle.hv_slice_model.specs.BlankUnits.{no_offset, no_offsets}
use Rattle.hv_slice_model.specs.Slices.{idr_header}
use Rattle.hv_model.specs.Reconstruction.{unfiltered_picture, reconstructed}
use Rattle.hv_model.specs.Decoding.{decode_of}

-- ---- a stream

-- a picture of 8x8 as another encoder writes it at quantiser 37
abbrev ramp : List ℕ
ramp =
    0x00 ∷ 0x00 ∷ 0x00 ∷ 0x01 ∷ 0x40 ∷ 0x01 ∷ 0x0C ∷ 0x01 ∷ 0xFF ∷ 0xFF ∷ 0x01 ∷ 0x60 ∷ 0x00 ∷
    0x00 ∷ 0x03 ∷ 0x00 ∷ 0x90 ∷ 0x00 ∷ 0x00 ∷ 0x03 ∷ 0x00 ∷ 0x00 ∷ 0x03 ∷ 0x00 ∷ 0x99 ∷ 0xAC ∷
    0x09 ∷
    0x00 ∷ 0x00 ∷ 0x00 ∷ 0x01 ∷ 0x42 ∷ 0x01 ∷ 0x01 ∷ 0x01 ∷ 0x60 ∷ 0x00 ∷ 0x00 ∷ 0x03 ∷ 0x00 ∷
    0x90 ∷ 0x00 ∷ 0x00 ∷ 0x03 ∷ 0x00 ∷ 0x00 ∷ 0x03 ∷ 0x00 ∷ 0x99 ∷ 0xA1 ∷ 0x22 ∷ 0x59 ∷ 0x6B ∷
    0x92 ∷ 0x4C ∷ 0xA0 ∷ 0x80 ∷
    0x00 ∷ 0x00 ∷ 0x00 ∷ 0x01 ∷ 0x44 ∷ 0x01 ∷ 0xC0 ∷ 0x71 ∷ 0x80 ∷ 0x12 ∷
    0x00 ∷ 0x00 ∷ 0x00 ∷ 0x01 ∷ 0x28 ∷ 0x01 ∷ 0xAF ∷ 0x0B ∷ 0x40 ∷ 0xF6 ∷ 0xAA ∷ 0x3C ∷ 0xFC ∷
    0x62 ∷ 0xBB ∷ 0x50 ∷ 0xA1 ∷ 0xC0 ∷ []

-- its samples, as another decoder shows them
ramp_shown : decode_of ramp ≡ Some (
    record {
      luma = plane_by_rows 8 8 (
          5 ∷ 7 ∷ 9 ∷ 12 ∷ 15 ∷ 18 ∷ 20 ∷ 21 ∷
          7 ∷ 8 ∷ 10 ∷ 13 ∷ 16 ∷ 19 ∷ 21 ∷ 22 ∷
          9 ∷ 10 ∷ 12 ∷ 15 ∷ 18 ∷ 21 ∷ 23 ∷ 25 ∷
          12 ∷ 13 ∷ 15 ∷ 18 ∷ 21 ∷ 24 ∷ 26 ∷ 27 ∷
          15 ∷ 16 ∷ 18 ∷ 21 ∷ 24 ∷ 27 ∷ 29 ∷ 31 ∷
          18 ∷ 19 ∷ 21 ∷ 24 ∷ 27 ∷ 30 ∷ 32 ∷ 33 ∷
          20 ∷ 21 ∷ 23 ∷ 26 ∷ 29 ∷ 32 ∷ 34 ∷ 36 ∷
          21 ∷ 22 ∷ 25 ∷ 27 ∷ 31 ∷ 33 ∷ 36 ∷ 37 ∷ []
          );
      cb = plane_by_rows 4 4 (replicate 16 48);
      cr = plane_by_rows 4 4 (replicate 16 88);
    } ∷ []
    )
unfolding first_bytes lps_width next_variable first_variables shift_of log2_of sites sao coding_quadtree coding_unit intra_unit luma_mode candModeList mode_of_remaining truncated_unary transform_tree quarters transform_unit block_levels no_units no_levels look_picture column_of row_of address_of crosses is_outside residual_coding last_sig_coeff sig_coeff_flags greater1_flags levels_of_flags positions sub_blocks_below coeff_abs_level_remaining exp_golomb scan_order block_position block_number tabulate decoded_block decoded_tree decoded_trees unfiltered trees_with_vectors tree_with_vectors predicted residual sum_of total_of
ramp_shown = refl

-- ---- units

-- an intra unit of 8x8 of mode DC, whose first level in luma is 3: 10 more in each sample at
-- quantiser 32
abbrev raised : Tree
raised =
    Leaf (Intra 1) (
    record { luma = pos 3 ∷ replicate 63 (pos 0); cb = no_levels 2; cr = no_levels 2 } ∷ []
    )

-- two of them side by side in a picture of 16x8, with offsets for the two bands from 136 on
abbrev two_raised : CodingTreeUnit
two_raised = record {
  sao = record {
    luma = record { kind = Band 17; offsets = pos 5 ∷ negsuc 2 ∷ pos 0 ∷ pos 0 ∷ [] };
    cb = no_offset;
    cr = no_offset;
  };
  tree =
      Split (Split (Split raised raised Outside Outside) Outside Outside Outside)
      Outside Outside Outside;
  end_of_slice_segment_flag = true;
}

-- before the filters 138 and 148: the edge between them is smoothed to 138 139 141 145 147 148, and
-- then 5 is added up to 143 and 3 is subtracted above
two_raised_shown : reconstructed 16 8 (idr_header 32) [] (two_raised ∷ []) ≡ Some (record {
  luma = plane_by_rows 16 8 (concat (replicate 8 (
      143 ∷ 143 ∷ 143 ∷ 143 ∷ 143 ∷ 143 ∷ 144 ∷ 146 ∷
      142 ∷ 144 ∷ 145 ∷ 145 ∷ 145 ∷ 145 ∷ 145 ∷ 145 ∷ [])));
  cb = plane_by_rows 8 4 (replicate 32 128);
  cr = plane_by_rows 8 4 (replicate 32 128);
})
unfolding sites address_of no_levels tabulate decoded_block decoded_tree decoded_trees unfiltered trees_with_vectors tree_with_vectors predicted residual sum_of total_of
two_raised_shown = refl

-- a unit that names a picture which list 0 doesn't have has no samples
abbrev still : Motion
still = record { ref_idx_l0 = 0; mvp_l0_flag = 0; MvdL0 = record { x = pos 0; y = pos 0 } }

nothing_of_others :
    unfiltered_picture 64 64 (idr_header 32) []
    (record {
      sao = no_offsets;
      tree = Leaf (Inter still) (no_units 3);
      end_of_slice_segment_flag = true;
    } ∷ []) ≡ None
unfolding sites no_units decoded_block decoded_tree decoded_trees unfiltered trees_with_vectors tree_with_vectors
nothing_of_others = refl
