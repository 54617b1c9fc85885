-- Worked values of whole blocks and slices, and of what may be coded.
use Rattle.std.proofs.Common.{◌≡◌, ℕ, zero, suc, Bool, true, false, List, [], ◌∷◌, ◌++◌, refl, pos, negsuc, arith}
use Rattle.hv_tables.specs.declared.bins.CtxTable.{CtxTable}
use Rattle.hv_tables.specs.declared.bins.CtxTable.TheVariants.{Split, PrevIntra, ChromaMode, CbfLuma, CbfChroma, SaoMerge, SaoType}
use Rattle.hv_tables.specs.declared.bins.SliceKind.TheVariants.{I, P}
use Rattle.hv_tables.specs.Bins.{Bin, context_bin, bypass_bin, terminate_bin}
use Rattle.hv_plan.specs.declared.offsets.SaoKind.TheVariants.{Off, Band, Edge}
use Rattle.hv_plan.specs.declared.offsets.SaoParam.{SaoParam}
use Rattle.hv_residual_model.specs.Binarization.{truncated_unary_bins}
use Rattle.hv_tree_model.specs.Trees.{Motion, Intra, Inter, Tree, Leaf, Split as SplitTree, Outside, CodingTreeUnit, no_levels, no_units}
use Rattle.hv_tree_model.specs.Sites.{Site, site, sites, address_of, column_of, row_of, is_outside, crosses, must_split}
use Rattle.hv_tree_model.specs.EarlierUnits.{look_picture}
use Rattle.hv_tree_model.specs.MostProbableModes.{candModeList}
use Rattle.hv_tree_model.specs.Validity.{AreOffsets, IsPrediction, IsValidNode, IsValidTree, AreValid}
use Rattle.hv_unit_model.specs.BlockSyntax.{component}
use Rattle.hv_unit_model.specs.Bins.{sao_bins, luma_mode_bins, transform_tree_bins, quarters_bins, transform_unit_bins, predicted_bins, bins_of_node, slice_bins}
use Rattle.hv_unit_model.proofs.TransformLemmas.{no_units_valid}

-- ---- the blocks of a picture

one_site : sites 64 64 ≡ site 64 64 0 ∷ []
unfolding sites
one_site = refl

one_column : sites 64 128 ≡ site 64 128 0 ∷ site 64 128 1 ∷ []
unfolding sites
one_column = refl

one_sample_more : sites 65 64 ≡ site 65 64 0 ∷ site 65 64 1 ∷ []
unfolding sites
one_sample_more = refl

-- ---- flat slices

off : SaoParam
off = record {
  luma = component Off (pos 0 ∷ pos 0 ∷ pos 0 ∷ pos 0 ∷ []);
  cb = component Off (pos 0 ∷ pos 0 ∷ pos 0 ∷ pos 0 ∷ []);
  cr = component Off (pos 0 ∷ pos 0 ∷ pos 0 ∷ pos 0 ∷ []);
}

flat : ℕ → Tree
flat size = Leaf (Intra 1) (no_units size)

unit : Tree → Bool → CodingTreeUnit
unit tree last = record { sao = off; tree = tree; end_of_slice_segment_flag = last }

by_context : CtxTable → ℕ → Bool → Bin
by_context table ctxInc value = context_bin (record { table = table; index = ctxInc }) value

-- split_cu_flag, prev_intra_luma_pred_flag, mpm_idx, intra_chroma_pred_mode, cbf_cb, cbf_cr
flat_from : ℕ → List Bin
flat_from ctxInc =
    by_context Split ctxInc false ∷ by_context PrevIntra 0 true ∷
    bypass_bin true ∷ bypass_bin false ∷ by_context ChromaMode 0 false ∷
    by_context CbfChroma 0 false ∷ by_context CbfChroma 0 false ∷ []

-- and cbf_luma
flat_64 : List Bin
flat_64 =
    flat_from 0 ++
    (by_context CbfLuma 0 false ∷ by_context CbfLuma 0 false ∷
    by_context CbfLuma 0 false ∷ by_context CbfLuma 0 false ∷ [])

flat_below : ℕ → List Bin
flat_below ctxInc = flat_from ctxInc ++ by_context CbfLuma 1 false ∷ []

-- one unit of 64x64: sao_type_idx_luma, sao_type_idx_chroma, the unit, end_of_slice_segment_flag
flat_picture :
    slice_bins I 0 (sites 64 64) (unit (flat 3) true ∷ []) ≡
    by_context SaoType 0 false ∷ by_context SaoType 0 false ∷
    (flat_64 ++ terminate_bin true ∷ [])
unfolding sites off flat unit by_context flat_from flat_64 sao_bins bins_of_node predicted_bins luma_mode_bins candModeList transform_tree_bins quarters_bins transform_unit_bins truncated_unary_bins no_units no_levels look_picture column_of row_of address_of crosses is_outside
flat_picture = refl

-- two of them, side by side
two_flat_blocks :
    slice_bins I 0 (sites 128 64) (unit (flat 3) false ∷ unit (flat 3) true ∷ []) ≡
    by_context SaoType 0 false ∷ by_context SaoType 0 false ∷
    (flat_64 ++ (terminate_bin false ∷
    by_context SaoMerge 0 false ∷ by_context SaoType 0 false ∷ by_context SaoType 0 false ∷
    (flat_64 ++ terminate_bin true ∷ [])))
unfolding sites off flat unit by_context flat_from flat_64 sao_bins bins_of_node predicted_bins luma_mode_bins candModeList transform_tree_bins quarters_bins transform_unit_bins truncated_unary_bins no_units no_levels look_picture column_of row_of address_of crosses is_outside
two_flat_blocks = refl

-- 64x64, of which the first quarter is split again: the second, at the right of a deeper unit, and
-- the third, below one, have ctxInc 1
split_twice : Tree
split_twice =
    SplitTree (SplitTree (flat 1) (flat 1) (flat 1) (flat 1)) (flat 2) (flat 2) (flat 2)

bins_of_split_twice :
    slice_bins I 0 (sites 64 64) (unit split_twice true ∷ []) ≡
    by_context SaoType 0 false ∷ by_context SaoType 0 false ∷
    by_context Split 0 true ∷ by_context Split 0 true ∷
    (flat_below 0 ++ (flat_below 0 ++ (flat_below 0 ++ (flat_below 0 ++
    (flat_below 1 ++ (flat_below 1 ++ (flat_below 0 ++ terminate_bin true ∷ [])))))))
unfolding split_twice sites off flat unit by_context flat_from flat_below sao_bins bins_of_node predicted_bins luma_mode_bins candModeList transform_tree_bins transform_unit_bins truncated_unary_bins no_units no_levels look_picture column_of row_of address_of crosses is_outside
bins_of_split_twice = refl

-- the third quarter is split again: the fourth lies at its right
split_below : Tree
split_below =
    SplitTree (flat 2) (flat 2) (SplitTree (flat 1) (flat 1) (flat 1) (flat 1)) (flat 2)

bins_of_split_below :
    slice_bins I 0 (sites 64 64) (unit split_below true ∷ []) ≡
    by_context SaoType 0 false ∷ by_context SaoType 0 false ∷
    by_context Split 0 true ∷ (flat_below 0 ++ (flat_below 0 ++ (by_context Split 0 true ∷
    (flat_below 0 ++ (flat_below 0 ++ (flat_below 0 ++ (flat_below 0 ++
    (flat_below 1 ++ terminate_bin true ∷ []))))))))
unfolding split_below sites off flat unit by_context flat_from flat_below sao_bins bins_of_node predicted_bins luma_mode_bins candModeList transform_tree_bins transform_unit_bins truncated_unary_bins no_units no_levels look_picture column_of row_of address_of crosses is_outside
bins_of_split_below = refl

-- ---- what may be coded

-- the greatest and the least of each kind
extreme_offsets : SaoParam
extreme_offsets = record {
  luma = component (Edge 3) (pos 7 ∷ pos 0 ∷ negsuc 6 ∷ pos 0 ∷ []);
  cb = component (Band 31) (pos 7 ∷ negsuc 6 ∷ pos 0 ∷ negsuc 6 ∷ []);
  cr = component (Band 0) (negsuc 6 ∷ pos 7 ∷ pos 7 ∷ pos 7 ∷ []);
}

may_be_extreme : AreOffsets extreme_offsets
unfolding extreme_offsets
may_be_extreme = record {
  luma = record { kind = omega arith; offsets = refl };
  cb = record { kind = omega arith; offsets = refl };
  cr = record { kind = omega arith; offsets = refl };
  chroma = refl;
}

extreme_edges : SaoParam
extreme_edges = record {
  luma = component Off (pos 0 ∷ pos 0 ∷ pos 0 ∷ pos 0 ∷ []);
  cb = component (Edge 0) (pos 0 ∷ pos 7 ∷ pos 0 ∷ negsuc 6 ∷ []);
  cr = component (Edge 0) (pos 0 ∷ pos 0 ∷ pos 0 ∷ pos 0 ∷ []);
}

may_be_edges : AreOffsets extreme_edges
unfolding extreme_edges
may_be_edges = record {
  luma = record { kind = tt; offsets = refl };
  cb = record { kind = omega arith; offsets = refl };
  cr = record { kind = omega arith; offsets = refl };
  chroma = refl;
}

last_mode : IsPrediction I 0 (Intra 34)
last_mode = omega arith

extreme_motion : Motion
extreme_motion = record {
  ref_idx_l0 = 1;
  mvp_l0_flag = 1;
  MvdL0 = record { x = negsuc 32767; y = pos 32767 };
}

may_move : IsPrediction P 2 (Inter extreme_motion)
unfolding extreme_motion
may_move = record {
  most_references = omega arith;
  reference = omega arith;
  flag = omega arith;
  x = refl;
  y = refl;
}

inter_only_in_P : (motion : Motion) → IsPrediction I 2 (Inter motion) → ⊥
inter_only_in_P motion h = h

-- a slice of two blocks of 72x56: splits where the edge asks for them, and nowhere else
left_tree : Tree
left_tree =
    let low : Tree = SplitTree (flat 1) (flat 1)
    (SplitTree (flat 0) (flat 0) Outside Outside) (SplitTree (flat 0) (flat 0) Outside Outside) in
    SplitTree (flat 2) (flat 2) low low

right_tree : Tree
right_tree =
    let pair : Tree = SplitTree (flat 0) Outside (flat 0) Outside in
    SplitTree
    (SplitTree pair Outside pair Outside)
    Outside
    (SplitTree pair Outside (SplitTree (flat 0) Outside Outside Outside) Outside)
    Outside

flat_leaf : (site : Site) (size address : ℕ) → is_outside site address ≡ false →
    must_split site size address ≡ false → IsValidNode I 0 site size address (flat size)
unfolding IsValidNode flat
flat_leaf site zero address inside fits = (inside, fits, omega arith, no_units_valid zero)
flat_leaf site (suc size) address inside fits =
    (inside, fits, omega arith, no_units_valid (suc size))

no_offsets : AreOffsets off
unfolding off
no_offsets = record {
  luma = record { kind = tt; offsets = refl };
  cb = record { kind = tt; offsets = refl };
  cr = record { kind = tt; offsets = refl };
  chroma = refl;
}

left_is_valid : IsValidTree I 0 (site 72 56 0) left_tree
unfolding flat left_tree IsValidNode crosses is_outside column_of row_of
left_is_valid =
    let here : Site = site 72 56 0 in (
      refl,
      flat_leaf here 2 0 refl refl,
      flat_leaf here 2 16 refl refl,
      (
        refl,
        flat_leaf here 1 32 refl refl,
        flat_leaf here 1 36 refl refl,
        (refl, flat_leaf here 0 40 refl refl, flat_leaf here 0 41 refl refl, refl, refl),
        (refl, flat_leaf here 0 44 refl refl, flat_leaf here 0 45 refl refl, refl, refl),
      ),
      (
        refl,
        flat_leaf here 1 48 refl refl,
        flat_leaf here 1 52 refl refl,
        (refl, flat_leaf here 0 56 refl refl, flat_leaf here 0 57 refl refl, refl, refl),
        (refl, flat_leaf here 0 60 refl refl, flat_leaf here 0 61 refl refl, refl, refl),
      ),
    )

right_is_valid : IsValidTree I 0 (site 72 56 1) right_tree
unfolding flat right_tree IsValidNode crosses is_outside column_of row_of
right_is_valid =
    let here : Site = site 72 56 1 in (
      refl,
      (
        refl,
        (refl, flat_leaf here 0 0 refl refl, refl, flat_leaf here 0 2 refl refl, refl),
        refl,
        (refl, flat_leaf here 0 8 refl refl, refl, flat_leaf here 0 10 refl refl, refl),
        refl,
      ),
      refl,
      (
        refl,
        (refl, flat_leaf here 0 32 refl refl, refl, flat_leaf here 0 34 refl refl, refl),
        refl,
        (refl, flat_leaf here 0 40 refl refl, refl, refl, refl),
        refl,
      ),
      refl,
    )

slice_of_72x56 : AreValid I 0 (sites 72 56) (unit left_tree false ∷ unit right_tree true ∷ [])
unfolding sites unit
slice_of_72x56 =
    (no_offsets, left_is_valid, refl, (no_offsets, right_is_valid, refl, tt))
