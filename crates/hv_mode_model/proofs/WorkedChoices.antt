-- Worked choices. The trees come from a program of its own, in another language, which chooses from
-- the same rules, and whose trees are those of another encoder's streams.
use Rattle.std.proofs.Common.{◌≡◌, ℕ, ◌+◌, ◌*◌, List, [], ◌∷◌, ◌++◌, refl, ℤ, pos, negsuc}
use Rattle.std.specs.Prelude.{cond, nat_lt}
use Rattle.hv_lemmas.specs.Lists.{tabulate}
use Rattle.hv_sample_model.specs.Blocks.{total_of, sum_of}
use Rattle.hv_sample_model.specs.IntraPrediction.{predicted}
use Rattle.hv_sample_model.specs.InverseTransform.{residual}
use Rattle.hv_sample_model.specs.Quantisation.{levels}
use Rattle.hv_residual_model.specs.Binarization.{truncated_unary_bins, exp_golomb_bins, remaining_bins}
use Rattle.hv_residual_model.specs.ScanOrder.{scan_order, block_position}
use Rattle.hv_residual_model.specs.ResidualSyntax.{positions}
use Rattle.hv_residual_model.specs.ResidualBins.{level_at, downwards, levels_below, last_significant, prefix_of, last_bins, sig_coeff_bins, greater1_bins, level_bins, sub_blocks_bins, bins_from, residual_bins}
use Rattle.hv_tree_model.specs.Trees.{Intra, Tree, Leaf, Split, Outside, no_levels, no_units}
use Rattle.hv_tree_model.specs.Sites.{sites, is_outside, column_of, row_of, crosses, address_of}
use Rattle.hv_tree_model.specs.EarlierUnits.{look_picture}
use Rattle.hv_tree_model.specs.MostProbableModes.{candModeList, remaining_of}
use Rattle.hv_unit_model.specs.Bins.{luma_mode_bins, bins_of_node, predicted_bins, transform_tree_bins, transform_unit_bins}
use Rattle.hv_recon_model.specs.Reconstruction.{nothing_decoded, square_at, decoded_block, decoded_tree}
use Rattle.hv_mode_model.specs.Differences.{tree_with_differences}
use Rattle.hv_mode_model.specs.ModeDecision.{best_trees, best, chosen, leaf, luma_mode, chosen_levels, chosen_units, score, cost_of, squared_errors}
use Rattle.hv_mode_model.proofs.WorkedPictures.{picture, task, first_given, zeros, first_only, unit_8, leaf_8, tree_of_8, tree_of_16}

-- a unit of 8x8 with these levels in luma alone
abbrev leaf_of : ℕ → List ℤ → Tree
leaf_of mode luma = Leaf (Intra mode)
    (record { luma = luma; cb = zeros 16; cr = zeros 16 } ∷ [])

-- units of one row of 64 columns, of which all but the first have mode planar and no level
abbrev row_of_8 : Tree → Tree
row_of_8 first =
    let plain = leaf_8 0 (pos 0) in
    Split
    (Split (Split first plain Outside Outside) (Split plain plain Outside Outside) Outside Outside)
    (Split (Split plain plain Outside Outside) (Split plain plain Outside Outside) Outside Outside)
    Outside Outside

-- what is chosen for an I picture, at this effort and quantiser
abbrev trees_of : ℕ → ℕ → ℕ → ℕ → (ℕ → ℕ → ℕ) → ℕ → ℕ → List Tree
trees_of effort qp width height luma cb cr =
    best_trees (task effort qp (picture width height luma cb cr)) (sites width height) []
    (nothing_decoded [])

-- Where nothing is decoded all modes predict 128, and the first that is tried is taken: planar.
flat_8 :
    trees_of 1 22 8 8 (λ x y. 128) 128 128 ≡ tree_of_8 (leaf_8 0 (pos 0)) ∷ []
unfolding best_trees best chosen leaf sites is_outside column_of row_of crosses luma_mode score luma_mode_bins candModeList remaining_of truncated_unary_bins look_picture address_of chosen_levels levels tabulate predicted total_of sum_of
flat_8 = refl

-- a slope, with levels in each component: the quantiser of chroma is 33
slope_8 :
    trees_of 1 34 8 8 (λ x y. 20 * x + 10 * y) 150 90 ≡
    tree_of_8 (Leaf (Intra 0)
    (record {
      luma = negsuc 5 ∷ negsuc 10 ∷ pos 0 ∷ negsuc 0 ∷ (zeros 4 ++ negsuc 5 ∷ zeros 55);
      cb = first_only 16 (pos 3);
      cr = first_only 16 (negsuc 4);
    } ∷ [])) ∷ []
unfolding best_trees best chosen leaf sites is_outside column_of row_of crosses luma_mode score luma_mode_bins candModeList remaining_of truncated_unary_bins look_picture address_of chosen_levels levels tabulate predicted total_of sum_of
slope_8 = refl

-- A left half of 40 and a right half of 200. One unit of 16x16 costs 21,360, and four of 8x8 cost
-- 6,512: the lower two follow those above, in DC and in the vertical mode.
edge_16 :
    trees_of 1 22 16 16 (λ x y. cond (nat_lt x 8) 40 200) 128 128 ≡
    tree_of_16 (Split (leaf_8 0 (negsuc 87)) (leaf_8 0 (pos 160)) (leaf_8 1 (pos 0))
    (leaf_8 26 (pos 0))) ∷ []
unfolding best_trees best chosen leaf sites is_outside column_of row_of crosses luma_mode score luma_mode_bins candModeList remaining_of truncated_unary_bins look_picture address_of chosen_levels levels tabulate predicted total_of sum_of decoded_tree decoded_block residual cost_of tree_with_differences squared_errors bins_of_node predicted_bins transform_tree_bins transform_unit_bins residual_bins level_at last_significant prefix_of last_bins block_position scan_order bins_from levels_below downwards sig_coeff_bins level_bins greater1_bins remaining_bins exp_golomb_bins sub_blocks_bins positions
edge_16 = refl

-- At the least quantiser a bin weighs nothing, so that a unit and four units cost the same: the
-- first that is tried stays.
equal_costs_16 :
    trees_of 1 0 16 16 (λ x y. 128) 128 128 ≡
    tree_of_16 (Leaf (Intra 0)
    (record { luma = zeros 256; cb = zeros 64; cr = zeros 64 } ∷ [])) ∷ []
unfolding best_trees best chosen leaf sites is_outside column_of row_of crosses luma_mode score luma_mode_bins candModeList remaining_of truncated_unary_bins look_picture address_of chosen_levels levels tabulate predicted total_of sum_of decoded_tree decoded_block residual cost_of tree_with_differences squared_errors bins_of_node predicted_bins transform_tree_bins transform_unit_bins residual_bins level_at last_significant prefix_of last_bins block_position scan_order bins_from levels_below downwards sig_coeff_bins level_bins greater1_bins remaining_bins exp_golomb_bins sub_blocks_bins positions
equal_costs_16 = refl

-- All modes are tried: two parts of a slanted edge take modes that effort 1 doesn't try.
slanted_16 :
    trees_of 2 22 16 16 (λ x y. cond (nat_lt (2 * x) (12 + y)) 40 200) 128 128 ≡
    tree_of_16 (Split
    (leaf_of 0
    (negsuc 77 ∷ negsuc 12 ∷ pos 11 ∷ negsuc 7 ∷ pos 5 ∷ negsuc 1 ∷ pos 1 ∷ pos 0 ∷ pos 12 ∷
    negsuc 15 ∷ pos 13 ∷ negsuc 8 ∷ pos 5 ∷ negsuc 1 ∷ pos 0 ∷ pos 0 ∷ pos 6 ∷ negsuc 7 ∷ pos 6 ∷
    negsuc 2 ∷ pos 0 ∷ pos 2 ∷ negsuc 1 ∷ pos 1 ∷ pos 2 ∷ negsuc 1 ∷ pos 0 ∷ pos 2 ∷ negsuc 3 ∷
    pos 5 ∷ negsuc 3 ∷ pos 2 ∷ pos 0 ∷ pos 0 ∷ negsuc 1 ∷ pos 3 ∷ negsuc 4 ∷ pos 5 ∷ negsuc 3 ∷
    pos 2 ∷ pos 1 ∷ negsuc 0 ∷ pos 0 ∷ pos 1 ∷ negsuc 2 ∷ pos 3 ∷ negsuc 2 ∷ pos 2 ∷ pos 3 ∷
    negsuc 2 ∷ pos 2 ∷ negsuc 0 ∷ pos 0 ∷ pos 1 ∷ negsuc 0 ∷ pos 1 ∷ pos 2 ∷ negsuc 2 ∷ pos 2 ∷
    negsuc 1 ∷ pos 1 ∷ pos 0 ∷ pos 0 ∷ pos 0 ∷ []))
    (leaf_of 20
    (pos 1 ∷ pos 4 ∷ pos 2 ∷ pos 0 ∷ negsuc 1 ∷ negsuc 0 ∷ negsuc 0 ∷ pos 0 ∷ negsuc 2 ∷
    negsuc 3 ∷ negsuc 0 ∷ pos 2 ∷ pos 3 ∷ pos 2 ∷ pos 1 ∷ pos 0 ∷ pos 1 ∷ pos 0 ∷ negsuc 0 ∷
    negsuc 2 ∷ negsuc 2 ∷ negsuc 0 ∷ pos 0 ∷ pos 0 ∷ pos 0 ∷ pos 0 ∷ pos 1 ∷ pos 1 ∷ pos 0 ∷
    negsuc 0 ∷ negsuc 1 ∷ negsuc 0 ∷ pos 0 ∷ pos 0 ∷ pos 0 ∷ pos 1 ∷ pos 2 ∷ pos 3 ∷ pos 3 ∷
    pos 2 ∷ pos 1 ∷ pos 1 ∷ pos 0 ∷ negsuc 0 ∷ negsuc 1 ∷ negsuc 2 ∷ negsuc 3 ∷ negsuc 1 ∷
    negsuc 1 ∷ negsuc 2 ∷ negsuc 1 ∷ negsuc 0 ∷ pos 1 ∷ pos 2 ∷ pos 2 ∷ pos 1 ∷ pos 2 ∷ pos 3 ∷
    pos 2 ∷ pos 1 ∷ pos 0 ∷ negsuc 0 ∷ negsuc 0 ∷ negsuc 0 ∷ []))
    (leaf_of 1 (zeros 64))
    (leaf_of 22
    (negsuc 1 ∷ pos 2 ∷ pos 3 ∷ negsuc 2 ∷ negsuc 0 ∷ pos 2 ∷ pos 0 ∷ pos 1 ∷ pos 5 ∷ negsuc 0 ∷
    negsuc 4 ∷ pos 4 ∷ negsuc 0 ∷ negsuc 1 ∷ pos 3 ∷ pos 0 ∷ pos 0 ∷ pos 3 ∷ negsuc 0 ∷
    negsuc 5 ∷ pos 3 ∷ pos 2 ∷ negsuc 1 ∷ pos 3 ∷ pos 1 ∷ pos 0 ∷ pos 1 ∷ pos 0 ∷ negsuc 5 ∷
    pos 2 ∷ pos 5 ∷ negsuc 2 ∷ pos 0 ∷ pos 1 ∷ pos 0 ∷ negsuc 1 ∷ pos 1 ∷ negsuc 2 ∷ negsuc 0 ∷
    pos 9 ∷ pos 2 ∷ pos 0 ∷ pos 0 ∷ pos 0 ∷ negsuc 3 ∷ negsuc 0 ∷ pos 4 ∷ pos 1 ∷ pos 0 ∷ pos 2 ∷
    pos 0 ∷ negsuc 4 ∷ pos 0 ∷ pos 4 ∷ pos 0 ∷ negsuc 0 ∷ pos 4 ∷ pos 0 ∷ negsuc 4 ∷ pos 0 ∷
    pos 2 ∷ pos 0 ∷ pos 0 ∷ pos 0 ∷ []))) ∷ []
unfolding best_trees best chosen leaf sites is_outside column_of row_of crosses luma_mode score luma_mode_bins candModeList remaining_of truncated_unary_bins look_picture address_of chosen_levels levels tabulate predicted total_of sum_of decoded_tree decoded_block residual cost_of tree_with_differences squared_errors bins_of_node predicted_bins transform_tree_bins transform_unit_bins residual_bins level_at last_significant prefix_of last_bins block_position scan_order bins_from levels_below downwards sig_coeff_bins level_bins greater1_bins remaining_bins exp_golomb_bins sub_blocks_bins positions
slanted_16 = refl

-- A row of two blocks: each unit follows the one at its left, also across the blocks.
row_72 :
    trees_of 1 30 72 8 (λ x y. cond (nat_lt x 64) 60 190) 128 128 ≡
    row_of_8 (leaf_8 0 (negsuc 26)) ∷ tree_of_8 (leaf_8 0 (pos 51)) ∷ []
unfolding best_trees best chosen leaf sites is_outside column_of row_of crosses luma_mode score luma_mode_bins candModeList remaining_of truncated_unary_bins look_picture address_of chosen_levels levels tabulate predicted total_of sum_of decoded_tree decoded_block residual
row_72 = refl

-- At effort 0 nothing is tried: each unit is of mode DC, without levels.
blank_24 :
    trees_of 0 22 24 8 (λ x y. 10 * x) 50 200 ≡
    Split (Split (Split (leaf_8 1 (pos 0)) (leaf_8 1 (pos 0)) Outside Outside)
    (Split (leaf_8 1 (pos 0)) Outside Outside Outside) Outside Outside) Outside Outside Outside ∷ []
unfolding best_trees best chosen sites is_outside column_of row_of crosses no_units no_levels
blank_24 = refl

-- A unit of 64x64 has four transform units, each predicted from those before it. So has one of
-- 16x16 here, where computing is short. The quantiser of chroma is 31.
quarters :
    chosen_units
    (first_given 1 32
    (picture 16 16 (λ x y. cond (nat_lt y 8) 138 (cond (nat_lt x 8) 150 90)) 150 100))
    (Intra 1) 3 (square_at 0 0 4) (nothing_decoded []) ≡
    unit_8 (pos 3) (pos 4) (negsuc 4) ∷ unit_8 (pos 0) (pos 0) (pos 0) ∷
    unit_8 (pos 4) (pos 0) (pos 0) ∷ unit_8 (negsuc 16) (pos 0) (pos 0) ∷ []
unfolding chosen_levels levels tabulate predicted total_of sum_of decoded_tree decoded_block residual
quarters = refl
