-- Worked samples of decoded pictures (8.4, 8.6), by hand. Residuals are flat: at quantiser 32 a
-- first level of 3 is 10 everywhere in 8x8 luma, and 17 in 4x4 chroma, whose quantiser is then 31.
use Rattle.std.proofs.Common.{◌≡◌, ℕ, List, [], ◌∷◌, refl, replicate, ℤ, pos}
use Rattle.std.specs.Prelude.{Option, Some, None, map, option_map}
use Rattle.hv_lemmas.specs.Lists.{tabulate}
use Rattle.hv_sample_model.specs.Blocks.{sum_of, total_of}
use Rattle.hv_sample_model.specs.IntraPrediction.{predicted}
use Rattle.hv_sample_model.specs.InverseTransform.{residual}
use Rattle.hv_tree_model.specs.Trees.{Intra, TransformUnit, Tree, Leaf, Split, Outside, no_levels}
use Rattle.hv_tree_model.specs.Sites.{sites}
use Rattle.hv_recon_model.specs.Reconstruction.{Component, Decoded, nothing_decoded, decoded_block, decoded_tree, decoded_trees}

abbrev first_only : ℕ → ℤ → List ℤ
first_only rest level = level ∷ replicate rest (pos 0)

-- a unit of 8x8 with this first level in luma and in Cb
abbrev leaf_8 : ℕ → ℤ → ℤ → Tree
leaf_8 mode luma cb =
    Leaf (Intra mode) (
    record { luma = first_only 63 luma; cb = first_only 15 cb; cr = first_only 15 (pos 0) } ∷ []
    )

-- what a component has at these places, a column and a row each
abbrev samples_at : List (ℕ × ℕ) → Component → List (Option ℕ)
samples_at places samples = map (λ place. samples place.0 place.1) places

-- Four units of 8x8. The first is 128 and 10 more, as nothing is decoded before it. The second is
-- DC of the first, whose lower left neighbours come later, and 10 more. The third, in mode 34, is
-- predicted from the second, above at the right; its neighbours there are 138 and 148, smoothed to
-- 141 and 146 where they meet. The fourth, in mode 2, follows the third at the left and, where
-- nothing is decoded below it, the lowest of that.
abbrev four_units : Option Decoded
four_units =
    decoded_tree 32 1 0 0
    (Split (leaf_8 1 (pos 3) (pos 3)) (leaf_8 1 (pos 3) (pos 0)) (leaf_8 34 (pos 0) (pos 0))
    (leaf_8 2 (pos 0) (pos 0)))
    (nothing_decoded [])

luma_of_four_units :
    option_map (λ d. samples_at
    ((0, 0) ∷ (7, 7) ∷ (8, 0) ∷ (15, 7) ∷ (5, 8) ∷ (6, 8) ∷ (7, 8) ∷ (0, 14) ∷ (7, 15) ∷ (8, 8) ∷
    (15, 15) ∷ (16, 0) ∷ []) d.luma) four_units ≡
    Some (Some 138 ∷ Some 138 ∷ Some 148 ∷ Some 148 ∷ Some 138 ∷ Some 141 ∷ Some 146 ∷ Some 141 ∷
    Some 148 ∷ Some 148 ∷ Some 148 ∷ None ∷ [])
unfolding decoded_tree decoded_block predicted residual tabulate sum_of total_of
luma_of_four_units = refl

-- 4x4 of Cb: 17 more in the first, which the second follows. What isn't coded is 128.
chroma_of_four_units :
    option_map (λ d. samples_at ((0, 0) ∷ (3, 3) ∷ (4, 0) ∷ (7, 3) ∷ []) d.cb) four_units ≡
    Some (Some 145 ∷ Some 145 ∷ Some 145 ∷ Some 145 ∷ [])
unfolding decoded_tree decoded_block predicted residual tabulate sum_of total_of
chroma_of_four_units = refl

cr_of_four_units :
    option_map (λ d. samples_at ((0, 0) ∷ (7, 7) ∷ []) d.cr) four_units ≡
    Some (Some 128 ∷ Some 128 ∷ [])
unfolding decoded_tree decoded_block predicted residual tabulate sum_of total_of
cr_of_four_units = refl

-- A unit of 64x64: four blocks of 32x32, each predicted from those before. A first level of 10 is 8
-- everywhere in 32x32 luma; the second quarter follows the first, and so do the others.
abbrev quarter_of : ℤ → TransformUnit
quarter_of luma =
    record { luma = first_only 1023 luma; cb = no_levels 4; cr = no_levels 4 }

quarters_of_64 :
    option_map (λ d. samples_at ((0, 0) ∷ (32, 0) ∷ (31, 32) ∷ (63, 63) ∷ []) d.luma)
    (decoded_tree 32 3 0 0
    (Leaf (Intra 1)
    (quarter_of (pos 10) ∷ quarter_of (pos 0) ∷ quarter_of (pos 0) ∷ quarter_of (pos 10) ∷ []))
    (nothing_decoded [])) ≡
    Some (Some 136 ∷ Some 136 ∷ Some 136 ∷ Some 144 ∷ [])
unfolding decoded_tree decoded_block predicted residual tabulate sum_of total_of no_levels
quarters_of_64 = refl

-- Two coding tree blocks, in raster order: the last unit of the first one has 10 more, and the
-- second block follows it. A picture of 72x8 has 8 units in its first block, and one in its second.
abbrev row_of_8 : Tree → Tree
row_of_8 last =
    let plain = leaf_8 1 (pos 0) (pos 0) in
    Split
    (Split (Split plain plain Outside Outside) (Split plain plain Outside Outside) Outside Outside)
    (Split (Split plain plain Outside Outside) (Split plain last Outside Outside) Outside Outside)
    Outside Outside

abbrev second_block : Tree
second_block =
    Split (Split (Split (leaf_8 1 (pos 0) (pos 0)) Outside Outside Outside) Outside Outside Outside)
    Outside Outside Outside

two_blocks :
    option_map (λ d. samples_at
    ((55, 0) ∷ (56, 0) ∷ (63, 7) ∷ (64, 0) ∷ (71, 7) ∷ (72, 0) ∷ []) d.luma)
    (decoded_trees 32 (sites 72 8) (row_of_8 (leaf_8 1 (pos 3) (pos 0)) ∷ second_block ∷ [])
    (nothing_decoded [])) ≡
    Some (Some 128 ∷ Some 138 ∷ Some 138 ∷ Some 138 ∷ Some 138 ∷ None ∷ [])
unfolding decoded_trees decoded_tree decoded_block predicted residual tabulate sum_of total_of sites
two_blocks = refl
