-- Which trees are blank, and grey pictures, computed by the definitions.
use Rattle.std.proofs.Common.{◌≡◌, ℕ, Bool, true, false, List, [], ◌∷◌, ◌++◌, map, replicate, refl, ℤ, pos, negsuc}
use Rattle.std.specs.Prelude.{Some}
use Rattle.hv_types.specs.Samples.{plane_by_rows}
use Rattle.hv_lemmas.specs.Lists.{tabulate}
use Rattle.hv_sample_model.specs.Blocks.{sum_of, total_of}
use Rattle.hv_sample_model.specs.IntraPrediction.{predicted}
use Rattle.hv_sample_model.specs.InverseTransform.{residual}
use Rattle.hv_tree_model.specs.Trees.{Motion, Intra, Inter, Tree, Leaf, Split, Outside, no_levels, no_units}
use Rattle.hv_tree_model.specs.Sites.{sites}
use Rattle.hv_recon_model.specs.Reconstruction.{decoded_block, decoded_tree, decoded_trees, unfiltered}
use Rattle.hv_recon_model.specs.BlankLaws.{is_blank_tree, grey}

abbrev of_mode : ℕ → Tree
of_mode mode = Leaf (Intra mode) (no_units 0)

-- DC alone: not planar, nor the first and the last of the angular modes
modes : map (λ mode. is_blank_tree (of_mode mode)) (0 ∷ 1 ∷ 2 ∷ 34 ∷ []) ≡
    false ∷ true ∷ false ∷ false ∷ []
unfolding no_units no_levels
modes = refl

abbrev still : Motion
still = record { ref_idx_l0 = 0; mvp_l0_flag = 0; MvdL0 = record { x = pos 0; y = pos 0 } }

-- not what is predicted from another picture; what lies outside the picture is
others : map is_blank_tree (Leaf (Inter still) (no_units 0) ∷ Outside ∷ []) ≡ false ∷ true ∷ []
others = refl

-- a level of -1 in the last place of a unit of 8x8, in luma, in Cb and in Cr
abbrev last_only : ℕ → List ℤ
last_only zeros = replicate zeros (pos 0) ++ negsuc 0 ∷ []

abbrev with_levels : List ℤ → List ℤ → List ℤ → Bool
with_levels luma cb cr =
    is_blank_tree (Leaf (Intra 1) (record { luma = luma; cb = cb; cr = cr } ∷ []))

levels :
    with_levels (last_only 63) (no_levels 2) (no_levels 2) ∷
    with_levels (no_levels 3) (last_only 15) (no_levels 2) ∷
    with_levels (no_levels 3) (no_levels 2) (last_only 15) ∷ [] ≡
    false ∷ false ∷ false ∷ []
unfolding no_levels
levels = refl

-- a node that is split is blank where each of its four parts is
parts :
    let dc = of_mode 1 in
    let planar = of_mode 0 in
    map is_blank_tree
    (Split dc dc dc dc ∷ Split planar dc dc dc ∷ Split dc planar dc dc ∷ Split dc dc planar dc ∷
    Split dc dc dc planar ∷ []) ≡
    true ∷ false ∷ false ∷ false ∷ false ∷ []
unfolding no_units no_levels
parts = refl

grey_of_4x2 : grey 4 2 ≡ record {
  luma = plane_by_rows 4 2 (128 ∷ 128 ∷ 128 ∷ 128 ∷ 128 ∷ 128 ∷ 128 ∷ 128 ∷ []);
  cb = plane_by_rows 2 1 (128 ∷ 128 ∷ []);
  cr = plane_by_rows 2 1 (128 ∷ 128 ∷ []);
}
unfolding tabulate
grey_of_4x2 = refl

-- two units of 8x8, of which the second one is predicted from the first
abbrev two_units : Tree
two_units =
    Split
    (Split (Split (of_mode 1) (of_mode 1) Outside Outside) Outside Outside Outside)
    Outside Outside Outside

blank_16x8 : unfiltered 16 8 51 [] (sites 16 8) (two_units ∷ []) ≡ Some (grey 16 8)
unfolding unfiltered decoded_trees decoded_tree decoded_block predicted residual tabulate sum_of
    total_of sites no_units no_levels
blank_16x8 = refl
