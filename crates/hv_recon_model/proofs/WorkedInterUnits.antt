-- Worked samples of units that are predicted from a reference picture (8.5.3.3.3), by hand.
use Rattle.std.proofs.Common.{◌≡◌, ℕ, ◌+◌, ◌*◌, cond, List, [], ◌∷◌, ◌++◌, refl, map, replicate, ℤ, pos, neg_ℤ}
use Rattle.std.specs.Prelude.{nat_eq, Option, Some, None, option_map}
use Rattle.hv_lemmas.specs.Lists.{tabulate}
use Rattle.hv_sample_model.specs.Blocks.{sum_of, total_of}
use Rattle.hv_sample_model.specs.InverseTransform.{residual}
use Rattle.hv_types.specs.declared.picture.Picture.{Picture}
use Rattle.hv_types.specs.Samples.{plane_of}
use Rattle.hv_inter_model.specs.Interpolation.{inter_predicted}
use Rattle.hv_tree_model.specs.Trees.{Prediction, Inter, TransformUnit, Leaf, no_levels, no_units}
use Rattle.hv_recon_model.specs.Reconstruction.{Component, Decoded, nothing_decoded, decoded_block, decoded_tree}

-- entry `reference` of list 0, and a vector in quarters of a luma sample
abbrev moved : ℕ → ℤ → ℤ → Prediction
moved reference x y =
    Inter (record { ref_idx_l0 = reference; mvp_l0_flag = 0; MvdL0 = record { x = x; y = y } })

abbrev minus : ℕ → ℤ
minus n = neg_ℤ (pos n)

-- a picture of 16x16 by its luma, and by its Cb and Cr
abbrev picture : (ℕ → ℕ → ℕ) → (ℕ → ℕ → ℕ) → (ℕ → ℕ → ℕ) → Picture
picture luma cb cr =
    record { luma = plane_of 16 16 luma; cb = plane_of 8 8 cb; cr = plane_of 8 8 cr }

-- what a component has at these places, a column and a row each
abbrev samples_at : List (ℕ × ℕ) → Component → List (Option ℕ)
samples_at places samples = map (λ place. samples place.0 place.1) places

abbrev row_at : ℕ → Component → List (Option ℕ)
row_at y samples = map (λ x. samples x y) (0 ∷ 1 ∷ 2 ∷ 3 ∷ 4 ∷ 5 ∷ 6 ∷ 7 ∷ [])

abbrev column_at : ℕ → Component → List (Option ℕ)
column_at x samples = map (λ y. samples x y) (0 ∷ 1 ∷ 2 ∷ 3 ∷ 4 ∷ 5 ∷ 6 ∷ 7 ∷ [])

abbrev all_there : List ℕ → List (Option ℕ)
all_there samples = map (λ sample. Some sample) samples

-- ---- whole vectors

-- column and row can be read from each sample: 16 times the row and the column in luma, 8 times in
-- Cb, and 64 more in Cr
abbrev places : Picture
places = picture (λ x y. 16 * y + x) (λ x y. 8 * y + x) (λ x y. 64 + 8 * y + x)

-- a unit of 8x8 in column 8 of row 0, from 6 samples of luma at its left and 2 below, and so from 3
-- samples of chroma at its left and 1 below
abbrev copy : Option Decoded
copy = decoded_tree 32 0 8 0 (Leaf (moved 0 (minus 24) (pos 8)) (no_units 0))
    (nothing_decoded (places ∷ []))

-- from column 2 of row 2
luma_is_copied :
    option_map (λ d. samples_at ((8, 0) ∷ (15, 0) ∷ (8, 7) ∷ (15, 7) ∷ (7, 0) ∷ (8, 8) ∷ []) d.luma)
    copy ≡
    Some (Some 34 ∷ Some 41 ∷ Some 146 ∷ Some 153 ∷ None ∷ None ∷ [])
unfolding decoded_tree decoded_block inter_predicted residual tabulate sum_of total_of no_units
    no_levels
luma_is_copied = refl

-- from column 1 of row 1
chroma_is_copied :
    option_map (λ d. samples_at ((4, 0) ∷ (7, 3) ∷ (3, 0) ∷ []) d.cb) copy ≡
    Some (Some 9 ∷ Some 36 ∷ None ∷ [])
unfolding decoded_tree decoded_block inter_predicted residual tabulate sum_of total_of no_units
    no_levels
chroma_is_copied = refl

cr_is_copied :
    option_map (λ d. samples_at ((4, 0) ∷ (7, 3) ∷ (3, 0) ∷ []) d.cr) copy ≡
    Some (Some 73 ∷ Some 100 ∷ None ∷ [])
unfolding decoded_tree decoded_block inter_predicted residual tabulate sum_of total_of no_units
    no_levels
cr_is_copied = refl

-- ---- outside the reference stands the nearest sample inside

-- from 8 samples at the right of column 8, and 4 above row 0
outside :
    option_map (λ d. samples_at ((8, 0) ∷ (15, 3) ∷ (8, 4) ∷ (8, 5) ∷ (15, 7) ∷ []) d.luma)
    (decoded_tree 32 0 8 0 (Leaf (moved 0 (pos 32) (minus 16)) (no_units 0))
    (nothing_decoded (places ∷ []))) ≡
    Some (Some 15 ∷ Some 15 ∷ Some 15 ∷ Some 31 ∷ Some 63 ∷ [])
unfolding decoded_tree decoded_block inter_predicted residual tabulate sum_of total_of no_units
    no_levels
outside = refl

far_outside :
    option_map (λ d. samples_at ((0, 0) ∷ (7, 7) ∷ []) d.luma)
    (decoded_tree 32 0 0 0 (Leaf (moved 0 (minus 1000) (minus 1000)) (no_units 0))
    (nothing_decoded (places ∷ []))) ≡
    Some (Some 0 ∷ Some 0 ∷ [])
unfolding decoded_tree decoded_block inter_predicted residual tabulate sum_of total_of no_units
    no_levels
far_outside = refl

-- ---- four transform units: each block has its own place in the reference

-- from 28 samples at the left and above: where the four blocks meet, in columns and rows 31 and 32
four_blocks :
    option_map (λ d. samples_at ((31, 31) ∷ (32, 31) ∷ (31, 32) ∷ (32, 32) ∷ []) d.luma ++
    samples_at ((15, 15) ∷ (16, 15) ∷ (15, 16) ∷ (16, 16) ∷ []) d.cb)
    (decoded_tree 32 3 0 0 (Leaf (moved 0 (minus 112) (minus 112)) (no_units 3))
    (nothing_decoded (places ∷ []))) ≡
    Some (all_there (51 ∷ 52 ∷ 67 ∷ 68 ∷ 9 ∷ 10 ∷ 17 ∷ 18 ∷ []))
unfolding decoded_tree decoded_block inter_predicted residual tabulate sum_of total_of no_units
    no_levels
four_blocks = refl

-- ---- a quarter of a sample

-- a column, and a row, of 192 among samples of 128: column or row 4 of luma, and 2 of chroma
abbrev spiked : (ℕ → ℕ → ℕ) → Picture
spiked place =
    picture (λ x y. cond (nat_eq (place x y) 4) 192 128) (λ x y. cond (nat_eq (place x y) 2) 192 128)
    (λ x y. cond (nat_eq (place x y) 3) 192 128)

abbrev by_a_quarter : ℤ → ℤ → Picture → Option Decoded
by_a_quarter x y reference =
    decoded_tree 32 0 0 0 (Leaf (moved 0 x y) (no_units 0)) (nothing_decoded (reference ∷ []))

-- 128 and the taps 0, 1, -5, 17, 58, -10, 4 and -1 of a quarter of a luma sample
quarter_to_the_right :
    option_map (λ d. row_at 3 d.luma) (by_a_quarter (pos 1) (pos 0) (spiked (λ x y. x))) ≡
    Some (all_there (128 ∷ 129 ∷ 123 ∷ 145 ∷ 186 ∷ 118 ∷ 132 ∷ 127 ∷ []))
unfolding decoded_tree decoded_block inter_predicted residual tabulate sum_of total_of no_units
    no_levels
quarter_to_the_right = refl

quarter_downwards :
    option_map (λ d. column_at 3 d.luma) (by_a_quarter (pos 0) (pos 1) (spiked (λ x y. y))) ≡
    Some (all_there (128 ∷ 129 ∷ 123 ∷ 145 ∷ 186 ∷ 118 ∷ 132 ∷ 127 ∷ []))
unfolding decoded_tree decoded_block inter_predicted residual tabulate sum_of total_of no_units
    no_levels
quarter_downwards = refl

-- that is an eighth of a sample of chroma: -2, 10, 58 and -2, where the sample 192 has place 2 of
-- Cb, and -2, 10 and 58 where it has place 3 of Cr
eighth_to_the_right :
    option_map (λ d. samples_at ((0, 3) ∷ (1, 3) ∷ (2, 3) ∷ (3, 3) ∷ []) d.cb)
    (by_a_quarter (pos 1) (pos 0) (spiked (λ x y. x))) ≡
    Some (all_there (126 ∷ 138 ∷ 186 ∷ 126 ∷ []))
unfolding decoded_tree decoded_block inter_predicted residual tabulate sum_of total_of no_units
    no_levels
eighth_to_the_right = refl

eighth_downwards :
    option_map (λ d. samples_at ((3, 0) ∷ (3, 1) ∷ (3, 2) ∷ (3, 3) ∷ []) d.cr)
    (by_a_quarter (pos 0) (pos 1) (spiked (λ x y. y))) ≡
    Some (all_there (128 ∷ 126 ∷ 138 ∷ 186 ∷ []))
unfolding decoded_tree decoded_block inter_predicted residual tabulate sum_of total_of no_units
    no_levels
eighth_downwards = refl

-- ---- the entry of list 0, and levels

abbrev flat : ℕ → Picture
flat sample = picture (λ x y. sample) (λ x y. sample + 1) (λ x y. sample + 2)

abbrev first_only : ℕ → ℤ → List ℤ
first_only rest level = level ∷ replicate rest (pos 0)

-- a unit with this first level in luma, in Cb and in Cr
abbrev unit : ℤ → ℤ → ℤ → TransformUnit
unit luma cb cr =
    record { luma = first_only 63 luma; cb = first_only 15 cb; cr = first_only 15 cr }

-- from pictures of 50 and of 100, with these first levels
abbrev of_flat : ℕ → ℤ → ℤ → ℤ → Option Decoded
of_flat reference luma cb cr =
    decoded_tree 32 0 0 0 (Leaf (moved reference (pos 0) (pos 0)) (unit luma cb cr ∷ []))
    (nothing_decoded (flat 50 ∷ flat 100 ∷ []))

abbrev corners : Option Decoded → Option (List (Option ℕ))
corners decoded = option_map (λ d. d.luma 0 0 ∷ d.cb 0 0 ∷ d.cr 0 0 ∷ []) decoded

entries :
    map corners
    (of_flat 0 (pos 0) (pos 0) (pos 0) ∷ of_flat 1 (pos 0) (pos 0) (pos 0) ∷
    of_flat 2 (pos 0) (pos 0) (pos 0) ∷ []) ≡
    Some (all_there (50 ∷ 51 ∷ 52 ∷ [])) ∷ Some (all_there (100 ∷ 101 ∷ 102 ∷ [])) ∷ None ∷ []
unfolding decoded_tree decoded_block inter_predicted residual tabulate sum_of total_of
entries = refl

-- a first level of 3 at quantiser 32 is 10 everywhere in 8x8 luma, and 17 in 4x4 chroma
residuals :
    map corners (of_flat 1 (pos 3) (pos 0) (pos 0) ∷ of_flat 1 (pos 0) (pos 3) (pos 0) ∷
    of_flat 1 (pos 0) (pos 0) (pos 3) ∷ []) ≡
    Some (all_there (110 ∷ 101 ∷ 102 ∷ [])) ∷ Some (all_there (100 ∷ 118 ∷ 102 ∷ [])) ∷
    Some (all_there (100 ∷ 101 ∷ 119 ∷ [])) ∷ []
unfolding decoded_tree decoded_block inter_predicted residual tabulate sum_of total_of
residuals = refl
