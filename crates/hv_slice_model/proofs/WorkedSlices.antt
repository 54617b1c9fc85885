-- Worked slices of pictures of several sizes, computed by the definitions.
use Rattle.std.proofs.Common.{◌≡◌, ℕ, Bool, true, false, List, [], ◌∷◌, map, refl}
use Rattle.hv_tables.specs.declared.bins.SliceKind.TheVariants.{I}
use Rattle.hv_tables.specs.declared.bins.CtxTable.{CtxTable}
use Rattle.hv_tables.specs.declared.bins.CtxTable.TheVariants.{Split, PartMode, PrevIntra, ChromaMode, CbfLuma, CbfChroma, SaoMerge, SaoType}
use Rattle.hv_tables.specs.Bins.{Bin, context_bin, bypass_bin, terminate_bin}
use Rattle.hv_stream_model.specs.Bits.{bytes_of, first_bytes}
use Rattle.hv_stream_model.specs.Fields.{log2_of}
use Rattle.hv_entropy_model.specs.Contexts.{lps_width, next_variable, first_variables}
use Rattle.hv_entropy_model.specs.CodeWord.{shift_of, reach, first_interval, word}
use Rattle.hv_residual_model.specs.Binarization.{truncated_unary_bins}
use Rattle.hv_tree_model.specs.Trees.{Tree, Leaf, Split as SplitTree, Outside, Intra, no_levels, no_units}
use Rattle.hv_tree_model.specs.Sites.{Site, site, sites, has_left, has_above, column_of, row_of, address_of, crosses, is_outside}
use Rattle.hv_tree_model.specs.EarlierUnits.{look_picture}
use Rattle.hv_tree_model.specs.MostProbableModes.{candModeList}
use Rattle.hv_unit_model.specs.Bins.{sao_bins, luma_mode_bins, transform_unit_bins, quarters_bins, transform_tree_bins, predicted_bins, bins_of_node, slice_bins}
use Rattle.hv_slice_model.specs.BlankUnits.{blank_node, blank_tree, blank_units}
use Rattle.hv_slice_model.specs.Slices.{idr_header, payload_of_slice}

-- a bin with a context
abbrev pub bin : CtxTable → ℕ → Bool → Bin
bin table ctxInc value = context_bin (record { table = table; index = ctxInc }) value

-- ---- a grey block of 64x64

-- the bins of a grey block of 64x64
abbrev pub grey_bins : List Bin
grey_bins =
    bin SaoType 0 false ∷ bin SaoType 0 false ∷ bin Split 0 false ∷ bin PrevIntra 0 true ∷
    bypass_bin true ∷ bypass_bin false ∷ bin ChromaMode 0 false ∷ bin CbfChroma 0 false ∷
    bin CbfChroma 0 false ∷ bin CbfLuma 0 false ∷ bin CbfLuma 0 false ∷ bin CbfLuma 0 false ∷
    bin CbfLuma 0 false ∷ terminate_bin true ∷ []

grey_low : (reach (first_interval (first_variables I 26)) grey_bins).low ≡ 30467552
unfolding shift_of lps_width next_variable first_variables
grey_low = refl

grey_range : (reach (first_interval (first_variables I 26)) grey_bins).range ≡ 288
unfolding shift_of lps_width next_variable first_variables
grey_range = refl

-- before the bin that ends the slice the interval was doubled sixteen times
grey_n : (reach (first_interval (first_variables I 26)) grey_bins).n ≡ 16
unfolding shift_of lps_width next_variable first_variables
grey_n = refl

grey_bytes : bytes_of (word I 26 grey_bins) ≡ 232 ∷ 115 ∷ 127 ∷ 128 ∷ []
unfolding shift_of lps_width next_variable first_variables first_bytes
grey_bytes = refl

-- ---- what a slice of 64x64 and one of 8x8 are coded as

bins_of_64x64 : slice_bins I 0 (sites 64 64) (blank_units (sites 64 64)) ≡ grey_bins
unfolding sites blank_node sao_bins bins_of_node predicted_bins luma_mode_bins candModeList transform_tree_bins quarters_bins transform_unit_bins truncated_unary_bins no_units no_levels look_picture column_of row_of address_of crosses is_outside
bins_of_64x64 = refl

-- The smallest unit has a part_mode and no split_cu_flag, and one block of luma.
bins_of_8x8 : slice_bins I 0 (sites 8 8) (blank_units (sites 8 8)) ≡
    bin SaoType 0 false ∷ bin SaoType 0 false ∷
    bin PartMode 0 true ∷ bin PrevIntra 0 true ∷ bypass_bin true ∷ bypass_bin false ∷
    bin ChromaMode 0 false ∷ bin CbfChroma 0 false ∷ bin CbfChroma 0 false ∷
    bin CbfLuma 1 false ∷ terminate_bin true ∷ []
unfolding sites blank_node sao_bins bins_of_node predicted_bins luma_mode_bins candModeList transform_tree_bins quarters_bins transform_unit_bins truncated_unary_bins no_units no_levels look_picture column_of row_of address_of crosses is_outside
bins_of_8x8 = refl

-- ---- forced splits, and several blocks

abbrev flat : ℕ → Tree
flat size = Leaf (Intra 1) (no_units size)

-- two units of 8x8 side by side
tree_of_16x8 : blank_tree (site 16 8 0) ≡
    SplitTree
    (SplitTree (SplitTree (flat 0) (flat 0) Outside Outside) Outside Outside Outside)
    Outside Outside Outside
unfolding blank_node is_outside crosses column_of row_of
tree_of_16x8 = refl

-- a unit of 32x32 above two of 16x16, a row of 8x8 below them, and nothing of the third quarter
tree_of_32x56 : blank_tree (site 32 56 0) ≡
    SplitTree
    (flat 2)
    Outside
    (SplitTree (flat 1) (flat 1)
    (SplitTree (flat 0) (flat 0) Outside Outside)
    (SplitTree (flat 0) (flat 0) Outside Outside))
    Outside
unfolding blank_node is_outside crosses column_of row_of
tree_of_32x56 = refl

-- whole blocks, a column of 8 at the right, a row of 8 below, and their corner
sites_of_136x72 : sites 136 72 ≡
    site 136 72 0 ∷ site 136 72 1 ∷ site 136 72 2 ∷ site 136 72 3 ∷ site 136 72 4 ∷
    site 136 72 5 ∷ []
unfolding sites
sites_of_136x72 = refl

blocks_at_the_left : map has_left (sites 136 72) ≡
    false ∷ true ∷ true ∷ false ∷ true ∷ true ∷ []
unfolding sites
blocks_at_the_left = refl

blocks_above : map has_above (sites 136 72) ≡
    false ∷ false ∷ false ∷ true ∷ true ∷ true ∷ []
unfolding sites
blocks_above = refl

-- the last of them has blocks at its left and above it, and ends the slice
abbrev corner : List Site
corner = site 136 72 5 ∷ []

bins_of_a_corner : slice_bins I 0 corner (blank_units corner) ≡
    bin SaoMerge 0 false ∷ bin SaoMerge 0 false ∷
    slice_bins I 0 (sites 8 8) (blank_units (sites 8 8))
unfolding sites blank_node sao_bins bins_of_node predicted_bins luma_mode_bins candModeList transform_tree_bins quarters_bins transform_unit_bins truncated_unary_bins no_units no_levels look_picture column_of row_of address_of crosses is_outside
bins_of_a_corner = refl

-- ---- code words

abbrev blank_slice : List Site → List ℕ
blank_slice sites = payload_of_slice (idr_header 0) sites (blank_units sites)

slice_of_64x64 : blank_slice (sites 64 64) ≡ 175 ∷ 6 ∷ 176 ∷ 152 ∷ 127 ∷ 255 ∷ 255 ∷ 248 ∷ []
unfolding first_bytes log2_of lps_width next_variable first_variables shift_of sites blank_node sao_bins bins_of_node predicted_bins luma_mode_bins candModeList transform_tree_bins quarters_bins transform_unit_bins truncated_unary_bins no_units no_levels look_picture column_of row_of address_of crosses is_outside
slice_of_64x64 = refl

slice_of_8x8 : blank_slice (sites 8 8) ≡ 175 ∷ 6 ∷ 176 ∷ 152 ∷ 239 ∷ 255 ∷ 240 ∷ []
unfolding first_bytes log2_of lps_width next_variable first_variables shift_of sites blank_node sao_bins bins_of_node predicted_bins luma_mode_bins candModeList transform_tree_bins quarters_bins transform_unit_bins truncated_unary_bins no_units no_levels look_picture column_of row_of address_of crosses is_outside
slice_of_8x8 = refl

slice_of_16x8 : blank_slice (sites 16 8) ≡
    175 ∷ 6 ∷ 176 ∷ 152 ∷ 239 ∷ 255 ∷ 178 ∷ 255 ∷ 240 ∷ []
unfolding first_bytes log2_of lps_width next_variable first_variables shift_of sites blank_node sao_bins bins_of_node predicted_bins luma_mode_bins candModeList transform_tree_bins quarters_bins transform_unit_bins truncated_unary_bins no_units no_levels look_picture column_of row_of address_of crosses is_outside
slice_of_16x8 = refl

slice_of_72x56 : blank_slice (sites 72 56) ≡
    175 ∷ 6 ∷ 176 ∷ 152 ∷ 127 ∷ 255 ∷ 101 ∷ 254 ∷ 211 ∷ 249 ∷ 191 ∷ 188 ∷ 120 ∷ 189 ∷ 125 ∷ 33 ∷
    225 ∷ 130 ∷ 223 ∷ 222 ∷ 112 ∷ 120 ∷ 116 ∷ 80 ∷ 12 ∷ 103 ∷ 71 ∷ []
unfolding first_bytes log2_of lps_width next_variable first_variables shift_of sites blank_node sao_bins bins_of_node predicted_bins luma_mode_bins candModeList transform_tree_bins quarters_bins transform_unit_bins truncated_unary_bins no_units no_levels look_picture column_of row_of address_of crosses is_outside
slice_of_72x56 = refl

slice_of_136x72 : blank_slice (sites 136 72) ≡
    175 ∷ 6 ∷ 176 ∷ 152 ∷ 127 ∷ 255 ∷ 250 ∷ 188 ∷ 191 ∷ 236 ∷ 69 ∷ 254 ∷ 223 ∷ 242 ∷ 30 ∷ 173 ∷
    175 ∷ 164 ∷ 67 ∷ 74 ∷ 243 ∷ 143 ∷ 239 ∷ 118 ∷ 252 ∷ 40 ∷ 92 ∷ 153 ∷ 23 ∷ 86 ∷ 167 ∷ 191 ∷ 76 ∷
    []
unfolding first_bytes log2_of lps_width next_variable first_variables shift_of sites blank_node sao_bins bins_of_node predicted_bins luma_mode_bins candModeList transform_tree_bins quarters_bins transform_unit_bins truncated_unary_bins no_units no_levels look_picture column_of row_of address_of crosses is_outside
slice_of_136x72 = refl

slice_of_256x192 : blank_slice (sites 256 192) ≡
    175 ∷ 6 ∷ 176 ∷ 152 ∷ 127 ∷ 255 ∷ 250 ∷ 188 ∷ 191 ∷ 236 ∷ 9 ∷ 247 ∷ 159 ∷ 16 ∷ 26 ∷ 93 ∷ 227 ∷
    115 ∷ 202 ∷ 155 ∷ 22 ∷ 135 ∷ 133 ∷ 138 ∷ []
unfolding first_bytes log2_of lps_width next_variable first_variables shift_of sites blank_node sao_bins bins_of_node predicted_bins luma_mode_bins candModeList transform_tree_bins quarters_bins transform_unit_bins truncated_unary_bins no_units no_levels look_picture column_of row_of address_of crosses is_outside
slice_of_256x192 = refl

slice_of_64x136 : blank_slice (sites 64 136) ≡
    175 ∷ 6 ∷ 176 ∷ 152 ∷ 127 ∷ 255 ∷ 250 ∷ 188 ∷ 191 ∷ 236 ∷ 69 ∷ 254 ∷ 223 ∷ 242 ∷ 30 ∷ 173 ∷
    175 ∷ 164 ∷ 67 ∷ 75 ∷ 179 ∷ []
unfolding first_bytes log2_of lps_width next_variable first_variables shift_of sites blank_node sao_bins bins_of_node predicted_bins luma_mode_bins candModeList transform_tree_bins quarters_bins transform_unit_bins truncated_unary_bins no_units no_levels look_picture column_of row_of address_of crosses is_outside
slice_of_64x136 = refl
