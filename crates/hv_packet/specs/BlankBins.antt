-- The bins of a picture in which nothing is chosen (7.3.8), as the code puts them: from how much of
-- the picture there is behind a node's corner, and without a look at the node's neighbours.
use Rattle.std.specs.Prelude.{ℕ, zero, suc, ◌+◌, ◌-◌, ◌*◌, ◌/◌, ◌%◌, Bool, true, false, cond, nat_eq, nat_lt, ◌||◌, List, [], ◌∷◌, ◌++◌}
use Rattle.hv_tables.specs.declared.bins.SliceKind.{SliceKind}
use Rattle.hv_tables.specs.declared.bins.SliceKind.TheVariants.{I, P}
use Rattle.hv_tables.specs.declared.bins.CtxTable.{CtxTable}
use Rattle.hv_tables.specs.declared.bins.CtxTable.TheVariants.{Split, Skip, PredMode, PartMode, PrevIntra, ChromaMode, CbfLuma, CbfChroma, SaoMerge, SaoType}
use Rattle.hv_tables.specs.Bins.{Bin, context_bin, bypass_bin, terminate_bin}
use Rattle.hv_tree_model.specs.Trees.{side, greatest_size}
use Rattle.hv_tree_model.specs.Sites.{ctb_side, blocks_over}

abbrev pub bin : CtxTable → ℕ → Bool → Bin
bin table ctxInc value = context_bin (record { table = table; index = ctxInc }) value

-- ---- a coding unit of mode DC without a level but 0

-- cu_skip_flag and pred_mode_flag, which P slices have alone: a unit that isn't skipped, of intra
-- prediction. No unit at the left or above is skipped.
abbrev pub mode_bins : SliceKind → List Bin
mode_bins I = []
mode_bins P = bin Skip 0 false ∷ bin PredMode 0 true ∷ []

-- part_mode is coded in the smallest units alone: PART_2Nx2N
abbrev pub part_bins : ℕ → List Bin
part_bins zero = bin PartMode 0 true ∷ []
part_bins (suc size) = []

-- The mode is the second of the most probable ones, which are 0, 1 and 26: the units at the left
-- and above have mode 1, or stand for it where they aren't available (8.4.2).
-- prev_intra_luma_pred_flag, mpm_idx, and intra_chroma_pred_mode 4, the luma mode.
abbrev pub prediction_bins : List Bin
prediction_bins =
    bin PrevIntra 0 true ∷ bypass_bin true ∷ bypass_bin false ∷ bin ChromaMode 0 false ∷ []

-- transform_tree (7.3.8.8): cbf_cb and cbf_cr of the whole, and cbf_luma; of a unit of 64x64 that
-- of its four blocks of 32x32
abbrev pub luma_bins : ℕ → List Bin
luma_bins size =
    cond (nat_lt size greatest_size) (bin CbfLuma 1 false ∷ [])
    (bin CbfLuma 0 false ∷ bin CbfLuma 0 false ∷ bin CbfLuma 0 false ∷ bin CbfLuma 0 false ∷ [])

abbrev pub transform_bins : ℕ → List Bin
transform_bins size = bin CbfChroma 0 false ∷ bin CbfChroma 0 false ∷ luma_bins size

-- coding_unit (7.3.8.5)
abbrev pub unit_bins : SliceKind → ℕ → List Bin
unit_bins slice_type size =
    mode_bins slice_type ++ part_bins size ++ prediction_bins ++ transform_bins size

-- split_cu_flag of a unit that isn't split. The smallest have none. No unit at the left or above is
-- deeper.
abbrev pub split_bins : ℕ → List Bin
split_bins zero = []
split_bins (suc size) = bin Split 0 false ∷ []

-- ---- coding_quadtree (7.3.8.4)

-- Of a node it is known how much of the picture there is from its upper left corner on, to the
-- right and downwards: none where it lies outside.
abbrev pub is_outside : ℕ → ℕ → Bool
is_outside width height = nat_eq width 0 || nat_eq height 0

-- it crosses the picture's right or bottom edge
abbrev pub crosses : ℕ → ℕ → ℕ → Bool
crosses size width height = nat_lt width (side size) || nat_lt height (side size)

-- a node at the picture's edge is split without a flag
abbrev pub node_bins : SliceKind → ℕ → ℕ → ℕ → List Bin
node_bins slice_type zero width height =
    cond (is_outside width height) [] (split_bins zero ++ unit_bins slice_type zero)
node_bins slice_type (suc size) width height =
    cond (is_outside width height) []
    (cond (crosses (suc size) width height)
    (node_bins slice_type size width height ++
    (node_bins slice_type size (width - side size) height ++
    (node_bins slice_type size width (height - side size) ++
    node_bins slice_type size (width - side size) (height - side size))))
    (split_bins (suc size) ++ unit_bins slice_type (suc size)))

-- ---- coding_tree_unit (7.3.8.2), and end_of_slice_segment_flag

-- sao (7.3.8.3): no sao_merge_left_flag and no sao_merge_up_flag; sao_type_idx_luma and
-- sao_type_idx_chroma are 0
abbrev pub merge_bins : Bool → List Bin
merge_bins is_there = cond is_there (bin SaoMerge 0 false ∷ []) []

abbrev pub sao_bins : Bool → Bool → List Bin
sao_bins has_left has_above =
    merge_bins has_left ++ merge_bins has_above ++ bin SaoType 0 false ∷ bin SaoType 0 false ∷ []

-- of the block in this column and row of a picture of these sides in luma samples
abbrev pub block_bins : SliceKind → ℕ → ℕ → ℕ → ℕ → Bool → List Bin
block_bins slice_type width height column row is_last =
    sao_bins (nat_lt 0 column) (nat_lt 0 row) ++
    node_bins slice_type greatest_size (width - ctb_side * column) (height - ctb_side * row) ++
    terminate_bin is_last ∷ []

-- ---- slice_segment_data (7.3.8.1)

-- so many blocks from this number on, the last of which ends the slice
abbrev pub blocks_bins : SliceKind → ℕ → ℕ → ℕ → ℕ → List Bin
blocks_bins slice_type width height zero index = []
blocks_bins slice_type width height (suc count) index =
    block_bins slice_type width height (index % blocks_over width) (index / blocks_over width)
    (nat_eq count 0) ++
    blocks_bins slice_type width height count (index + 1)

-- all blocks of a picture
abbrev pub picture_bins : SliceKind → ℕ → ℕ → List Bin
picture_bins slice_type width height =
    blocks_bins slice_type width height (blocks_over width * blocks_over height) 0
