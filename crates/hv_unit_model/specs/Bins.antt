-- The bins of slice data and its coding tree units (7.3.8, binarized by 9.3.3, with the contexts of
-- 9.3.4.2), as they are written.
use Rattle.std.specs.Prelude.{ℕ, zero, suc, ◌+◌, ◌-◌, ◌*◌, Bool, true, false, cond, nat_eq, nat_lt, List, [], ◌∷◌, ◌++◌, map, ℤ}
use Rattle.std.specs.Int.{is_negative}
use Rattle.std.specs.Int.RustNames.{unsigned_abs}
use Rattle.hv_tables.specs.declared.bins.CtxTable.{CtxTable}
use Rattle.hv_tables.specs.declared.bins.CtxTable.TheVariants.{Split, Skip, PartMode, PredMode, PrevIntra, ChromaMode, Merge, RefIdx, MvdGreater0, MvdGreater1, MvpFlag, RootCbf, CbfChroma, SaoMerge}
use Rattle.hv_tables.specs.declared.bins.SliceKind.{SliceKind}
use Rattle.hv_tables.specs.declared.bins.SliceKind.TheVariants.{I, P}
use Rattle.hv_tables.specs.Bins.{Bin, terminate_bin}
use Rattle.hv_plan.specs.declared.offsets.SaoKind.{SaoKind}
use Rattle.hv_plan.specs.declared.offsets.SaoKind.TheVariants.{Off, Band, Edge}
use Rattle.hv_plan.specs.declared.offsets.SaoParam.{SaoParam}
use Rattle.hv_plan.specs.declared.prediction.Mv.{Mv}
use Rattle.hv_residual_model.specs.UnitBins.{InBypass, UnitBin, context, unit_bin, slice_bin}
use Rattle.hv_residual_model.specs.Binarization.{bypass_at, fixed_length_bins, truncated_unary_bins, exp_golomb_bins}
use Rattle.hv_residual_model.specs.ResidualContexts.{TransformBlock}
use Rattle.hv_residual_model.specs.ResidualBins.{residual_bins, sign_bins, signs}
use Rattle.hv_plan.specs.Levels.{any_significant, is_significant}
use Rattle.hv_tree_model.specs.Trees.{Motion, Prediction, Intra, Inter, TransformUnit, Tree, Leaf, Split as SplitTree, Outside, CodingTreeUnit, greatest_size, log2TrafoSize, any_cb, any_cr, any_level}
use Rattle.hv_tree_model.specs.Sites.{Site, has_left, has_above, squares, crosses}
use Rattle.hv_tree_model.specs.EarlierUnits.{Square, after, Surroundings, in_picture, split_ctxInc}
use Rattle.hv_tree_model.specs.MostProbableModes.{candidates, is_candidate, mpm_idx_of, remaining_of}
use Rattle.hv_unit_model.specs.BlockSyntax.{sao_type_at, is_intra, transform_block, luma_flag_at, has_luma_flag}

abbrev pub bin : CtxTable → ℕ → Bool → UnitBin
bin table ctxInc value = unit_bin (context table ctxInc) value

-- the bin only where it is coded
abbrev pub where_coded : Bool → UnitBin → List UnitBin
where_coded is_coded b = cond is_coded (b ∷ []) []

-- ---- sao (7.3.8.3)

abbrev pub merge_bins : Bool → List UnitBin
merge_bins is_there = where_coded is_there (bin SaoMerge 0 false)

-- SaoTypeIdx
abbrev pub type_of : SaoKind → ℕ
type_of Off = 0
type_of (Band position) = 1
type_of (Edge class) = 2

abbrev pub sao_type_bins : SaoKind → List UnitBin
sao_type_bins kind = truncated_unary_bins sao_type_at 2 0 (type_of kind)

-- sao_offset_abs
abbrev pub offset_abs_bins : ℤ → List UnitBin
offset_abs_bins offset = truncated_unary_bins bypass_at 7 0 (unsigned_abs offset)

abbrev pub offsets_abs_bins : List ℤ → List UnitBin
offsets_abs_bins [] = []
offsets_abs_bins (offset ∷ offsets) = offset_abs_bins offset ++ offsets_abs_bins offsets

-- SaoEoClass
abbrev pub class_bins : ℕ → List UnitBin
class_bins class = fixed_length_bins 2 class

-- what follows SaoTypeIdx in luma and in Cb
abbrev pub component_bins : SaoKind → List ℤ → List UnitBin
component_bins Off offsets = []
component_bins (Band position) offsets =
    offsets_abs_bins offsets ++ (sign_bins (signs offsets) ++ fixed_length_bins 5 position)
component_bins (Edge class) offsets = offsets_abs_bins offsets ++ class_bins class

-- and in Cr, where no class is coded
abbrev pub cr_bins : SaoKind → List ℤ → List UnitBin
cr_bins Off offsets = []
cr_bins (Band position) offsets =
    offsets_abs_bins offsets ++ (sign_bins (signs offsets) ++ fixed_length_bins 5 position)
cr_bins (Edge class) offsets = offsets_abs_bins offsets

unfoldable pub sao_bins : Site → SaoParam → List UnitBin
sao_bins site sao =
    merge_bins (has_left site) ++
    (merge_bins (has_above site) ++
    (sao_type_bins sao.luma.kind ++
    (component_bins sao.luma.kind sao.luma.offsets ++
    (sao_type_bins sao.cb.kind ++
    (component_bins sao.cb.kind sao.cb.offsets ++
    cr_bins sao.cr.kind sao.cr.offsets)))))

-- ---- prediction

-- prev_intra_luma_pred_flag, then mpm_idx or rem_intra_luma_pred_mode
unfoldable pub luma_mode_bins : List ℕ → ℕ → List UnitBin
luma_mode_bins candModeList mode =
    cond (is_candidate mode candModeList)
    (bin PrevIntra 0 true ∷ truncated_unary_bins bypass_at 2 0 (mpm_idx_of mode candModeList))
    (bin PrevIntra 0 false ∷ fixed_length_bins 5 (remaining_of candModeList mode))

-- abs_mvd_greater0_flag, abs_mvd_greater1_flag, and abs_mvd_minus2 with mvd_sign_flag
abbrev pub greater0_bin : ℤ → UnitBin
greater0_bin d = bin MvdGreater0 0 (is_significant d)

abbrev pub greater1_bins : ℤ → List UnitBin
greater1_bins d = where_coded (is_significant d) (bin MvdGreater1 0 (nat_lt 1 (unsigned_abs d)))

abbrev pub rest_bins : ℤ → List UnitBin
rest_bins d =
    cond (is_significant d)
    (cond (nat_lt 1 (unsigned_abs d)) (exp_golomb_bins 32 1 (unsigned_abs d - 2)) [] ++
    unit_bin InBypass (is_negative d) ∷ [])
    []

-- mvd_coding (7.3.8.9)
unfoldable pub mvd_bins : Mv → List UnitBin
mvd_bins d =
    greater0_bin d.x ∷ greater0_bin d.y ∷
    (greater1_bins d.x ++ (greater1_bins d.y ++ (rest_bins d.x ++ rest_bins d.y)))

-- ref_idx_l0
abbrev pub reference_bins : ℕ → ℕ → List UnitBin
reference_bins references reference =
    where_coded (nat_lt 1 references) (bin RefIdx 0 (nat_eq reference 1))

-- prediction_unit (7.3.8.6)
unfoldable pub prediction_unit_bins : ℕ → Motion → List UnitBin
prediction_unit_bins references motion =
    bin Merge 0 false ∷
    (reference_bins references motion.ref_idx_l0 ++
    (mvd_bins motion.MvdL0 ++ bin MvpFlag 0 (nat_eq motion.mvp_l0_flag 1) ∷ []))

-- ---- transform_tree (7.3.8.8)

-- residual_coding, where a level isn't 0
abbrev pub block_bins : TransformBlock → List ℤ → List UnitBin
block_bins b levels = cond (any_significant levels) (residual_bins b levels) []

-- cbf_luma
abbrev pub luma_flag_bins : Prediction → ℕ → TransformUnit → List UnitBin
luma_flag_bins prediction trafoDepth t =
    where_coded
    (has_luma_flag prediction trafoDepth (any_significant t.cb) (any_significant t.cr))
    (unit_bin (luma_flag_at trafoDepth) (any_significant t.luma))

-- transform_unit (7.3.8.10), and cbf_luma in front of it
unfoldable pub transform_unit_bins : Prediction → ℕ → ℕ → TransformUnit → List UnitBin
transform_unit_bins prediction log2 trafoDepth t =
    luma_flag_bins prediction trafoDepth t ++
    (block_bins (transform_block prediction log2 true) t.luma ++
    (block_bins (transform_block prediction (log2 - 1) false) t.cb ++
    block_bins (transform_block prediction (log2 - 1) false) t.cr))

-- blocks of 32x32 at depth 1: cbf_cb and cbf_cr only where that of the parent is 1
unfoldable pub quarters_bins : Prediction → Bool → Bool → List TransformUnit → List UnitBin
quarters_bins prediction parent_cb parent_cr [] = []
quarters_bins prediction parent_cb parent_cr (t ∷ units) =
    where_coded parent_cb (bin CbfChroma 1 (any_significant t.cb)) ++
    (where_coded parent_cr (bin CbfChroma 1 (any_significant t.cr)) ++
    (transform_unit_bins prediction 5 1 t ++
    quarters_bins prediction parent_cb parent_cr units))

abbrev pub single_bins : Prediction → ℕ → List TransformUnit → List UnitBin
single_bins prediction size [] = []
single_bins prediction size (t ∷ units) =
    transform_unit_bins prediction (log2TrafoSize size) 0 t

unfoldable pub transform_tree_bins : Prediction → ℕ → List TransformUnit → List UnitBin
transform_tree_bins prediction size units =
    bin CbfChroma 0 (any_cb units) ∷ bin CbfChroma 0 (any_cr units) ∷
    cond (nat_lt size greatest_size)
    (single_bins prediction size units)
    (quarters_bins prediction (any_cb units) (any_cr units) units)

-- ---- coding_unit (7.3.8.5)

-- cu_skip_flag and pred_mode_flag
abbrev pub pred_mode_bins : SliceKind → Prediction → List UnitBin
pred_mode_bins I prediction = []
pred_mode_bins P prediction = bin Skip 0 false ∷ bin PredMode 0 (is_intra prediction) ∷ []

abbrev pub intra_part_bins : ℕ → List UnitBin
intra_part_bins zero = bin PartMode 0 true ∷ []
intra_part_bins (suc size) = []

-- behind pred_mode_flag
unfoldable pub predicted_bins :
    Surroundings → ℕ → ℕ → List Square → Prediction → List TransformUnit → List UnitBin
predicted_bins s size address earlier (Intra mode) units =
    intra_part_bins size ++
    (luma_mode_bins (candidates s address earlier) mode ++
    (bin ChromaMode 0 false ∷ transform_tree_bins (Intra mode) size units))
predicted_bins s size address earlier (Inter motion) units =
    bin PartMode 0 true ∷
    (prediction_unit_bins s.references motion ++
    (bin RootCbf 0 (any_level units) ∷
    cond (any_level units) (transform_tree_bins (Inter motion) size units) []))

abbrev pub coding_unit_bins :
    Surroundings → ℕ → ℕ → List Square → Prediction → List TransformUnit → List UnitBin
coding_unit_bins s size address earlier prediction units =
    pred_mode_bins s.slice_type prediction ++
    predicted_bins s size address earlier prediction units

-- ---- coding_quadtree (7.3.8.4)

-- split_cu_flag: not in the smallest nodes, nor in those that cross the picture's edge
abbrev pub split_bins : Surroundings → ℕ → ℕ → List Square → Bool → List UnitBin
split_bins s zero address earlier value = []
split_bins s (suc size) address earlier value =
    cond (crosses s.site (suc size) address) []
    (bin Split (split_ctxInc s (suc size) address earlier) value ∷ [])

-- the bins of one node
unfoldable pub bins_of_node : Surroundings → ℕ → ℕ → List Square → Tree → List UnitBin
bins_of_node s size address earlier Outside = []
bins_of_node s size address earlier (Leaf prediction units) =
    split_bins s size address earlier false ++
    coding_unit_bins s size address earlier prediction units
bins_of_node s zero address earlier (SplitTree a b c d) = []
bins_of_node s (suc size) address earlier (SplitTree a b c d) =
    let behind_a = after size earlier a in
    let behind_b = after size behind_a b in
    let behind_c = after size behind_b c in
    split_bins s (suc size) address earlier true ++
    (bins_of_node s size address earlier a ++
    (bins_of_node s size (address + squares size) behind_a b ++
    (bins_of_node s size (address + 2 * squares size) behind_b c ++
    bins_of_node s size (address + 3 * squares size) behind_c d)))

-- ---- coding_tree_unit (7.3.8.2), and end_of_slice_segment_flag

abbrev pub bins : Surroundings → CodingTreeUnit → List Bin
bins s unit =
    map slice_bin (sao_bins s.site unit.sao) ++
    (map slice_bin (bins_of_node s greatest_size 0 [] unit.tree) ++
    terminate_bin unit.end_of_slice_segment_flag ∷ [])

-- ---- slice_segment_data (7.3.8.1)

-- behind these squares of the blocks before
abbrev pub slice_bins_from :
    SliceKind → ℕ → List Square → List Site → List CodingTreeUnit → List Bin
slice_bins_from slice_type references done [] units = []
slice_bins_from slice_type references done (site ∷ sites) [] = []
slice_bins_from slice_type references done (site ∷ sites) (unit ∷ units) =
    bins (in_picture slice_type references site done) unit ++
    slice_bins_from slice_type references (after greatest_size done unit.tree) sites units

abbrev pub slice_bins : SliceKind → ℕ → List Site → List CodingTreeUnit → List Bin
slice_bins slice_type references sites units = slice_bins_from slice_type references [] sites units
