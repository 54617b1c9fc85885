-- The syntax of slice data and its coding tree units (7.3.8) as scripts of bins, in this profile:
-- the scripts fail where a bin has a value that the profile rules out.
use Rattle.std.specs.Prelude.{ℕ, zero, suc, ◌+◌, ◌-◌, ◌*◌, Bool, true, false, cond, nat_eq, nat_lt, ◌&&◌, ◌||◌, List, [], ◌∷◌, slice_index_or, ℤ, pos}
use Rattle.hv_tables.specs.declared.bins.CtxTable.{CtxTable}
use Rattle.hv_tables.specs.declared.bins.CtxTable.TheVariants.{Split, Skip, PartMode, PredMode, PrevIntra, ChromaMode, Merge, RefIdx, MvdGreater0, MvdGreater1, MvpFlag, RootCbf, CbfLuma, CbfChroma, SaoMerge, SaoType}
use Rattle.hv_tables.specs.declared.bins.SliceKind.{SliceKind}
use Rattle.hv_tables.specs.declared.bins.SliceKind.TheVariants.{I, P}
use Rattle.hv_tables.specs.Bins.{Question, Terminate}
use Rattle.hv_plan.specs.declared.offsets.SaoKind.{SaoKind}
use Rattle.hv_plan.specs.declared.offsets.SaoKind.TheVariants.{Off, Band, Edge}
use Rattle.hv_plan.specs.declared.offsets.SaoComponent.{SaoComponent}
use Rattle.hv_plan.specs.declared.offsets.SaoParam.{SaoParam}
use Rattle.hv_plan.specs.declared.prediction.Mv.{Mv}
use Rattle.hv_plan.specs.declared.prediction.Pred.TheVariants.{Intra as IntraPred}
use Rattle.hv_plan.specs.declared.prediction.Scan.{Scan}
use Rattle.hv_plan.specs.declared.prediction.Scan.TheVariants.{Diagonal}
use Rattle.hv_lemmas.specs.Booleans.{same}
use Rattle.hv_stream_model.specs.Scripts.{Script, Done, Ask, ask, only_if, ◌>>=◌}
use Rattle.hv_residual_model.specs.UnitBins.{UnitQuestion, InBypass, UnitScript, context, expect, in_slice}
use Rattle.hv_residual_model.specs.Binarization.{fixed_length, truncated_unary, exp_golomb, bypass_at}
use Rattle.hv_residual_model.specs.ScanOrder.{scanIdx_of}
use Rattle.hv_residual_model.specs.ResidualContexts.{TransformBlock}
use Rattle.hv_residual_model.specs.ResidualSyntax.{with_sign, residual_coding}
use Rattle.hv_plan.specs.Levels.{has_16_bits}
use Rattle.hv_tree_model.specs.Trees.{Motion, Prediction, Intra, Inter, TransformUnit, Tree, Leaf, Split as SplitTree, Outside, CodingTreeUnit, greatest_size, log2TrafoSize, no_levels, no_units, any_cb, any_cr, any_level}
use Rattle.hv_tree_model.specs.Sites.{Site, has_left, has_above, squares, is_outside, crosses}
use Rattle.hv_tree_model.specs.EarlierUnits.{Square, after, Surroundings, in_picture, split_ctxInc}
use Rattle.hv_tree_model.specs.MostProbableModes.{candidates, mode_of_remaining}
use Rattle.hv_tree_model.specs.Validity.{is_empty}

-- a syntax element of one bin with a context, which must have this value
abbrev pub element : CtxTable → ℕ → Bool → UnitScript (Unit {0})
element table ctxInc value = expect (context table ctxInc) value

-- as a number
abbrev pub digit : Bool → ℕ
digit value = cond value 1 0

-- ---- sao (7.3.8.3)

-- sao_merge_left_flag and sao_merge_up_flag
abbrev pub merge_flag : Bool → UnitScript (Unit {0})
merge_flag is_there = cond is_there (element SaoMerge 0 false) (Done tt)

-- sao_type_idx_luma and sao_type_idx_chroma, of which the second bin is in bypass
abbrev pub sao_type_at : ℕ → UnitQuestion
sao_type_at zero = context SaoType 0
sao_type_at (suc binIdx) = InBypass

abbrev pub sao_type_idx : UnitScript ℕ
sao_type_idx = truncated_unary sao_type_at 2 0

-- sao_offset_abs of so many categories
abbrev pub sao_offset_abs : ℕ → UnitScript (List ℕ)
sao_offset_abs zero = Done []
sao_offset_abs (suc count) =
    truncated_unary bypass_at 7 0 >>= λ magnitude.
    sao_offset_abs count >>= λ magnitudes.
    Done (magnitude ∷ magnitudes)

-- sao_offset_sign of those that aren't 0, and the offsets
abbrev pub sao_offset_sign : List ℕ → UnitScript (List ℤ)
sao_offset_sign [] = Done []
sao_offset_sign (zero ∷ magnitudes) =
    sao_offset_sign magnitudes >>= λ offsets. Done (pos 0 ∷ offsets)
sao_offset_sign (suc magnitude ∷ magnitudes) =
    Ask InBypass (λ sign.
    sao_offset_sign magnitudes >>= λ offsets.
    Done (with_sign sign (suc magnitude) ∷ offsets))

-- the signs of the four offsets of edges (7.4.9.3.2)
abbrev pub edge_signs : List Bool
edge_signs = false ∷ false ∷ true ∷ true ∷ []

abbrev pub with_signs : List Bool → List ℕ → List ℤ
with_signs [] magnitudes = []
with_signs (sign ∷ signs) [] = []
with_signs (sign ∷ signs) (magnitude ∷ magnitudes) =
    with_sign sign magnitude ∷ with_signs signs magnitudes

abbrev pub component : SaoKind → List ℤ → SaoComponent
component kind offsets = record { kind = kind; offsets = offsets }

abbrev pub off_component : UnitScript SaoComponent
off_component = Done (component Off (pos 0 ∷ pos 0 ∷ pos 0 ∷ pos 0 ∷ []))

-- with sao_band_position
abbrev pub band_component : UnitScript SaoComponent
band_component =
    sao_offset_abs 4 >>= λ magnitudes.
    sao_offset_sign magnitudes >>= λ offsets.
    fixed_length 5 >>= λ position.
    Done (component (Band position) offsets)

-- with the script of SaoEoClass
abbrev pub edge_component : UnitScript ℕ → UnitScript SaoComponent
edge_component sao_eo_class =
    sao_offset_abs 4 >>= λ magnitudes.
    sao_eo_class >>= λ class.
    Done (component (Edge class) (with_signs edge_signs magnitudes))

-- by SaoTypeIdx, of luma and of Cb: with sao_eo_class_luma, sao_eo_class_chroma
abbrev pub component_of_type : ℕ → UnitScript SaoComponent
component_of_type zero = off_component
component_of_type (suc zero) = band_component
component_of_type (suc (suc more)) = edge_component (fixed_length 2)

-- of Cr: SaoTypeIdx and SaoEoClass are those of Cb
abbrev pub component_like : SaoKind → UnitScript SaoComponent
component_like Off = off_component
component_like (Band position) = band_component
component_like (Edge class) = edge_component (Done class)

unfoldable pub sao : Site → UnitScript SaoParam
sao site =
    merge_flag (has_left site) >>= λ _.
    merge_flag (has_above site) >>= λ _.
    sao_type_idx >>= λ luma_type.
    component_of_type luma_type >>= λ luma.
    sao_type_idx >>= λ chroma_type.
    component_of_type chroma_type >>= λ cb.
    component_like cb.kind >>= λ cr.
    Done (record { luma = luma; cb = cb; cr = cr })

-- ---- intra prediction: prev_intra_luma_pred_flag, then mpm_idx or rem_intra_luma_pred_mode

unfoldable pub luma_mode : List ℕ → UnitScript ℕ
luma_mode candModeList =
    Ask (context PrevIntra 0) (λ prev_intra_luma_pred_flag.
    cond prev_intra_luma_pred_flag
    (truncated_unary bypass_at 2 0 >>= λ mpm_idx. Done (slice_index_or candModeList mpm_idx 0))
    (fixed_length 5 >>= λ remaining. Done (mode_of_remaining candModeList remaining)))

-- intra_chroma_pred_mode is 4, the mode of luma
abbrev pub intra_chroma_pred_mode : UnitScript (Unit {0})
intra_chroma_pred_mode = element ChromaMode 0 false

-- ---- mvd_coding (7.3.8.9)

abbrev pub abs_mvd_greater0_flag : UnitScript Bool
abs_mvd_greater0_flag = ask (context MvdGreater0 0)

abbrev pub abs_mvd_greater1_flag : Bool → UnitScript Bool
abs_mvd_greater1_flag greater0 = cond greater0 (ask (context MvdGreater1 0)) (Done false)

-- with abs_mvd_minus2. No difference of 16 bits has 32 ones in front.
abbrev pub mvd_magnitude : Bool → UnitScript ℕ
mvd_magnitude false = Done 1
mvd_magnitude true = exp_golomb 32 1 >>= λ minus2. Done (2 + minus2)

-- with mvd_sign_flag. A difference has 16 bits (7.4.9.9).
abbrev pub mvd_component : Bool → Bool → UnitScript ℤ
mvd_component false greater1 = Done (pos 0)
mvd_component true greater1 =
    mvd_magnitude greater1 >>= λ magnitude.
    Ask InBypass (λ sign.
    only_if (has_16_bits (with_sign sign magnitude)) (Done (with_sign sign magnitude)))

unfoldable pub mvd_coding : UnitScript Mv
mvd_coding =
    abs_mvd_greater0_flag >>= λ x0.
    abs_mvd_greater0_flag >>= λ y0.
    abs_mvd_greater1_flag x0 >>= λ x1.
    abs_mvd_greater1_flag y0 >>= λ y1.
    mvd_component x0 x1 >>= λ x.
    mvd_component y0 y1 >>= λ y.
    Done (record { x = x; y = y })

-- ---- prediction_unit (7.3.8.6): no merge_flag; ref_idx_l0 where there are two references

abbrev pub ref_idx_l0 : ℕ → UnitScript ℕ
ref_idx_l0 references =
    cond (nat_lt 1 references) (Ask (context RefIdx 0) (λ flag. Done (digit flag))) (Done 0)

unfoldable pub prediction_unit : ℕ → UnitScript Motion
prediction_unit references =
    element Merge 0 false >>= λ _.
    ref_idx_l0 references >>= λ reference.
    mvd_coding >>= λ difference.
    Ask (context MvpFlag 0) (λ flag.
    Done (record { ref_idx_l0 = reference; mvp_l0_flag = digit flag; MvdL0 = difference }))

-- ---- transform_tree and transform_unit (7.3.8.8, 7.3.8.10)

abbrev pub scan_of : Prediction → ℕ → Bool → Scan
scan_of (Intra mode) log2 is_luma = scanIdx_of (IntraPred mode) log2 is_luma
scan_of (Inter motion) log2 is_luma = Diagonal

abbrev pub transform_block : Prediction → ℕ → Bool → TransformBlock
transform_block prediction log2 is_luma = record {
  scanIdx = scan_of prediction log2 is_luma;
  log2TrafoSize = log2;
  is_luma = is_luma;
}

abbrev pub is_intra : Prediction → Bool
is_intra (Intra mode) = true
is_intra (Inter motion) = false

-- the levels of a block whose coded block flag this is
unfoldable pub block_levels : Bool → TransformBlock → UnitScript (List ℤ)
block_levels false b = Done (no_levels b.log2TrafoSize)
block_levels true b = residual_coding b

-- cbf_cb and cbf_cr, by that of the parent
abbrev pub chroma_flag : ℕ → Bool → UnitScript Bool
chroma_flag trafoDepth parent =
    cond parent (ask (context CbfChroma trafoDepth)) (Done false)

abbrev pub luma_flag_at : ℕ → UnitQuestion
luma_flag_at trafoDepth = context CbfLuma (cond (nat_eq trafoDepth 0) 1 0)

-- whether cbf_luma is coded; else it is inferred to be 1
abbrev pub has_luma_flag : Prediction → ℕ → Bool → Bool → Bool
has_luma_flag prediction trafoDepth cbf_cb cbf_cr =
    is_intra prediction || (nat_lt 0 trafoDepth || (cbf_cb || cbf_cr))

abbrev pub luma_flag : Prediction → ℕ → Bool → Bool → UnitScript Bool
luma_flag prediction trafoDepth cbf_cb cbf_cr =
    cond (has_luma_flag prediction trafoDepth cbf_cb cbf_cr)
    (ask (luma_flag_at trafoDepth))
    (Done true)

-- behind cbf_cb and cbf_cr
unfoldable pub transform_unit : Prediction → ℕ → ℕ → Bool → Bool → UnitScript TransformUnit
transform_unit prediction log2 trafoDepth cbf_cb cbf_cr =
    luma_flag prediction trafoDepth cbf_cb cbf_cr >>= λ cbf_luma.
    block_levels cbf_luma (transform_block prediction log2 true) >>= λ luma.
    block_levels cbf_cb (transform_block prediction (log2 - 1) false) >>= λ cb.
    block_levels cbf_cr (transform_block prediction (log2 - 1) false) >>= λ cr.
    Done (record { luma = luma; cb = cb; cr = cr })

-- so many blocks of 32x32 at depth 1, under these cbf_cb and cbf_cr
unfoldable pub quarters : Prediction → Bool → Bool → ℕ → UnitScript (List TransformUnit)
quarters prediction parent_cb parent_cr zero = Done []
quarters prediction parent_cb parent_cr (suc count) =
    chroma_flag 1 parent_cb >>= λ cbf_cb.
    chroma_flag 1 parent_cr >>= λ cbf_cr.
    transform_unit prediction 5 1 cbf_cb cbf_cr >>= λ t.
    quarters prediction parent_cb parent_cr count >>= λ units.
    Done (t ∷ units)

-- the four of a unit of 64x64: cbf_cb and cbf_cr of the whole are those of any of them
abbrev pub four_quarters : Prediction → Bool → Bool → UnitScript (List TransformUnit)
four_quarters prediction cbf_cb cbf_cr =
    quarters prediction cbf_cb cbf_cr 4 >>= λ units.
    only_if (same cbf_cb (any_cb units) && same cbf_cr (any_cr units)) (Done units)

unfoldable pub transform_tree : Prediction → ℕ → UnitScript (List TransformUnit)
transform_tree prediction size =
    chroma_flag 0 true >>= λ cbf_cb.
    chroma_flag 0 true >>= λ cbf_cr.
    cond (nat_lt size greatest_size)
    (transform_unit prediction (log2TrafoSize size) 0 cbf_cb cbf_cr >>= λ t. Done (t ∷ []))
    (four_quarters prediction cbf_cb cbf_cr)

-- behind rqt_root_cbf, which is 1 where there is a level
abbrev pub rooted_tree : Prediction → ℕ → Bool → UnitScript (List TransformUnit)
rooted_tree prediction size rqt_root_cbf =
    cond rqt_root_cbf
    (transform_tree prediction size >>= λ units. only_if (any_level units) (Done units))
    (Done (no_units size))

-- ---- coding_unit (7.3.8.5)

-- whether CuPredMode is MODE_INTRA; in P slices behind cu_skip_flag, by pred_mode_flag
abbrev pub pred_mode_flag : SliceKind → UnitScript Bool
pred_mode_flag I = Done true
pred_mode_flag P = element Skip 0 false >>= λ _. ask (context PredMode 0)

-- part_mode is PART_2Nx2N: in intra units coded in the smallest alone
abbrev pub part_mode : UnitScript (Unit {0})
part_mode = element PartMode 0 true

abbrev pub intra_part_mode : ℕ → UnitScript (Unit {0})
intra_part_mode zero = part_mode
intra_part_mode (suc size) = Done tt

unfoldable pub intra_unit : Surroundings → ℕ → ℕ → List Square → UnitScript Tree
intra_unit s size address earlier =
    intra_part_mode size >>= λ _.
    luma_mode (candidates s address earlier) >>= λ mode.
    intra_chroma_pred_mode >>= λ _.
    transform_tree (Intra mode) size >>= λ units.
    Done (Leaf (Intra mode) units)

unfoldable pub inter_unit : ℕ → ℕ → UnitScript Tree
inter_unit references size =
    part_mode >>= λ _.
    prediction_unit references >>= λ motion.
    Ask (context RootCbf 0) (λ rqt_root_cbf.
    rooted_tree (Inter motion) size rqt_root_cbf >>= λ units.
    Done (Leaf (Inter motion) units))

unfoldable pub coding_unit : Surroundings → ℕ → ℕ → List Square → UnitScript Tree
coding_unit s size address earlier =
    pred_mode_flag s.slice_type >>= λ intra.
    cond intra (intra_unit s size address earlier) (inter_unit s.references size)

-- ---- coding_quadtree (7.3.8.4)

-- split_cu_flag, or its inferred value where the node crosses the picture's edge
abbrev pub split_cu_flag : Surroundings → ℕ → ℕ → List Square → UnitScript Bool
split_cu_flag s size address earlier =
    cond (crosses s.site size address) (Done true)
    (ask (context Split (split_ctxInc s size address earlier)))

-- the four nodes of this size from an address on, by the script of one
abbrev pub four_nodes : (ℕ → List Square → UnitScript Tree) → ℕ → ℕ → List Square → UnitScript Tree
four_nodes node size address earlier =
    node address earlier >>= λ a.
    let behind_a = after size earlier a in
    node (address + squares size) behind_a >>= λ b.
    let behind_b = after size behind_a b in
    node (address + 2 * squares size) behind_b >>= λ c.
    let behind_c = after size behind_b c in
    node (address + 3 * squares size) behind_c >>= λ d.
    Done (SplitTree a b c d)

-- a node of this size, behind the squares of its block that were coded earlier
unfoldable pub coding_quadtree : Surroundings → ℕ → ℕ → List Square → UnitScript Tree
coding_quadtree s zero address earlier =
    cond (is_outside s.site address) (Done Outside) (coding_unit s zero address earlier)
coding_quadtree s (suc size) address earlier =
    cond (is_outside s.site address) (Done Outside)
    (split_cu_flag s (suc size) address earlier >>= λ split.
    cond split
    (four_nodes (coding_quadtree s size) size address earlier)
    (coding_unit s (suc size) address earlier))

-- ---- coding_tree_unit (7.3.8.2), and end_of_slice_segment_flag

abbrev pub coding_tree_unit : Surroundings → Script Question Bool CodingTreeUnit
coding_tree_unit s =
    in_slice (sao s.site) >>= λ offsets.
    in_slice (coding_quadtree s greatest_size 0 []) >>= λ tree.
    Ask Terminate (λ last.
    Done (record { sao = offsets; tree = tree; end_of_slice_segment_flag = last }))

-- ---- slice_segment_data (7.3.8.1)

-- of these blocks, behind these squares of the blocks before: it ends behind the last block, and
-- nowhere else
abbrev pub slice_data_from :
    SliceKind → ℕ → List Square → List Site → Script Question Bool (List CodingTreeUnit)
slice_data_from slice_type references done [] = Done []
slice_data_from slice_type references done (site ∷ sites) =
    coding_tree_unit (in_picture slice_type references site done) >>= λ unit.
    only_if (same unit.end_of_slice_segment_flag (is_empty sites))
    (slice_data_from slice_type references (after greatest_size done unit.tree) sites >>= λ units.
    Done (unit ∷ units))

abbrev pub slice_segment_data :
    SliceKind → ℕ → List Site → Script Question Bool (List CodingTreeUnit)
slice_segment_data slice_type references sites = slice_data_from slice_type references [] sites
