-- The bins of coding tree units ask only for context variables that are there (9.3.4.2).
use Rattle.std.proofs.Common.{ℕ, zero, suc, ◌+◌, ◌-◌, ◌*◌, ◌^◌, ◌≤◌, Bool, true, false, cond, List, [], ◌∷◌, ◌++◌, ℤ, arith}
use Rattle.std.specs.Prelude.{nat_lt, nat_eq}
use Rattle.std.specs.Int.RustNames.{unsigned_abs}
use Rattle.hv_tables.specs.declared.bins.SliceKind.{SliceKind}
use Rattle.hv_tables.specs.declared.bins.SliceKind.TheVariants.{I, P}
use Rattle.hv_tables.specs.declared.bins.CtxTable.TheVariants.{Split, PartMode, PrevIntra, ChromaMode, CbfLuma, CbfChroma, RootCbf, SaoMerge}
use Rattle.hv_plan.specs.declared.offsets.SaoKind.{SaoKind}
use Rattle.hv_plan.specs.declared.offsets.SaoKind.TheVariants.{Off, Band, Edge}
use Rattle.hv_plan.specs.declared.prediction.Mv.{Mv}
use Rattle.hv_residual_model.specs.UnitBins.{UnitQuestion, UnitBin, context}
use Rattle.hv_residual_model.specs.Binarization.{bypass_at, fixed_length_bins, truncated_unary_bins, exp_golomb_bins}
use Rattle.hv_residual_model.specs.ResidualBins.{sign_bins, signs}
use Rattle.hv_plan.specs.Levels.{any_significant, is_significant}
use Rattle.hv_residual_model.specs.ResidualLaws.{IsAskedIn, AreAskedIn}
use Rattle.hv_residual_model.proofs.ContextLemmas.{levels_ask_there}
use Rattle.hv_tree_model.specs.Trees.{Motion, Prediction, Intra, Inter, TransformUnit, Leaf, Split as SplitTree, Outside, depth_of, greatest_size, log2TrafoSize, any_cb, any_cr, any_level}
use Rattle.hv_tree_model.specs.Sites.{has_left, has_above, squares, crosses}
use Rattle.hv_tree_model.specs.EarlierUnits.{Square, Unavailable, Coded, after, Surroundings, left_of, above_of, lies_deeper, split_ctxInc}
use Rattle.hv_tree_model.specs.MostProbableModes.{candidates, is_candidate, mpm_idx_of, remaining_of}
use Rattle.hv_tree_model.specs.Validity.{IsPrediction, IsValidNode}
use Rattle.hv_unit_model.specs.BlockSyntax.{sao_type_at, transform_block, has_luma_flag}
use Rattle.hv_unit_model.specs.Bins.{bin, merge_bins, type_of, sao_type_bins, offsets_abs_bins, component_bins, cr_bins, sao_bins, luma_mode_bins, greater1_bins, rest_bins, mvd_bins, prediction_unit_bins, block_bins, transform_unit_bins, quarters_bins, single_bins, transform_tree_bins, pred_mode_bins, intra_part_bins, predicted_bins, split_bins, bins_of_node}
use Rattle.hv_unit_model.specs.UnitLaws.{OffsetsAskForVariablesThatAreThere, NodesAskForVariablesThatAreThere}

-- ---- lists, and numbers in bypass

module _ (kind : SliceKind) where
  then_asked : (xs ys : List UnitBin) → AreAskedIn kind xs → AreAskedIn kind ys →
      AreAskedIn kind (xs ++ ys)
  then_asked [] ys h k = k
  then_asked (x ∷ xs) ys h k = (h.0, then_asked xs ys h.1 k)

  either_asked : (test : Bool) (xs ys : List UnitBin) → AreAskedIn kind xs → AreAskedIn kind ys →
      AreAskedIn kind (cond test xs ys)
  either_asked true xs ys h k = h
  either_asked false xs ys h k = k

  fixed_asked : (n value : ℕ) → AreAskedIn kind (fixed_length_bins n value)
  fixed_asked zero value = tt
  fixed_asked (suc n) value = (tt, fixed_asked n value)

  unary_asked : (question : ℕ → UnitQuestion) (cMax binIdx value : ℕ) →
      ((i : ℕ) → IsAskedIn kind (question i)) →
      AreAskedIn kind (truncated_unary_bins question cMax binIdx value)
  unfolding truncated_unary_bins
  unary_asked question zero binIdx value h = tt
  unary_asked question (suc cMax) binIdx zero h = (h binIdx, tt)
  unary_asked question (suc cMax) binIdx (suc value) h =
      (h binIdx, unary_asked question cMax (suc binIdx) value h)

  golomb_asked : (fuel k value : ℕ) → AreAskedIn kind (exp_golomb_bins fuel k value)
  unfolding exp_golomb_bins
  golomb_asked zero k value = tt
  golomb_asked (suc fuel) k value =
      either_asked (nat_lt value (2 ^ k)) _ _ (tt, fixed_asked k value)
      (tt, golomb_asked fuel (suc k) (value - 2 ^ k))

  signs_asked : (values : List Bool) → AreAskedIn kind (sign_bins values)
  signs_asked [] = tt
  signs_asked (value ∷ values) = (tt, signs_asked values)

-- ---- variables that are there in slices of both kinds

merge_there : (kind : SliceKind) → IsAskedIn kind (context SaoMerge 0)
merge_there I = omega arith
merge_there P = omega arith

type_there : (kind : SliceKind) (binIdx : ℕ) → IsAskedIn kind (sao_type_at binIdx)
type_there I zero = omega arith
type_there P zero = omega arith
type_there kind (suc binIdx) = tt

split_there : (kind : SliceKind) (ctxInc : ℕ) → ctxInc ≤ 2 → IsAskedIn kind (context Split ctxInc)
split_there I ctxInc h = omega (arith, h)
split_there P ctxInc h = omega (arith, h)

part_there : (kind : SliceKind) → IsAskedIn kind (context PartMode 0)
part_there I = omega arith
part_there P = omega arith

prev_there : (kind : SliceKind) → IsAskedIn kind (context PrevIntra 0)
prev_there I = omega arith
prev_there P = omega arith

chroma_mode_there : (kind : SliceKind) → IsAskedIn kind (context ChromaMode 0)
chroma_mode_there I = omega arith
chroma_mode_there P = omega arith

cbf_chroma_there : (kind : SliceKind) (depth : ℕ) → depth ≤ 1 →
    IsAskedIn kind (context CbfChroma depth)
cbf_chroma_there I depth h = omega (arith, h)
cbf_chroma_there P depth h = omega (arith, h)

cbf_luma_by : (kind : SliceKind) (at_root : Bool) →
    IsAskedIn kind (context CbfLuma (cond at_root 1 0))
cbf_luma_by I true = omega arith
cbf_luma_by I false = omega arith
cbf_luma_by P true = omega arith
cbf_luma_by P false = omega arith

-- ---- sample adaptive offsets

module _ (kind : SliceKind) where
  abs_asked : (offsets : List ℤ) → AreAskedIn kind (offsets_abs_bins offsets)
  abs_asked [] = tt
  abs_asked (offset ∷ offsets) =
      then_asked kind _ _ (unary_asked kind bypass_at 7 0 (unsigned_abs offset) (λ i. tt))
      (abs_asked offsets)

  band_asked : (position : ℕ) (offsets : List ℤ) →
      AreAskedIn kind
      (offsets_abs_bins offsets ++ (sign_bins (signs offsets) ++ fixed_length_bins 5 position))
  band_asked position offsets =
      then_asked kind _ _ (abs_asked offsets)
      (then_asked kind _ _ (signs_asked kind (signs offsets)) (fixed_asked kind 5 position))

  component_asked : (sao_kind : SaoKind) (offsets : List ℤ) →
      AreAskedIn kind (component_bins sao_kind offsets)
  component_asked Off offsets = tt
  component_asked (Band position) offsets = band_asked position offsets
  component_asked (Edge class) offsets =
      then_asked kind _ _ (abs_asked offsets) (fixed_asked kind 2 class)

  cr_asked : (sao_kind : SaoKind) (offsets : List ℤ) → AreAskedIn kind (cr_bins sao_kind offsets)
  cr_asked Off offsets = tt
  cr_asked (Band position) offsets = band_asked position offsets
  cr_asked (Edge class) offsets = abs_asked offsets

  merge_asked : (is_there : Bool) → AreAskedIn kind (merge_bins is_there)
  merge_asked is_there = either_asked kind is_there _ _ (merge_there kind, tt) tt

  type_asked : (sao_kind : SaoKind) → AreAskedIn kind (sao_type_bins sao_kind)
  type_asked sao_kind = unary_asked kind sao_type_at 2 0 (type_of sao_kind) (type_there kind)

pub offsets_ask_there : OffsetsAskForVariablesThatAreThere
unfolding sao_bins
offsets_ask_there kind site offsets =
    then_asked kind _ _ (merge_asked kind (has_left site))
    (then_asked kind _ _ (merge_asked kind (has_above site))
    (then_asked kind _ _ (type_asked kind offsets.luma.kind)
    (then_asked kind _ _ (component_asked kind offsets.luma.kind offsets.luma.offsets)
    (then_asked kind _ _ (type_asked kind offsets.cb.kind)
    (then_asked kind _ _ (component_asked kind offsets.cb.kind offsets.cb.offsets)
    (cr_asked kind offsets.cr.kind offsets.cr.offsets))))))

-- ---- prediction

mode_asked : (kind : SliceKind) (list : List ℕ) (mode : ℕ) →
    AreAskedIn kind (luma_mode_bins list mode)
unfolding luma_mode_bins
mode_asked kind list mode =
    either_asked kind (is_candidate mode list) _ _
    (prev_there kind, unary_asked kind bypass_at 2 0 (mpm_idx_of mode list) (λ i. tt))
    (prev_there kind, fixed_asked kind 5 (remaining_of list mode))

greater1_asked : (d : ℤ) → AreAskedIn P (greater1_bins d)
greater1_asked d = either_asked P (is_significant d) _ _ (omega arith, tt) tt

rest_asked : (d : ℤ) → AreAskedIn P (rest_bins d)
rest_asked d =
    either_asked P (is_significant d) _ _
    (then_asked P _ _
    (either_asked P (nat_lt 1 (unsigned_abs d)) _ _ (golomb_asked P 32 1 (unsigned_abs d - 2)) tt)
    (tt, tt))
    tt

mvd_asked : (d : Mv) → AreAskedIn P (mvd_bins d)
unfolding mvd_bins
mvd_asked d = (
  omega arith,
  (
    omega arith,
    then_asked P _ _ (greater1_asked d.x)
        (then_asked P _ _ (greater1_asked d.y)
        (then_asked P _ _ (rest_asked d.x) (rest_asked d.y))),
  ),
)

prediction_unit_asked : (references : ℕ) (motion : Motion) →
    AreAskedIn P (prediction_unit_bins references motion)
unfolding prediction_unit_bins
prediction_unit_asked references motion = (
  omega arith,
  then_asked P _ _ (either_asked P (nat_lt 1 references) _ _ (omega arith, tt) tt)
      (then_asked P _ _ (mvd_asked motion.MvdL0) (omega arith, tt)),
)

-- ---- transform trees

module _ (kind : SliceKind) where
  block_asked : (prediction : Prediction) (log2 : ℕ) (is_luma : Bool) (levels : List ℤ) →
      2 ≤ log2 → log2 ≤ 5 →
      AreAskedIn kind (block_bins (transform_block prediction log2 is_luma) levels)
  block_asked prediction log2 is_luma levels least most =
      either_asked kind (any_significant levels) _ _
      (levels_ask_there kind (transform_block prediction log2 is_luma) levels (least, most)) tt

  unit_asked : (prediction : Prediction) (log2 trafoDepth : ℕ) (t : TransformUnit) →
      3 ≤ log2 → log2 ≤ 5 → AreAskedIn kind (transform_unit_bins prediction log2 trafoDepth t)
  unfolding transform_unit_bins
  unit_asked prediction log2 trafoDepth t least most =
      then_asked kind _ _
      (either_asked kind
      (has_luma_flag prediction trafoDepth (any_significant t.cb) (any_significant t.cr)) _ _
      (cbf_luma_by kind (nat_eq trafoDepth 0), tt) tt)
      (then_asked kind _ _
      (block_asked prediction log2 true t.luma (omega (arith, least)) most)
      (then_asked kind _ _
      (block_asked prediction (log2 - 1) false t.cb (omega (arith, least)) (omega (arith, most)))
      (block_asked prediction (log2 - 1) false t.cr (omega (arith, least)) (omega (arith, most)))))

  quarters_asked : (prediction : Prediction) (cb cr : Bool) (units : List TransformUnit) →
      AreAskedIn kind (quarters_bins prediction cb cr units)
  unfolding quarters_bins
  quarters_asked prediction cb cr [] = tt
  quarters_asked prediction cb cr (t ∷ units) =
      then_asked kind _ _
      (either_asked kind cb _ _ (cbf_chroma_there kind 1 (omega arith), tt) tt)
      (then_asked kind _ _
      (either_asked kind cr _ _ (cbf_chroma_there kind 1 (omega arith), tt) tt)
      (then_asked kind _ _ (unit_asked prediction 5 1 t (omega arith) (omega arith))
      (quarters_asked prediction cb cr units)))

  single_asked : (prediction : Prediction) (size : ℕ) (units : List TransformUnit) →
      AreAskedIn kind (single_bins prediction size units)
  single_asked prediction size [] = tt
  single_asked prediction size (t ∷ units) =
      unit_asked prediction (log2TrafoSize size) 0 t (omega arith) (omega arith)

  tree_asked : (prediction : Prediction) (size : ℕ) (units : List TransformUnit) →
      AreAskedIn kind (transform_tree_bins prediction size units)
  unfolding transform_tree_bins
  tree_asked prediction size units = (
    cbf_chroma_there kind 0 (omega arith),
    (
      cbf_chroma_there kind 0 (omega arith),
      either_asked kind (nat_lt size greatest_size) _ _ (single_asked prediction size units)
          (quarters_asked prediction (any_cb units) (any_cr units) units),
    ),
  )

-- ---- coding units and quadtrees

intra_part_asked : (kind : SliceKind) (size : ℕ) → AreAskedIn kind (intra_part_bins size)
intra_part_asked kind zero = (part_there kind, tt)
intra_part_asked kind (suc size) = tt

intra_asked : (kind : SliceKind) (size mode : ℕ) (list : List ℕ) (units : List TransformUnit) →
    AreAskedIn kind
    (intra_part_bins size ++ (luma_mode_bins list mode ++
    (bin ChromaMode 0 false ∷ transform_tree_bins (Intra mode) size units)))
intra_asked kind size mode list units =
    then_asked kind _ _ (intra_part_asked kind size)
    (then_asked kind _ _ (mode_asked kind list mode)
    (chroma_mode_there kind, tree_asked kind (Intra mode) size units))

inter_asked : (references size : ℕ) (motion : Motion) (units : List TransformUnit) →
    AreAskedIn P
    (bin PartMode 0 true ∷ (prediction_unit_bins references motion ++
    (bin RootCbf 0 (any_level units) ∷
    cond (any_level units) (transform_tree_bins (Inter motion) size units) [])))
inter_asked references size motion units = (
  part_there P,
  then_asked P _ _ (prediction_unit_asked references motion) (
    omega arith,
    either_asked P (any_level units) _ _ (tree_asked P (Inter motion) size units) tt,
  ),
)

coding_unit_by : (kind : SliceKind) (s : Surroundings) (size address : ℕ) (earlier : List Square)
    (prediction : Prediction) (units : List TransformUnit) →
    IsPrediction kind s.references prediction →
    AreAskedIn kind
    (pred_mode_bins kind prediction ++ predicted_bins s size address earlier prediction units)
unfolding predicted_bins
coding_unit_by I s size address earlier (Intra mode) units valid =
    intra_asked I size mode (candidates s address earlier) units
coding_unit_by P s size address earlier (Intra mode) units valid =
    (omega arith, (omega arith, intra_asked P size mode (candidates s address earlier) units))
coding_unit_by I s size address earlier (Inter motion) units valid = absurd valid
coding_unit_by P s size address earlier (Inter motion) units valid =
    (omega arith, (omega arith, inter_asked s.references size motion units))

deeper_by_1 : (depth : ℕ) (square : Square) → lies_deeper depth square ≤ 1
deeper_by_1 depth Unavailable = omega arith
deeper_by_1 depth (Coded CtDepth prediction) = cond_at_most (nat_lt depth CtDepth) where
  cond_at_most : (test : Bool) → cond test 1 0 ≤ 1
  cond_at_most true = omega arith
  cond_at_most false = omega arith

split_asked : (s : Surroundings) (size address : ℕ) (earlier : List Square) (value : Bool) →
    AreAskedIn s.slice_type (split_bins s size address earlier value)
split_asked s zero address earlier value = tt
split_asked s (suc size) address earlier value =
    let left = deeper_by_1 (depth_of (suc size)) (left_of s address earlier) in
    let above = deeper_by_1 (depth_of (suc size)) (above_of s address earlier) in
    either_asked s.slice_type (crosses s.site (suc size) address) _ _ tt (
      split_there s.slice_type (split_ctxInc s (suc size) address earlier)
          (omega (arith, left, above)),
      tt,
    )

pub nodes_ask_there : NodesAskForVariablesThatAreThere
unfolding IsValidNode bins_of_node
nodes_ask_there s zero address earlier Outside valid = tt
nodes_ask_there s (suc size) address earlier Outside valid = tt
nodes_ask_there s zero address earlier (Leaf prediction units) valid =
    coding_unit_by s.slice_type s zero address earlier prediction units valid.2
nodes_ask_there s (suc size) address earlier (Leaf prediction units) valid =
    then_asked s.slice_type _ _ (split_asked s (suc size) address earlier false)
    (coding_unit_by s.slice_type s (suc size) address earlier prediction units valid.2)
nodes_ask_there s zero address earlier (SplitTree a b c d) valid = absurd valid
nodes_ask_there s (suc size) address earlier (SplitTree a b c d) valid =
    let n : ℕ = squares size in
    let behind_a : List Square = after size earlier a in
    let behind_b : List Square = after size behind_a b in
    let behind_c : List Square = after size behind_b c in
    then_asked s.slice_type _ _ (split_asked s (suc size) address earlier true)
    (then_asked s.slice_type _ _ (nodes_ask_there s size address earlier a valid.1)
    (then_asked s.slice_type _ _ (nodes_ask_there s size (address + n) behind_a b valid.2)
    (then_asked s.slice_type _ _ (nodes_ask_there s size (address + 2 * n) behind_b c valid.3)
    (nodes_ask_there s size (address + 3 * n) behind_c d valid.4))))
