-- Trees that are read, whatever answers, may be coded where they were read (7.4.9).
use Rattle.std.proofs.Common.{◌≡◌, ℕ, zero, suc, ◌+◌, ◌-◌, ◌*◌, ◌<◌, ◌≤◌, Bool, true, false, cond, List, [], ◌∷◌, refl, sym, subst, arith, ltb-true, ltb-false}
use Rattle.std.specs.Prelude.{nat_lt, nat_eq, ◌&&◌, slice_index_or}
use Rattle.std.proofs.lemmas.Bool.{and_parts}
use Rattle.hv_tables.specs.declared.bins.SliceKind.{SliceKind}
use Rattle.hv_tables.specs.declared.bins.SliceKind.TheVariants.{I, P}
use Rattle.hv_tables.specs.declared.bins.CtxTable.TheVariants.{PredMode, Split as SplitFlag}
use Rattle.hv_plan.specs.declared.prediction.Mv.{Mv}
use Rattle.hv_lemmas.specs.Booleans.{same}
use Rattle.hv_lemmas.proofs.ComputedLemmas.{all_below, holds_below}
use Rattle.hv_stream_model.specs.Scripts.{Done, ask, only_if, ◌>>=◌}
use Rattle.hv_residual_model.specs.UnitBins.{UnitScript, context, in_slice}
use Rattle.hv_residual_model.specs.Binarization.{truncated_unary, fixed_length, bypass_at}
use Rattle.hv_residual_model.specs.ResidualSyntax.{with_sign, residual_coding}
use Rattle.hv_plan.specs.Levels.{has_16_bits}
use Rattle.hv_residual_model.proofs.RangeLemmas.{read_levels_are_small}
use Rattle.hv_tree_model.specs.Trees.{Prediction, Intra, Inter, TransformUnit, Tree, Leaf, Outside, CodingTreeUnit, greatest_size, log2TrafoSize, transform_units, any_cb, any_cr, any_level}
use Rattle.hv_tree_model.specs.Sites.{Site, squares, is_outside, crosses, must_split, row_of}
use Rattle.hv_tree_model.specs.EarlierUnits.{Square, after, Surroundings, in_picture, left_of, above_of, split_ctxInc}
use Rattle.hv_tree_model.specs.MostProbableModes.{dc, candIntraPredMode, candModeList, candidates, mode_of_remaining}
use Rattle.hv_tree_model.specs.Validity.{IsMotion, IsPrediction, HaveLevels, IsTransformUnit, AreTransformUnits, HaveModes, SeesModes, IsValidNode, IsValidTree, AreOffsets, AreValid, is_empty, intra_modes}
use Rattle.hv_unit_model.specs.BlockSyntax.{digit, luma_mode, abs_mvd_greater1_flag, mvd_magnitude, mvd_component, mvd_coding, ref_idx_l0, prediction_unit, transform_block, block_levels, chroma_flag, luma_flag, transform_unit, quarters, four_quarters, transform_tree, rooted_tree, pred_mode_flag, intra_part_mode, part_mode, intra_chroma_pred_mode, intra_unit, inter_unit, coding_unit, four_nodes, coding_quadtree, sao, coding_tree_unit, slice_data_from}
use Rattle.hv_unit_model.specs.UnitLaws.{HasReferences, NodesThatAreReadMayBeCoded, SliceDataThatIsReadMayBeCoded}
use Rattle.hv_unit_model.proofs.GivenLemmas.{Gives, given, gives_of_reads, gives_then, gives_after, gives_if, gives_either, gives_in_slice, fixed_below, unary_at_most}
use Rattle.hv_unit_model.proofs.ReadOffsetLemmas.{gives_sao}
use Rattle.hv_unit_model.proofs.TransformLemmas.{levels_of_nothing, no_units_valid}
use Rattle.hv_unit_model.proofs.SquareLemmas.{modes_then, modes_of_node, picture_sees, candidate_is_mode, mode_above_is_mode}

-- ---- modes

-- the candidates, and what remains beside them
abbrev are_modes : List ℕ → Bool
are_modes list =
    all_below 3 (λ i. nat_lt (slice_index_or list i 0) intra_modes) &&
    all_below 32 (λ n. nat_lt (mode_of_remaining list n) intra_modes)

computed : all_below intra_modes (λ a. all_below intra_modes (λ b. are_modes (candModeList a b))) ≡
    true
unfolding candModeList mode_of_remaining
computed = refl

gives_mode : (a b : ℕ) → a < intra_modes → b < intra_modes →
    Gives (λ mode. mode < intra_modes) (luma_mode (candModeList a b))
unfolding luma_mode
gives_mode a b first second =
    let list : List ℕ = candModeList a b in
    let all = holds_below intra_modes (λ n. are_modes (candModeList a n))
    (holds_below intra_modes (λ m. all_below intra_modes (λ n. are_modes (candModeList m n)))
    computed a first)
    b second in
    let parts = and_parts (all_below 3 (λ i. nat_lt (slice_index_or list i 0) intra_modes))
    (all_below 32 (λ n. nat_lt (mode_of_remaining list n) intra_modes)) all in
    λ prev.
    gives_either (λ mode. mode < intra_modes) prev _ _
    (λ is_prev.
    gives_then (λ i. i ≤ 2) (λ mode. mode < intra_modes) (truncated_unary bypass_at 2 0) _
    (unary_at_most bypass_at 2 0)
    (λ i most.
    ltb-true _ _ (holds_below 3 (λ n. nat_lt (slice_index_or list n 0) intra_modes) parts.0 i
    (omega (arith, most)))))
    (λ not_prev.
    gives_then (λ n. n < 32) (λ mode. mode < intra_modes) (fixed_length 5)
    (λ n. Done (mode_of_remaining list n)) (fixed_below 5)
    (λ n below.
    ltb-true _ _ (holds_below 32 (λ m. nat_lt (mode_of_remaining list m) intra_modes) parts.1 n
    below)))

-- ---- motion

gives_difference : (greater0 greater1 : Bool) →
    Gives (λ d. has_16_bits d ≡ true) (mvd_component greater0 greater1)
gives_difference false greater1 = refl
gives_difference true greater1 =
    gives_after (λ d. has_16_bits d ≡ true) (mvd_magnitude greater1) _
    (λ magnitude sign.
    gives_if (λ d. has_16_bits d ≡ true) (has_16_bits (with_sign sign magnitude)) _ (λ fits. fits))

record IsDifference (d : Mv) : Type 0 where
  x : has_16_bits d.x ≡ true
  y : has_16_bits d.y ≡ true

gives_mvd : Gives IsDifference mvd_coding
unfolding mvd_coding
gives_mvd = λ x0 y0.
    gives_after IsDifference (abs_mvd_greater1_flag x0) _ (λ x1.
    gives_after IsDifference (abs_mvd_greater1_flag y0) _ (λ y1.
    gives_then (λ d. has_16_bits d ≡ true) IsDifference (mvd_component x0 x1) _
    (gives_difference x0 x1) (λ x is_x.
    gives_then (λ d. has_16_bits d ≡ true) IsDifference (mvd_component y0 y1) _
    (gives_difference y0 y1) (λ y is_y. record { x = is_x; y = is_y }))))

digit_below_2 : (flag : Bool) → digit flag < 2
digit_below_2 true = omega arith
digit_below_2 false = omega arith

gives_reference : (references : ℕ) → 1 ≤ references →
    Gives (λ r. r < references) (ref_idx_l0 references)
gives_reference references some =
    gives_either (λ r. r < references) (nat_lt 1 references) _ _
    (λ two flag. let e = ltb-true 1 references two in let f = digit_below_2 flag in
    omega (arith, e, f))
    (λ one. omega (arith, some))

gives_motion : (references : ℕ) → 1 ≤ references → references ≤ 2 →
    Gives (IsMotion references) (prediction_unit references)
unfolding prediction_unit
gives_motion references some most = λ merge.
    gives_after (IsMotion references) (only_if (same merge false) (Done tt)) _ (λ m.
    gives_then (λ r. r < references) (IsMotion references) (ref_idx_l0 references) _
    (gives_reference references some) (λ r below.
    gives_then IsDifference (IsMotion references) mvd_coding _ gives_mvd (λ d is_d flag.
    record {
      most_references = most;
      reference = below;
      flag = digit_below_2 flag;
      x = is_d.x;
      y = is_d.y;
    })))

-- ---- transform trees

gives_levels : (value : Bool) (prediction : Prediction) (log2 : ℕ) (is_luma : Bool) →
    Gives (HaveLevels log2) (block_levels value (transform_block prediction log2 is_luma))
unfolding block_levels
gives_levels false prediction log2 is_luma = levels_of_nothing log2
gives_levels true prediction log2 is_luma =
    let b = transform_block prediction log2 is_luma in
    gives_of_reads (HaveLevels log2) (residual_coding b)
    (λ bins levels r.
    let small = read_levels_are_small b bins levels r in
    record { whole = small.0; small = small.1 })

gives_unit : (prediction : Prediction) (log2 trafoDepth : ℕ) (cb cr : Bool) →
    Gives (IsTransformUnit log2) (transform_unit prediction log2 trafoDepth cb cr)
unfolding transform_unit
gives_unit prediction log2 trafoDepth cb cr =
    gives_after (IsTransformUnit log2) (luma_flag prediction trafoDepth cb cr) _ (λ luma.
    gives_then (HaveLevels log2) (IsTransformUnit log2)
    (block_levels luma (transform_block prediction log2 true)) _
    (gives_levels luma prediction log2 true) (λ y is_y.
    gives_then (HaveLevels (log2 - 1)) (IsTransformUnit log2)
    (block_levels cb (transform_block prediction (log2 - 1) false)) _
    (gives_levels cb prediction (log2 - 1) false) (λ u is_u.
    gives_then (HaveLevels (log2 - 1)) (IsTransformUnit log2)
    (block_levels cr (transform_block prediction (log2 - 1) false)) _
    (gives_levels cr prediction (log2 - 1) false) (λ v is_v.
    record { luma = is_y; cb = is_u; cr = is_v }))))

gives_quarters : (prediction : Prediction) (cb cr : Bool) (count : ℕ) →
    Gives (AreTransformUnits 5 count) (quarters prediction cb cr count)
unfolding quarters
gives_quarters prediction cb cr zero = tt
gives_quarters prediction cb cr (suc count) =
    gives_after (AreTransformUnits 5 (suc count)) (chroma_flag 1 cb) _ (λ b.
    gives_after (AreTransformUnits 5 (suc count)) (chroma_flag 1 cr) _ (λ r.
    gives_then (IsTransformUnit 5) (AreTransformUnits 5 (suc count))
    (transform_unit prediction 5 1 b r) _ (gives_unit prediction 5 1 b r) (λ t is_t.
    gives_then (AreTransformUnits 5 count) (AreTransformUnits 5 (suc count))
    (quarters prediction cb cr count) _ (gives_quarters prediction cb cr count)
    (λ units are. (is_t, are)))))

tree_by : (prediction : Prediction) (size : ℕ) (below_64 : Bool) →
    nat_lt size greatest_size ≡ below_64 → (cb cr : Bool) →
    Gives (AreTransformUnits (log2TrafoSize size) (cond below_64 1 4))
    (cond below_64
    (transform_unit prediction (log2TrafoSize size) 0 cb cr >>= λ t. Done (t ∷ []))
    (four_quarters prediction cb cr))
tree_by prediction size true e cb cr =
    gives_then (IsTransformUnit (log2TrafoSize size)) (AreTransformUnits (log2TrafoSize size) 1)
    (transform_unit prediction (log2TrafoSize size) 0 cb cr) _
    (gives_unit prediction (log2TrafoSize size) 0 cb cr) (λ t is_t. (is_t, tt))
tree_by prediction size false e cb cr =
    let large : 3 ≤ size = ltb-false size 3 e in
    let is_5 : 5 ≡ log2TrafoSize size = omega (arith, large) in
    subst (λ log2. Gives (AreTransformUnits log2 4) (four_quarters prediction cb cr)) is_5
    (gives_then (AreTransformUnits 5 4) (AreTransformUnits 5 4) (quarters prediction cb cr 4) _
    (gives_quarters prediction cb cr 4)
    (λ units are.
    gives_if (AreTransformUnits 5 4) (same cb (any_cb units) && same cr (any_cr units)) _
    (λ agree. are)))

AreUnits : ℕ → List TransformUnit → Type 0
AreUnits size units = AreTransformUnits (log2TrafoSize size) (transform_units size) units

gives_tree : (prediction : Prediction) (size : ℕ) →
    Gives (AreUnits size) (transform_tree prediction size)
unfolding transform_tree AreUnits
gives_tree prediction size = λ cb cr. tree_by prediction size (nat_lt size greatest_size) refl cb cr

gives_rooted : (prediction : Prediction) (size : ℕ) (root : Bool) →
    Gives (AreUnits size) (rooted_tree prediction size root)
unfolding AreUnits
gives_rooted prediction size true =
    gives_then (AreUnits size) (AreUnits size) (transform_tree prediction size) _
    (gives_tree prediction size)
    (λ units are. gives_if (AreUnits size) (any_level units) _ (λ some. are))
gives_rooted prediction size false = no_units_valid size

-- ---- coding units

module _ (s : Surroundings) (has : HasReferences s.slice_type s.references)
    (sees : SeesModes s.look) where
  Valid : ℕ → ℕ → Tree → Type 0
  Valid size address tree =
      IsValidNode s.slice_type s.references s.site size address tree

  leaf_valid : (size address : ℕ) (prediction : Prediction) (units : List TransformUnit) →
      is_outside s.site address ≡ false → must_split s.site size address ≡ false →
      IsPrediction s.slice_type s.references prediction → AreUnits size units →
      Valid size address (Leaf prediction units)
  unfolding Valid IsValidNode AreUnits
  leaf_valid zero address prediction units inside fits is_prediction are =
      (inside, fits, is_prediction, are)
  leaf_valid (suc size) address prediction units inside fits is_prediction are =
      (inside, fits, is_prediction, are)

  gives_intra : (size address : ℕ) (earlier : List Square) → HaveModes earlier →
      is_outside s.site address ≡ false → must_split s.site size address ≡ false →
      Gives (Valid size address) (intra_unit s size address earlier)
  unfolding intra_unit
  gives_intra size address earlier known inside fits =
      let left : Square = left_of s address earlier in
      let above : Square = above_of s address earlier in
      let edge : Bool = nat_eq (row_of address) 0 in
      gives_after (Valid size address) (intra_part_mode size) _ (λ m.
      gives_then (λ mode. mode < intra_modes) (Valid size address)
      (luma_mode (candidates s address earlier)) _
      (gives_mode (candIntraPredMode left) (cond edge dc (candIntraPredMode above))
      (candidate_is_mode left (sees earlier known _ _))
      (mode_above_is_mode edge above (sees earlier known _ _)))
      (λ mode is_mode.
      gives_after (Valid size address) intra_chroma_pred_mode _ (λ n.
      gives_then (AreUnits size) (Valid size address) (transform_tree (Intra mode) size) _
      (gives_tree (Intra mode) size)
      (λ units are. leaf_valid size address (Intra mode) units inside fits is_mode are))))

  gives_inter : (size address : ℕ) → s.slice_type ≡ P →
      is_outside s.site address ≡ false → must_split s.site size address ≡ false →
      Gives (Valid size address) (inter_unit s.references size)
  unfolding inter_unit
  gives_inter size address is_P inside fits =
      let some : HasReferences P s.references =
      subst (λ k. HasReferences k s.references) is_P has in
      gives_after (Valid size address) part_mode _ (λ m.
      gives_then (IsMotion s.references) (Valid size address) (prediction_unit s.references) _
      (gives_motion s.references some.0 some.1)
      (λ motion is_motion root.
      gives_then (AreUnits size) (Valid size address) (rooted_tree (Inter motion) size root) _
      (gives_rooted (Inter motion) size root)
      (λ units are.
      leaf_valid size address (Inter motion) units inside fits
      (subst (λ k. IsPrediction k s.references (Inter motion)) (sym is_P) is_motion) are)))

  -- behind cu_skip_flag
  skip_by : (skip : Bool) (size address : ℕ) (a b : UnitScript Tree) →
      Gives (Valid size address) a → Gives (Valid size address) b →
      (let checked : UnitScript (Unit {0}) = only_if (same skip false) (Done tt) in
      Gives (Valid size address)
      ((checked >>= λ _. ask (context PredMode 0)) >>= λ intra. cond intra a b))
  skip_by true size address a b g h = tt
  skip_by false size address a b g h =
      λ intra. gives_either (Valid size address) intra a b (λ is_intra. g) (λ is_inter. h)

  kind_by : (kind : SliceKind) → s.slice_type ≡ kind → (size address : ℕ)
      (a b : UnitScript Tree) → Gives (Valid size address) a →
      (s.slice_type ≡ P → Gives (Valid size address) b) →
      Gives (Valid size address) (pred_mode_flag kind >>= λ intra. cond intra a b)
  kind_by I e size address a b g h = g
  kind_by P e size address a b g h = λ skip. skip_by skip size address a b g (h e)

  gives_coding_unit : (size address : ℕ) (earlier : List Square) → HaveModes earlier →
      is_outside s.site address ≡ false → must_split s.site size address ≡ false →
      Gives (Valid size address) (coding_unit s size address earlier)
  unfolding coding_unit
  gives_coding_unit size address earlier known inside fits =
      kind_by s.slice_type refl size address _ _
      (gives_intra size address earlier known inside fits)
      (λ is_P. gives_inter size address is_P inside fits)

  -- ---- coding quadtrees

  -- what is to be shown of all nodes of a size
  Nodes : ℕ → Type 0
  Nodes size =
      (address : ℕ) (earlier : List Square) → HaveModes earlier →
      Gives (Valid size address) (coding_quadtree s size address earlier)

  modes_behind : (size address : ℕ) (earlier : List Square) (tree : Tree) → HaveModes earlier →
      Valid size address tree → HaveModes (after size earlier tree)
  unfolding Valid
  modes_behind size address earlier tree known valid =
      modes_then earlier _ known
      (modes_of_node s.slice_type s.references s.site size address tree valid)

  gives_four : (size address : ℕ) (earlier : List Square) → Nodes size → HaveModes earlier →
      is_outside s.site address ≡ false →
      Gives (Valid (suc size) address) (four_nodes (coding_quadtree s size) size address earlier)
  unfolding Nodes Valid IsValidNode
  gives_four size address earlier nodes known inside =
      let n : ℕ = squares size in
      gives_then (Valid size address) (Valid (suc size) address)
      (coding_quadtree s size address earlier) _ (nodes address earlier known)
      (λ a is_a.
      let behind_a : List Square = after size earlier a in
      let known_a : HaveModes behind_a = modes_behind size address earlier a known is_a in
      gives_then (Valid size (address + n)) (Valid (suc size) address)
      (coding_quadtree s size (address + n) behind_a) _ (nodes (address + n) behind_a known_a)
      (λ b is_b.
      let behind_b : List Square = after size behind_a b in
      let known_b : HaveModes behind_b = modes_behind size (address + n) behind_a b known_a is_b in
      gives_then (Valid size (address + 2 * n)) (Valid (suc size) address)
      (coding_quadtree s size (address + 2 * n) behind_b) _
      (nodes (address + 2 * n) behind_b known_b)
      (λ c is_c.
      let behind_c : List Square = after size behind_b c in
      let known_c : HaveModes behind_c =
      modes_behind size (address + 2 * n) behind_b c known_b is_c in
      gives_then (Valid size (address + 3 * n)) (Valid (suc size) address)
      (coding_quadtree s size (address + 3 * n) behind_c) _
      (nodes (address + 3 * n) behind_c known_c)
      (λ d is_d. (inside, is_a, is_b, is_c, is_d)))))

  outside_valid : (size address : ℕ) → is_outside s.site address ≡ true →
      Valid size address Outside
  unfolding Valid IsValidNode
  outside_valid zero address e = e
  outside_valid (suc size) address e = e

  split_by : (crossing : Bool) (size address : ℕ) (earlier : List Square) →
      crosses s.site (suc size) address ≡ crossing → (a b : UnitScript Tree) →
      Gives (Valid (suc size) address) a →
      (crosses s.site (suc size) address ≡ false → Gives (Valid (suc size) address) b) →
      Gives (Valid (suc size) address)
      (cond crossing (Done true) (ask (context SplitFlag (split_ctxInc s (suc size) address
      earlier)))
      >>= λ split. cond split a b)
  split_by true size address earlier e a b g h = g
  split_by false size address earlier e a b g h = λ split.
      gives_either (Valid (suc size) address) split a b (λ is_split. g) (λ is_leaf. h e)

  gives_nodes : (size : ℕ) → Nodes size
  unfolding Nodes coding_quadtree
  gives_nodes zero address earlier known =
      gives_either (Valid zero address) (is_outside s.site address) _ _
      (λ outside. outside_valid zero address outside)
      (λ inside. gives_coding_unit zero address earlier known inside refl)
  gives_nodes (suc size) address earlier known =
      gives_either (Valid (suc size) address) (is_outside s.site address) _ _
      (λ outside. outside_valid (suc size) address outside)
      (λ inside.
      split_by (crosses s.site (suc size) address) size address earlier refl
      (four_nodes (coding_quadtree s size) size address earlier)
      (coding_unit s (suc size) address earlier)
      (gives_four size address earlier (λ a e k. gives_nodes size a e k) known inside)
      (λ fits. gives_coding_unit (suc size) address earlier known inside fits))

pub gives_node : (s : Surroundings) (size address : ℕ) (earlier : List Square) →
    HasReferences s.slice_type s.references → SeesModes s.look → HaveModes earlier →
    Gives (λ tree. IsValidNode s.slice_type s.references s.site size address tree)
    (coding_quadtree s size address earlier)
unfolding Nodes Valid
gives_node s size address earlier has sees known =
    gives_nodes s has sees size address earlier known

pub read_nodes : NodesThatAreReadMayBeCoded
read_nodes s size address earlier bins tree has sees known r =
    given (λ t. IsValidNode s.slice_type s.references s.site size address t)
    (gives_node s size address earlier has sees known) r

-- ---- slice data

gives_unit_of_slice : (s : Surroundings) → HasReferences s.slice_type s.references →
    SeesModes s.look →
    Gives
    (λ unit. AreOffsets unit.sao × IsValidTree s.slice_type s.references s.site unit.tree)
    (coding_tree_unit s)
gives_unit_of_slice s has sees =
    let Whole : CodingTreeUnit → Type 0 =
    λ unit. AreOffsets unit.sao × IsValidTree s.slice_type s.references s.site unit.tree in
    let Node : Tree → Type 0 =
    λ tree. IsValidNode s.slice_type s.references s.site greatest_size 0 tree in
    gives_then AreOffsets Whole (in_slice (sao s.site)) _
    (gives_in_slice AreOffsets (sao s.site) (gives_sao s.site)) (λ offsets are.
    gives_then Node Whole (in_slice (coding_quadtree s greatest_size 0 [])) _
    (gives_in_slice Node (coding_quadtree s greatest_size 0 [])
    (gives_node s greatest_size 0 [] has sees tt)) (λ tree is_node last.
    (are, is_node)))

flags_same : (a b : Bool) → same a b ≡ true → a ≡ b
flags_same true b h = sym h
flags_same false true h = h
flags_same false false h = refl

gives_slice : (slice_type : SliceKind) (references : ℕ) (done : List Square) (sites : List Site) →
    HasReferences slice_type references → HaveModes done →
    Gives (AreValid slice_type references sites) (slice_data_from slice_type references done sites)
gives_slice slice_type references done [] has known = tt
gives_slice slice_type references done (site ∷ sites) has known =
    gives_then
    (λ unit. AreOffsets unit.sao × IsValidTree slice_type references site unit.tree)
    (AreValid slice_type references (site ∷ sites))
    (coding_tree_unit (in_picture slice_type references site done)) _
    (gives_unit_of_slice (in_picture slice_type references site done) has
    (picture_sees site done known))
    (λ unit is_unit.
    gives_if (AreValid slice_type references (site ∷ sites))
    (same unit.end_of_slice_segment_flag (is_empty sites)) _
    (λ ended.
    gives_then (AreValid slice_type references sites)
    (AreValid slice_type references (site ∷ sites))
    (slice_data_from slice_type references (after greatest_size done unit.tree) sites) _
    (gives_slice slice_type references (after greatest_size done unit.tree) sites has
    (modes_then done _ known
    (modes_of_node slice_type references site greatest_size 0 unit.tree is_unit.1)))
    (λ units are.
    (is_unit.0, is_unit.1, flags_same unit.end_of_slice_segment_flag (is_empty sites) ended, are))))

pub read_slice : SliceDataThatIsReadMayBeCoded
read_slice slice_type references sites bins units has r =
    given (AreValid slice_type references sites)
    (gives_slice slice_type references [] sites has tt) r
