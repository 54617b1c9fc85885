-- A node that becomes one coding unit of mode DC without a level: its units name it, and it decodes
-- as the leaf that is chosen (8.4.4.1).
use Rattle.std.proofs.Common.{◌≡◌, ℕ, zero, suc, ◌+◌, ◌-◌, ◌*◌, ◌^◌, ◌<◌, ◌≤◌, true, false, List, [], ◌∷◌, ◌++◌, replicate, length, take, drop, drop-drop, refl, sym, ap, ap₂, ◌∙◌, subst, arith, ℤ, pos}
use Rattle.std.specs.Prelude.{slice_get, Some, option_map}
use Rattle.std.proofs.Math.Nat.{pow-suc}
use Rattle.std.proofs.lemmas.Bool.Decides.{nat_tests}
use Rattle.hv_types.specs.declared.picture.Picture.{Picture}
use Rattle.hv_block.specs.declared.block.Block.{Block}
use Rattle.hv_block.specs.Plans.{CtbPlan, IsWholePlan, unit_of, with_zeros, with_leaf, without_levels}
use Rattle.hv_plan.specs.declared.prediction.Pred.TheVariants.{Intra as IntraPred}
use Rattle.hv_plan.specs.declared.prediction.Unit.{Unit}
use Rattle.hv_tree_model.specs.Trees.{Leaf, Intra, side, depth_of, log2TrafoSize, transform_units, no_levels, no_unit, no_units}
use Rattle.hv_tree_model.specs.Sites.{Site, x0, y0, squares, is_outside}
use Rattle.hv_tree_model.specs.MostProbableModes.{dc}
use Rattle.hv_tree_model.specs.Plans.{Plan, part, square_or_none, transform_unit_at, transform_units_at, leaf_at, tree_at}
use Rattle.hv_recon.specs.Leaves.{DecodesLeaf, KeepsOtherSamples, IsKnown, lists_with_vectors}
use Rattle.hv_recon.specs.DecodedNodes.{node_of_plan, is_whole, IsNodeOfBlock}
use Rattle.hv_recon.proofs.NodeLemmas.{leaf_node, leaf_as_node}
use Rattle.hv_syntax.specs.Blocks.{ends}
use Rattle.hv_near.specs.Neighbours.{lists_of_plan}
use Rattle.hv_near.specs.Squares.{NamesNode}
use Rattle.hv_syntax.proofs.NamingLemmas.{names_leaf}
use Rattle.hv_mode.specs.declared.task.Task.{Task}
use Rattle.hv_mode_model.specs.ModeDecision.{Before, coded_node}
use Rattle.hv_mode_model.specs.Differences.{tree_with_differences}
use Rattle.hv_mode.specs.Nodes.{given_of, moving_node, SameBefore, Decides, blank_choice}
use Rattle.hv_mode.specs.Vectors.{references_of}
use Rattle.hv_mode.proofs.CopyLemmas.{node_fits, squares_of_size, front_stays, behind_front}
use Rattle.hv_mode.proofs.NodeFrameLemmas.{decides_by}
use Rattle.hv_tree_model.proofs.NodeLemmas.{squares_above_0}
use Rattle.hv_mode.proofs.BestLemmas.{begins_inside}
use Rattle.std.proofs.lemmas.Option.{slice_get-map}
use Rattle.hv_inter_model.specs.UnitVectors.{unit_with_vector}

-- ---- parts of a list that are all the same

same_in : {A : Type 0} (value : A) (from few count : ℕ) (rest : List A) → from + few ≤ count →
    take few (drop from (replicate count value ++ rest)) ≡ replicate few value
same_in value zero zero count rest fits = refl
same_in value zero (suc few) zero rest fits = absurd (omega (arith, fits))
same_in value zero (suc few) (suc count) rest fits =
    ap (λ l. value ∷ l) (same_in value zero few count rest (omega (arith, fits)))
same_in value (suc from) few zero rest fits = absurd (omega (arith, fits))
same_in value (suc from) few (suc count) rest fits =
    same_in value from few count rest (omega (arith, fits))

zeros_in : (levels : List ℤ) (first from few count : ℕ) → first ≤ length levels →
    from + few ≤ count →
    part (with_zeros levels first count) (first + from) few ≡ replicate few (pos 0)
zeros_in levels first from few count fits within =
    let rest : List ℤ = drop (first + count) levels in
    ap (take few) (sym (drop-drop from first (with_zeros levels first count)) ∙
    ap (drop from) (behind_front levels (replicate count (pos 0) ++ rest) first fits)) ∙
    same_in (pos 0) from few count rest within

got_same : {A : Type 0} (value : A) (i count : ℕ) (rest : List A) → i < count →
    slice_get (replicate count value ++ rest) i ≡ Some value
got_same value i zero rest below = absurd (omega (arith, below))
got_same value zero (suc count) rest below = refl
got_same value (suc i) (suc count) rest below =
    got_same value i count rest (omega (arith, below))

got_behind : {A : Type 0} (value : A) (list rest : List A) (first i count : ℕ) →
    first ≤ length list → i < count →
    slice_get (take first list ++ (replicate count value ++ rest)) (first + i) ≡ Some value
got_behind value list rest zero i count fits below =
    let e : zero + i ≡ i = omega arith in
    ap (slice_get (replicate count value ++ rest)) e ∙ got_same value i count rest below
got_behind value [] rest (suc first) i count fits below = absurd (omega (arith, fits))
got_behind value (x ∷ list) rest (suc first) i count fits below =
    let e : suc first + i ≡ suc (first + i) = omega arith in
    ap (slice_get (take (suc first) (x ∷ list) ++ (replicate count value ++ rest))) e ∙
    got_behind value list rest first i count (omega (arith, fits)) below

-- ---- the plan

abbrev blank_unit : ℕ → Unit
blank_unit size = unit_of (depth_of size) (IntraPred dc)

abbrev blank_plan : ℕ → ℕ → CtbPlan → CtbPlan
blank_plan size address old =
    with_leaf (without_levels old size address) size address (IntraPred dc)

module _ (size address : ℕ) (old : CtbPlan) (node : IsNodeOfBlock size address)
    (whole : IsWholePlan old) where
  abbrev new : CtbPlan
  new = blank_plan size address old

  room : address + squares size ≤ 64
  room = (node_fits size address node).2

  count : 4 ^ size ≡ squares size
  count = squares_of_size size

  unit_at : (i : ℕ) → i < squares size → slice_get new.units (address + i) ≡ Some (blank_unit size)
  unit_at i below =
      got_behind (blank_unit size) old.units (drop (address + 4 ^ size) old.units) address i
      (4 ^ size) (omega (arith, room, whole.units)) (omega (arith, count, below))

  luma_zeros : (from few : ℕ) → from + few ≤ 64 * squares size →
      part new.luma (64 * address + from) few ≡ replicate few (pos 0)
  luma_zeros from few fits =
      zeros_in old.luma (64 * address) from few (64 * 4 ^ size)
      (omega (arith, room, whole.luma)) (omega (arith, count, fits))

  cb_zeros : (from few : ℕ) → from + few ≤ 16 * squares size →
      part new.cb (16 * address + from) few ≡ replicate few (pos 0)
  cb_zeros from few fits =
      zeros_in old.cb (16 * address) from few (16 * 4 ^ size)
      (omega (arith, room, whole.cb)) (omega (arith, count, fits))

  cr_zeros : (from few : ℕ) → from + few ≤ 16 * squares size →
      part new.cr (16 * address + from) few ≡ replicate few (pos 0)
  cr_zeros from few fits =
      zeros_in old.cr (16 * address) from few (16 * 4 ^ size)
      (omega (arith, room, whole.cr)) (omega (arith, count, fits))

  -- the transform unit so many squares behind the first
  unit_blank : (log2 from step : ℕ) → 2 ^ log2 * 2 ^ log2 ≡ 64 * step →
      2 ^ (log2 - 1) * 2 ^ (log2 - 1) ≡ 16 * step → from + step ≤ squares size →
      transform_unit_at (lists_of_plan new) log2 (address + from) ≡ no_unit log2
  unfolding no_levels
  unit_blank log2 from step is_luma is_chroma fits =
      let a : 64 * (address + from) ≡ 64 * address + 64 * from = omega arith in
      let b : 16 * (address + from) ≡ 16 * address + 16 * from = omega arith in
      let n : ℕ = 2 ^ log2 * 2 ^ log2 in
      let m : ℕ = 2 ^ (log2 - 1) * 2 ^ (log2 - 1) in
      let luma : part new.luma (64 * (address + from)) n ≡ replicate n (pos 0) =
      ap (λ (k : ℕ). part new.luma k n) a ∙
      luma_zeros (64 * from) n (omega (arith, is_luma, fits)) in
      let cb : part new.cb (16 * (address + from)) m ≡ replicate m (pos 0) =
      ap (λ (k : ℕ). part new.cb k m) b ∙
      cb_zeros (16 * from) m (omega (arith, is_chroma, fits)) in
      let cr : part new.cr (16 * (address + from)) m ≡ replicate m (pos 0) =
      ap (λ (k : ℕ). part new.cr k m) b ∙
      cr_zeros (16 * from) m (omega (arith, is_chroma, fits)) in
      λ i. record { luma = luma i; cb = cb i; cr = cr i }

  -- so many of them, from there on
  units_blank : (log2 from step few : ℕ) → squares (log2 - 3) ≡ step →
      2 ^ log2 * 2 ^ log2 ≡ 64 * step → 2 ^ (log2 - 1) * 2 ^ (log2 - 1) ≡ 16 * step →
      from + few * step ≤ squares size →
      transform_units_at (lists_of_plan new) log2 (address + from) few ≡
      replicate few (no_unit log2)
  units_blank log2 from step zero is is_luma is_chroma fits = refl
  units_blank log2 from step (suc few) is is_luma is_chroma fits =
      let next : address + from + squares (log2 - 3) ≡ address + (from + step) =
      omega (arith, is) in
      let here : from + step ≤ squares size = omega (arith, fits) in
      let rest : from + step + few * step ≤ squares size = omega (arith, fits) in
      ap₂ (λ u us. u ∷ us) (unit_blank log2 from step is_luma is_chroma here)
      (ap (λ (a : ℕ). transform_units_at (lists_of_plan new) log2 a few) next ∙
      units_blank log2 (from + step) step few is is_luma is_chroma rest)

  unit_there : slice_get new.units address ≡ Some (blank_unit size)
  unit_there =
      let first : address + 0 ≡ address = omega arith in
      ap (slice_get new.units) (sym first) ∙ unit_at 0 (squares_above_0 size)

-- the transform units of the node
blank_units : (size address : ℕ) (old : CtbPlan) → IsNodeOfBlock size address → IsWholePlan old →
    transform_units_at (lists_of_plan (blank_plan size address old)) (log2TrafoSize size) address
    (transform_units size) ≡
    no_units size
unfolding no_units
blank_units zero address old node whole =
    let first : address ≡ address + 0 = omega arith in
    ap (λ (a : ℕ). transform_units_at (lists_of_plan (blank_plan 0 address old)) 3 a 1) first ∙
    units_blank 0 address old node whole 3 0 1 1 refl refl refl (omega arith)
blank_units (suc zero) address old node whole =
    let first : address ≡ address + 0 = omega arith in
    ap (λ (a : ℕ). transform_units_at (lists_of_plan (blank_plan 1 address old)) 4 a 1) first ∙
    units_blank 1 address old node whole 4 0 4 1 refl refl refl (omega arith)
blank_units (suc (suc zero)) address old node whole =
    let first : address ≡ address + 0 = omega arith in
    ap (λ (a : ℕ). transform_units_at (lists_of_plan (blank_plan 2 address old)) 5 a 1) first ∙
    units_blank 2 address old node whole 5 0 16 1 refl refl refl (omega arith)
blank_units (suc (suc (suc zero))) address old node whole =
    let first : address ≡ address + 0 = omega arith in
    ap (λ (a : ℕ). transform_units_at (lists_of_plan (blank_plan 3 address old)) 5 a 4) first ∙
    units_blank 3 address old node whole 5 0 16 4 refl refl refl (omega arith)
blank_units (suc (suc (suc (suc size)))) address old node whole =
    absurd (omega (arith, node.size_at_most))

-- ---- the node

ends_own : (size : ℕ) → ends size (depth_of size) ≡ true
ends_own zero = refl
ends_own (suc size) = grind (arith, nat_tests)

whole_own : (size : ℕ) → is_whole size (Some (blank_unit size)) ≡ true
whole_own zero = refl
whole_own (suc size) = grind (arith, nat_tests)

-- the plan has it in its first square, and with its vectors too: an intra unit has none
abbrev moving_plan : ℕ → ℕ → CtbPlan → Plan
moving_plan size address old = lists_with_vectors (blank_plan size address old)

moving_there : (size address : ℕ) (old : CtbPlan) → IsNodeOfBlock size address →
    IsWholePlan old →
    slice_get (moving_plan size address old).units address ≡ Some (blank_unit size)
moving_there size address old node whole =
    slice_get-map unit_with_vector (blank_plan size address old).units address ∙
    ap (option_map unit_with_vector) (unit_there size address old node whole)

blank_names : (place : Site) (size address : ℕ) (old : CtbPlan) → IsNodeOfBlock size address →
    IsWholePlan old → is_outside place address ≡ false →
    NamesNode place (lists_of_plan (blank_plan size address old)) size address
blank_names place size address old node whole inside =
    names_leaf place (lists_of_plan (blank_plan size address old)) size address (blank_unit size)
    inside (unit_there size address old node whole) (ends_own size) refl
    (λ i below there. ap square_or_none (unit_at size address old node whole i below))

moving_names : (place : Site) (size address : ℕ) (old : CtbPlan) → IsNodeOfBlock size address →
    IsWholePlan old → is_outside place address ≡ false →
    NamesNode place (moving_plan size address old) size address
moving_names place size address old node whole inside =
    names_leaf place (moving_plan size address old) size address (blank_unit size)
    inside (moving_there size address old node whole) (ends_own size) refl
    (λ i below there.
    ap square_or_none
    (slice_get-map unit_with_vector (blank_plan size address old).units (address + i) ∙
    ap (option_map unit_with_vector) (unit_at size address old node whole i below)))

one_unit : (size address : ℕ) (plan : Plan) →
    slice_get plan.units address ≡ Some (blank_unit size) →
    is_whole size (slice_get plan.units address) ≡ true
one_unit size address plan there = ap (is_whole size) there ∙ whole_own size

tree_of_unit : (place : Site) (size address : ℕ) (plan : Plan) →
    slice_get plan.units address ≡ Some (blank_unit size) → is_outside place address ≡ false →
    tree_at place plan size address ≡
    Leaf (Intra dc) (transform_units_at plan (log2TrafoSize size) address (transform_units size))
tree_of_unit place size address plan there inside =
    leaf_node plan size address place inside (one_unit size address plan there) ∙
    ap (leaf_at plan size address) there

blank_tree : (place : Site) (size address : ℕ) (old : CtbPlan) → IsNodeOfBlock size address →
    IsWholePlan old → is_outside place address ≡ false →
    node_of_plan place (blank_plan size address old) size address ≡
    Leaf (Intra dc) (no_units size)
blank_tree place size address old node whole inside =
    tree_of_unit place size address (lists_of_plan (blank_plan size address old))
    (unit_there size address old node whole) inside ∙
    ap (Leaf (Intra dc)) (blank_units size address old node whole)

moving_tree : (place : Site) (size address : ℕ) (old : CtbPlan) → IsNodeOfBlock size address →
    IsWholePlan old → is_outside place address ≡ false →
    tree_at place (moving_plan size address old) size address ≡ Leaf (Intra dc) (no_units size)
moving_tree place size address old node whole inside =
    tree_of_unit place size address (moving_plan size address old)
    (moving_there size address old node whole) inside ∙
    ap (Leaf (Intra dc)) (blank_units size address old node whole)

-- it is coded as it is
blank_coded : (t : Task) (size address : ℕ) (before : Before) →
    coded_node (given_of t) size address before (blank_choice size before) ≡
    blank_choice size before
unfolding tree_with_differences
blank_coded t size address before = refl

blank_kept : (size address : ℕ) (old new : Block) → IsNodeOfBlock size address →
    IsWholePlan old.plan → new.plan ≡ blank_plan size address old.plan →
    KeepsOtherSamples size address old.samples new.samples → SameBefore address old new
blank_kept size address old new node whole is kept =
    let fits = (node_fits size address node).2 in
    record {
      units = ap (λ p. take address p.units) is ∙
          front_stays old.plan.units _ address (omega (arith, fits, whole.units));
      luma_levels = ap (λ p. take (64 * address) p.luma) is ∙
          front_stays old.plan.luma _ (64 * address) (omega (arith, fits, whole.luma));
      cb_levels = ap (λ p. take (16 * address) p.cb) is ∙
          front_stays old.plan.cb _ (16 * address) (omega (arith, fits, whole.cb));
      cr_levels = ap (λ p. take (16 * address) p.cr) is ∙
          front_stays old.plan.cr _ (16 * address) (omega (arith, fits, whole.cr));
      luma = record { sample = kept.luma.before };
      cb = record { sample = kept.cb.before };
      cr = record { sample = kept.cr.before };
    }

some_power : (size : ℕ) → 1 ≤ 2 ^ size
some_power zero = omega arith
some_power (suc size) = let h = some_power size in omega (arith, h, pow-suc 2 size)

-- the unit is there
blank_there : (size address : ℕ) (old plan : CtbPlan) → IsNodeOfBlock size address →
    IsWholePlan old → plan ≡ blank_plan size address old →
    slice_get plan.units address ≡ Some (record { depth = depth_of size; pred = IntraPred dc })
blank_there size address old plan node whole is =
    ap (λ p. slice_get p.units address) is ∙ unit_there size address old node whole

pub blank_known : (size address : ℕ) (old plan : CtbPlan) → IsNodeOfBlock size address →
    IsWholePlan old → plan ≡ blank_plan size address old →
    (references : List Picture) → IsKnown references (slice_get plan.units address)
blank_known size address old plan node whole is references =
    subst (IsKnown references) (sym (blank_there size address old plan node whole is)) (omega arith)

pub blank_decides : (task : Task) (size address : ℕ) (old new : Block) →
    IsNodeOfBlock size address → IsWholePlan old.plan →
    x0 task.place address + side size ≤ task.place.width →
    y0 task.place address + side size ≤ task.place.height →
    new.plan ≡ blank_plan size address old.plan →
    DecodesLeaf (lists_with_vectors new.plan) size address task.place task.qp
    (references_of task) task.near.now old.samples new.samples →
    KeepsOtherSamples size address old.samples new.samples →
    Decides task size address (blank_choice size) old new
blank_decides task size address old new node whole right bottom is decodes kept =
    let inside = begins_inside task.place size address right bottom in
    decides_by task size address (blank_choice size) old new
    (blank_kept size address old new node whole is kept)
    (subst (λ p. NamesNode task.place (lists_of_plan p) size address) (sym is)
    (blank_names task.place size address old.plan node whole inside))
    (subst (λ p. NamesNode task.place (lists_with_vectors p) size address) (sym is)
    (moving_names task.place size address old.plan node whole inside))
    (λ before stands. ap (λ p. moving_node task.place p size address) is ∙
    moving_tree task.place size address old.plan node whole inside)
    (λ before stands. ap (λ p. node_of_plan task.place p size address) is ∙
    blank_tree task.place size address old.plan node whole inside ∙
    sym (blank_coded task size address before))
    (leaf_as_node (lists_with_vectors new.plan) size address task.place task.qp
    (references_of task) task.near.now old.samples new.samples inside
    (ap (λ p. is_whole size (slice_get (lists_with_vectors p).units address)) is ∙
    one_unit size address (moving_plan size address old.plan)
    (moving_there size address old.plan node whole)) decodes)
