-- A leaf that was set and coded is chosen, as the nodes of a coding tree block are: what comes
-- before it is kept, its squares name it, and what is decoded behind it is seen.
use Rattle.std.proofs.Common.{◌≡◌, ℕ, zero, suc, ◌+◌, ◌-◌, ◌^◌, ◌<◌, ◌≤◌, true, false, List, ◌++◌, length, take, drop, replicate, get_or, refl, sym, ap, ◌∙◌, arith, length-append}
use Rattle.std.specs.Prelude.{Some, slice_get, slice_index_or, map, option_map}
use Rattle.std.proofs.Math.Dec.{lit≤}
use Rattle.std.proofs.lemmas.Bool.Decides.{nat_tests}
use Rattle.std.proofs.lemmas.List.{take_at, length-take-le, length-replicate, get_or-append_right, get_or_append_left, get_or-replicate}
use Rattle.std.proofs.lemmas.Option.{slice_get-get_or, slice_get-map}
use Rattle.hv_block.specs.declared.block.Block.{Block}
use Rattle.hv_block.specs.Plans.{with_units, unit_of}
use Rattle.hv_plan.specs.declared.prediction.Pred.{Pred}
use Rattle.hv_plan.specs.declared.prediction.Pred.TheVariants.{Intra as IntraPred}
use Rattle.hv_plan.specs.declared.prediction.Unit.{Unit}
use Rattle.hv_tree_model.specs.Trees.{Intra, TransformUnit, Tree, Leaf, side, depth_of, log2TrafoSize, transform_units}
use Rattle.hv_tree_model.specs.Sites.{Site, x0, y0, squares, is_outside}
use Rattle.hv_tree_model.specs.EarlierUnits.{Square, Unavailable, Coded, squares_of}
use Rattle.hv_tree_model.specs.Plans.{Plan, leaf_at, leaf_of, tree_at, transform_units_at, prediction_of, square_or_none}
use Rattle.hv_near.specs.Squares.{NamesNode}
use Rattle.hv_recon.specs.CodedLeaves.{IsLeafCoded, IsLeafSet}
use Rattle.hv_recon.specs.DecodedNodes.{IsNodeOfBlock, DecodesNode, is_whole}
use Rattle.hv_recon.specs.Leaves.{lists_of_plan, lists_with_vectors, leaf_of_plan, DecodesLeaf, KeepsOtherSamples}
use Rattle.hv_recon.proofs.NodeLemmas.{leaf_node, leaf_as_node}
use Rattle.hv_recon_model.specs.Reconstruction.{decoded_tree}
use Rattle.hv_inter_model.specs.UnitVectors.{pred_with_vector, unit_with_vector}
use Rattle.hv_recon.proofs.UnitLemmas.{UnitInPicture}
use Rattle.hv_mode_model.specs.ModeDecision.{Before, coded_node, leaf}
use Rattle.hv_mode_model.specs.Differences.{tree_with_differences}
use Rattle.hv_mode.specs.declared.task.Task.{Task}
use Rattle.hv_mode.specs.Nodes.{given_of, Stands, SameBefore, Decides}
use Rattle.hv_mode.specs.Vectors.{references_of}
use Rattle.hv_mode.proofs.NodeFrameLemmas.{decides_by}
use Rattle.hv_mode.proofs.ChosenUnitLemmas.{leaf_chosen}
use Rattle.hv_tree_model.proofs.NodeLemmas.{leaf_squares}
use Rattle.hv_recon.proofs.CodedLeafLemmas.{some_squares}

-- ---- the units of a leaf

-- each of those that were written
pub unit_written : (units : List Unit) (from count i : ℕ) (unit : Unit) → from ≤ length units →
    i < count → slice_get (with_units units from count unit) (from + i) ≡ Some unit
unit_written units from count i unit room below =
    let start : length (take from units) ≡ from = length-take-le from units room in
    let rest : List Unit = drop (from + count) units in
    let filled : List Unit = replicate count unit in
    let long : length filled ≡ count = length-replicate count unit in
    let at : from + i - from ≡ i = omega arith in
    slice_get-get_or (take from units ++ (filled ++ rest)) (from + i) unit
    (omega (
      arith,
      below,
      start,
      long,
      length-append (take from units) (filled ++ rest),
      length-append filled rest,
    )) ∙
    ap Some
    (get_or-append_right (take from units) (filled ++ rest) from (from + i) unit start
    (omega arith) ∙
    ap (λ k. get_or (filled ++ rest) k unit) at ∙
    get_or_append_left filled rest unit i (omega (arith, below, long)) ∙
    get_or-replicate count i unit unit below)

squares_are : (size : ℕ) → size ≤ 3 → squares size ≡ 4 ^ size
squares_are zero few = refl
squares_are (suc zero) few = refl
squares_are (suc (suc zero)) few = refl
squares_are (suc (suc (suc zero))) few = refl
squares_are (suc (suc (suc (suc size)))) few = absurd (omega (arith, few))

one_unit : (size : ℕ) (pred : Pred) → is_whole size (Some (unit_of (3 - size) pred)) ≡ true
one_unit zero pred = refl
one_unit (suc size) pred = grind (arith, nat_tests)

pub leaf_inside : (place : Site) (size address : ℕ) → UnitInPicture place size address →
    1 ≤ side size → is_outside place address ≡ false
unfolding is_outside
leaf_inside place size address inside some =
    grind (arith, nat_tests, inside.across, inside.down, some)

pub some_side : (size : ℕ) → size ≤ 3 → 1 ≤ side size
some_side zero few = lit≤ tt
some_side (suc zero) few = lit≤ tt
some_side (suc (suc zero)) few = lit≤ tt
some_side (suc (suc (suc zero))) few = lit≤ tt
some_side (suc (suc (suc (suc size)))) few = absurd (omega (arith, few))

-- ---- what comes before is kept

pub start_kept : (units new : List Unit) (from count : ℕ) (unit : Unit) → from ≤ length units →
    new ≡ with_units units from count unit → take from new ≡ take from units
start_kept units new from count unit room is =
    ap (λ l. take from l) is ∙ take_at (take from units) _ from (length-take-le from units room)

pub before_kept : (size address mode : ℕ) (old new : Block) → address ≤ length old.plan.units →
    IsLeafSet size address mode old.plan new.plan →
    KeepsOtherSamples size address old.samples new.samples → SameBefore address old new
before_kept size address mode old new room set kept = record {
  units = start_kept old.plan.units new.plan.units address (4 ^ size) _ room set.units;
  luma_levels = set.luma;
  cb_levels = set.cb;
  cr_levels = set.cr;
  luma = record { sample = λ x y across down h. kept.luma.before x y across down h };
  cb = record { sample = λ x y across down h. kept.cb.before x y across down h };
  cr = record { sample = λ x y across down h. kept.cr.before x y across down h };
}

-- ---- what a leaf names

-- a plan that has this unit in the squares of the leaf
module _ (place : Site) (size address : ℕ) (pred : Pred) (plan : Plan)
    (node : IsNodeOfBlock size address) (inside : UnitInPicture place size address)
    (there : (i : ℕ) → i < squares size →
    slice_get plan.units (address + i) ≡ Some (unit_of (3 - size) pred)) where
  abbrev own : Square
  own = Coded (depth_of size) (prediction_of pred)

  first_there : slice_get plan.units address ≡ Some (unit_of (3 - size) pred)
  first_there =
      let at : address ≡ address + 0 = omega arith in
      ap (slice_get plan.units) at ∙
      there 0 (omega (
        arith,
        squares_are size node.size_at_most,
        some_squares size node.size_at_most,
      ))

  pub leaf_is : leaf_of_plan plan size address ≡ leaf_of plan size address pred
  leaf_is = ap (leaf_at plan size address) first_there

  pub whole_is : is_whole size (slice_get plan.units address) ≡ true
  whole_is = ap (is_whole size) first_there ∙ one_unit size pred

  pub node_is : tree_at place plan size address ≡ leaf_of plan size address pred
  node_is =
      leaf_node plan size address place
      (leaf_inside place size address inside (some_side size node.size_at_most)) whole_is ∙
      leaf_is

  squares_at : (i : ℕ) (units : List TransformUnit) → i < squares size →
      slice_index_or (squares_of size (Leaf (prediction_of pred) units)) i Unavailable ≡ own
  squares_at i units below =
      ap (λ l. slice_index_or l i Unavailable) (leaf_squares size (prediction_of pred) units) ∙
      get_or-replicate (squares size) i own Unavailable below

  pub names_leaf : NamesNode place plan size address
  names_leaf = record {
    square = λ i below _.
        ap (λ t. slice_index_or (squares_of size t) i Unavailable) node_is ∙
        squares_at i (transform_units_at plan (log2TrafoSize size) address
        (transform_units size)) below ∙ sym (ap square_or_none (there i below));
  }

-- so has the plan where the leaf was set, and with their vectors its units have its vector
module _ (size address : ℕ) (pred : Pred) (units new : List Unit)
    (node : IsNodeOfBlock size address) (room : length units ≡ 64)
    (is : new ≡ with_units units address (4 ^ size) (unit_of (3 - size) pred)) where
  pub unit_there : (i : ℕ) → i < squares size →
      slice_get new (address + i) ≡ Some (unit_of (3 - size) pred)
  unit_there i below =
      ap (λ l. slice_get l (address + i)) is ∙
      unit_written units address (4 ^ size) i (unit_of (3 - size) pred)
      (omega (arith, node.inside, room)) (omega (arith, below, squares_are size node.size_at_most))

  pub moving_there : (i : ℕ) → i < squares size →
      slice_get (map unit_with_vector new) (address + i) ≡
      Some (unit_of (3 - size) (pred_with_vector pred))
  moving_there i below =
      slice_get-map unit_with_vector new (address + i) ∙
      ap (option_map unit_with_vector) (unit_there i below)

-- ---- the leaf is chosen

abbrev LeafTree : Task → ℕ → ℕ → Before → ℕ → Tree
LeafTree t size address before mode = leaf (given_of t) size address before (Intra mode)

-- it is coded as it is
intra_coded : (t : Task) (size address : ℕ) (before : Before) (mode : ℕ) →
    coded_node (given_of t) size address before (LeafTree t size address before mode) ≡
    LeafTree t size address before mode
unfolding leaf tree_with_differences
intra_coded t size address before mode = refl

module _ (t : Task) (size address mode : ℕ) (old new : Block) (node : IsNodeOfBlock size address)
    (inside : UnitInPicture t.place size address) (room : length old.plan.units ≡ 64)
    (coded : IsLeafCoded t.input.now new.plan t.place t.near.now size address mode t.qp old.samples
    new.samples) (set : IsLeafSet size address mode old.plan new.plan)
    (decoded : DecodesLeaf (lists_of_plan new.plan) size address t.place t.qp (references_of t)
    t.near.now old.samples new.samples)
    (kept : KeepsOtherSamples size address old.samples new.samples) where
  abbrev plan : Plan
  plan = lists_of_plan new.plan

  abbrev moving : Plan
  moving = lists_with_vectors new.plan

  there : (i : ℕ) → i < squares size →
      slice_get plan.units (address + i) ≡ Some (unit_of (3 - size) (IntraPred mode))
  there =
      unit_there size address (IntraPred mode) old.plan.units new.plan.units node room set.units

  moved_there : (i : ℕ) → i < squares size →
      slice_get moving.units (address + i) ≡ Some (unit_of (3 - size) (IntraPred mode))
  moved_there =
      moving_there size address (IntraPred mode) old.plan.units new.plan.units node room set.units

  made : (before : Before) → Stands t old address before →
      leaf_of plan size address (IntraPred mode) ≡ LeafTree t size address before mode
  made before stands =
      leaf_chosen t new.plan size address mode old.samples new.samples before node.size_at_most
      node.inside node.multiple inside coded stands.decoded

  stays : leaf_of_plan moving size address ≡ leaf_of_plan plan size address
  stays =
      leaf_is t.place size address (IntraPred mode) moving node inside moved_there ∙
      sym (leaf_is t.place size address (IntraPred mode) plan node inside there)

  decodes : DecodesNode moving size address t.place t.qp (references_of t) t.near.now old.samples
      new.samples
  decodes =
      leaf_as_node moving size address t.place t.qp (references_of t) t.near.now old.samples
      new.samples
      (leaf_inside t.place size address inside (some_side size node.size_at_most))
      (whole_is t.place size address (IntraPred mode) moving node inside moved_there) (λ d seen.
      let r = decoded d seen in (
        r.0,
        ap (λ tree. decoded_tree t.qp size (x0 t.place address) (y0 t.place address) tree d) stays ∙
            r.1,
        r.2,
      ))

  -- by any choice that takes this mode wherever the old block may stand
  pub decides_leaf : (choice : Before → Tree) →
      ((before : Before) → Stands t old address before →
      choice before ≡ LeafTree t size address before mode) →
      Decides t size address choice old new
  decides_leaf choice same =
      decides_by t size address choice old new
      (before_kept size address mode old new (omega (arith, node.inside, room)) set kept)
      (names_leaf t.place size address (IntraPred mode) plan node inside there)
      (names_leaf t.place size address (IntraPred mode) moving node inside moved_there)
      (λ before stands.
      node_is t.place size address (IntraPred mode) moving node inside moved_there ∙
      made before stands ∙
      sym (same before stands))
      (λ before stands.
      node_is t.place size address (IntraPred mode) plan node inside there ∙ made before stands ∙
      sym (intra_coded t size address before mode) ∙
      ap (coded_node (given_of t) size address before) (sym (same before stands)))
      decodes
