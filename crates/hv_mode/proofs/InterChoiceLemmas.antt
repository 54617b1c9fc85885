-- A leaf that was coded as an inter coding unit is decided: its motion is that of the definition,
-- and what lies in the plan is what is coded of it (8.5.3.2.1).
use Rattle.std.proofs.Common.{◌≡◌, ℕ, ◌+◌, ◌-◌, ◌*◌, ◌^◌, ◌<◌, ◌≤◌, true, false, List, [], length, refl, sym, ap, ap₂, ◌∙◌, arith, ℤ, pos}
use Rattle.std.specs.Prelude.{nat_lt, nat_le, ◌&&◌, take, slice_get, Some, ◌+ℤ◌, ◌-ℤ◌}
use Rattle.std.specs.Int.{w16, int_wrap}
use Rattle.std.proofs.lemmas.Bool.{and_parts, ltb-true}
use Rattle.std.proofs.lemmas.Int.{ints, int_wrap-add_left, int_wrap-add_right}
use Rattle.hv_plan.specs.declared.prediction.Mv.{Mv}
use Rattle.hv_plan.specs.declared.prediction.Pred.{Pred}
use Rattle.hv_plan.specs.declared.prediction.Pred.TheVariants.{Inter as InterPred}
use Rattle.hv_plan.specs.declared.prediction.Unit.{Unit}
use Rattle.hv_block.specs.declared.block.Block.{Block}
use Rattle.hv_block.specs.Plans.{with_units, unit_of}
use Rattle.hv_tree_model.specs.Trees.{Prediction, Inter, TransformUnit, Tree, Leaf, Split, Outside, log2TrafoSize, transform_units}
use Rattle.hv_tree_model.specs.Sites.{squares, is_outside}
use Rattle.hv_tree_model.specs.EarlierUnits.{Square}
use Rattle.hv_tree_model.specs.Plans.{Plan, transform_units_at, look_around}
use Rattle.hv_near.specs.Neighbours.{lists_of_plan, around_of}
use Rattle.hv_near.specs.Squares.{Shows}
use Rattle.hv_recon.specs.DecodedNodes.{IsNodeOfBlock, node_of_plan, is_whole}
use Rattle.hv_recon.specs.Leaves.{lists_with_vectors, leaf_of_plan, DecodesLeaf, KeepsOtherSamples}
use Rattle.hv_recon.proofs.NodeLemmas.{leaf_as_node, leaf_node}
use Rattle.hv_recon.proofs.UnitLemmas.{UnitInPicture}
use Rattle.hv_vector_model.specs.VectorPrediction.{mvpListL0}
use Rattle.hv_vector_model.specs.Vectors.{neighbourhood_of, around_with_vectors, moved_by}
use Rattle.hv_amvp.specs.Entries.{entries}
use Rattle.hv_mode_model.specs.Differences.{difference, tree_with_differences}
use Rattle.hv_mode_model.specs.ModeDecision.{Before, has_list_0, leaf, chosen_units, node_square, predictor, inter_unit, coded_node}
use Rattle.hv_mode.specs.declared.task.Task.{Task}
use Rattle.hv_mode.specs.InterChoices.{names, inter_choice}
use Rattle.hv_mode.specs.Nodes.{given_of, moving_node, Stands, SameBefore, Decides}
use Rattle.hv_mode.specs.Predictors.{candidate_of, predictor_of}
use Rattle.hv_mode.specs.Vectors.{references_of}
use Rattle.hv_mode.proofs.LeafLemmas.{start_kept, leaf_inside, some_side, leaf_is, whole_is, names_leaf, unit_there, moving_there}
use Rattle.hv_mode.proofs.NodeFrameLemmas.{decides_by}

-- ---- an entry that may be named is there

pub entry_there : (t : Task) (entry : ℕ) → names t entry ≡ true → entry < length (references_of t)
entry_there t entry named =
    ltb-true entry (length (references_of t))
    (and_parts (has_list_0 t.kind && nat_le t.references 2 && nat_lt entry t.references) _ named).1

-- ---- a difference

-- of a vector that a decoder makes of a candidate and a difference, it is that difference
less_again : (a c : ℤ) →
    int_wrap w16 (int_wrap w16 (c +ℤ int_wrap w16 a) -ℤ c) ≡ int_wrap w16 a
less_again a c =
    let less : int_wrap w16 (c +ℤ a) -ℤ c ≡ int_wrap w16 (c +ℤ a) +ℤ (pos 0 -ℤ c) =
    omega (arith, ints) in
    let whole : c +ℤ a +ℤ (pos 0 -ℤ c) ≡ a = omega (arith, ints) in
    ap (λ x. int_wrap w16 (x -ℤ c)) (int_wrap-add_right w16 c a) ∙ ap (int_wrap w16) less ∙
    int_wrap-add_left w16 (c +ℤ a) (pos 0 -ℤ c) ∙ ap (int_wrap w16) whole

same_difference : (mv c : Mv) → difference (moved_by c (difference mv c)) c ≡ difference mv c
same_difference mv c =
    ap₂ (λ a b. record { x = a; y = b }) (less_again (mv.x -ℤ c.x) c.x)
    (less_again (mv.y -ℤ c.y) c.y)

-- ---- how the unit moves

abbrev candidates_at : Task → ℕ → ℕ → Before → ℕ → List Mv
candidates_at t size address before entry =
    mvpListL0 (entries t.distances) entry
    (neighbourhood_of (look_around t.place (around_with_vectors (around_of t.near.now))) size
    address before.earlier)

-- as it is chosen
pub record IsMoved (both : List Mv) (mv : Mv) (flag : ℕ) (moved mvd : Mv) : Type 0 where
  pub by_flag : flag ≡ predictor_of both mv
  pub less : mvd ≡ difference mv (candidate_of both flag)
  pub more : moved ≡ moved_by (candidate_of both flag) (difference mv (candidate_of both flag))

abbrev with_motion : ℕ → ℕ → Mv → Prediction
with_motion entry flag mv =
    Inter (record { ref_idx_l0 = entry; mvp_l0_flag = flag; MvdL0 = mv })

abbrev motion_by : ℕ → Mv → List Mv → ℕ → Prediction
motion_by entry mv both flag =
    with_motion entry flag
    (moved_by (candidate_of both flag) (difference mv (candidate_of both flag)))

unit_by : (t : Task) (size address : ℕ) (before : Before) (entry : ℕ) (mv : Mv) →
    motion_by entry mv (candidates_at t size address before entry)
    (predictor_of (candidates_at t size address before entry) mv) ≡
    inter_unit (given_of t) size address before entry mv
unfolding predictor
unit_by t size address before entry mv = refl

units_in : Tree → List TransformUnit
units_in Outside = []
units_in (Leaf prediction units) = units
units_in (Split a b c d) = []

module _ (t : Task) (size address entry flag : ℕ) (mv moved mvd : Mv) (both : List Mv)
    (old new : Block) (node : IsNodeOfBlock size address)
    (inside : UnitInPicture t.place size address) (room : length old.plan.units ≡ 64)
    (units : new.plan.units ≡ with_units old.plan.units address (4 ^ size)
    (unit_of (3 - size) (InterPred entry moved flag mvd))) (is : IsMoved both mv flag moved mvd)
    (those : (earlier : List Square) → Shows t.place (lists_with_vectors old.plan) address earlier →
    both ≡ mvpListL0 (entries t.distances) entry
    (neighbourhood_of (look_around t.place (around_with_vectors (around_of t.near.now))) size
    address earlier))
    (chosen : (before : Before) → before.decoded.references ≡ references_of t →
    leaf_of_plan (lists_with_vectors new.plan) size address ≡
    leaf (given_of t) size address before (with_motion entry flag moved)) where
  abbrev plan : Plan
  plan = lists_of_plan new.plan

  abbrev moving : Plan
  moving = lists_with_vectors new.plan

  abbrev pred : Pred
  pred = InterPred entry moved flag mvd

  there : (i : ℕ) → i < squares size →
      slice_get plan.units (address + i) ≡ Some (unit_of (3 - size) pred)
  there = unit_there size address pred old.plan.units new.plan.units node room units

  moved_there : (i : ℕ) → i < squares size →
      slice_get moving.units (address + i) ≡
      Some (unit_of (3 - size) (InterPred entry moved flag moved))
  moved_there = moving_there size address pred old.plan.units new.plan.units node room units

  begins : is_outside t.place address ≡ false
  begins = leaf_inside t.place size address inside (some_side size node.size_at_most)

  moving_whole : is_whole size (slice_get moving.units address) ≡ true
  moving_whole =
      whole_is t.place size address (InterPred entry moved flag moved) moving node inside
      moved_there

  module _ (before : Before) (here : Stands t old address before) where
    abbrev candidates : List Mv
    candidates = candidates_at t size address before entry

    same : both ≡ candidates
    same = those before.earlier here.earlier

    unit_is : with_motion entry flag moved ≡ inter_unit (given_of t) size address before entry mv
    unit_is =
        let flags : flag ≡ predictor_of candidates mv =
        is.by_flag ∙ ap (λ list. predictor_of list mv) same in
        ap (with_motion entry flag) is.more ∙ ap₂ (motion_by entry mv) same flags ∙
        unit_by t size address before entry mv

    difference_is : mvd ≡ difference moved (candidate_of candidates flag)
    difference_is =
        let c : Mv = candidate_of candidates flag in
        let step : moved ≡ moved_by c (difference mv c) =
        is.more ∙ ap (λ list. moved_by (candidate_of list flag)
        (difference mv (candidate_of list flag))) same in
        is.less ∙ ap (λ list. difference mv (candidate_of list flag)) same ∙
        sym (same_difference mv c) ∙ ap (λ m. difference m c) (sym step)

    abbrev made : List TransformUnit
    made =
        chosen_units (given_of t) (with_motion entry flag moved) size
        (node_square (given_of t) size address) before.decoded

    units_are : transform_units_at plan (log2TrafoSize size) address (transform_units size) ≡ made
    unfolding leaf units_in
    units_are =
        ap units_in
        (sym (leaf_is t.place size address (InterPred entry moved flag moved) moving node inside
        moved_there) ∙
        chosen before here.decoded.same_references)

    leaf_coded : leaf_of_plan plan size address ≡ Leaf (with_motion entry flag mvd) made
    leaf_coded =
        leaf_is t.place size address pred plan node inside there ∙
        ap (Leaf (with_motion entry flag mvd)) units_are

    coded_is : coded_node (given_of t) size address before
        (leaf (given_of t) size address before (with_motion entry flag moved)) ≡
        Leaf (with_motion entry flag mvd) made
    unfolding leaf tree_with_differences
    coded_is = ap (λ d. Leaf (with_motion entry flag d) made) (sym difference_is)

    tree : moving_node t.place new.plan size address ≡
        inter_choice t size address entry mv before
    tree =
        leaf_node moving size address t.place begins moving_whole ∙
        chosen before here.decoded.same_references ∙
        ap (leaf (given_of t) size address before) unit_is

    coded : node_of_plan t.place new.plan size address ≡
        coded_node (given_of t) size address before (inter_choice t size address entry mv before)
    coded =
        leaf_node plan size address t.place begins
        (whole_is t.place size address pred plan node inside there) ∙
        leaf_coded ∙ sym coded_is ∙
        ap (λ p. coded_node (given_of t) size address before
        (leaf (given_of t) size address before p)) unit_is

  pub decides_inter : SameBefore address old new →
      DecodesLeaf moving size address t.place t.qp (references_of t) t.near.now old.samples
      new.samples →
      Decides t size address (inter_choice t size address entry mv) old new
  decides_inter kept decoded =
      decides_by t size address (inter_choice t size address entry mv) old new kept
      (names_leaf t.place size address pred plan node inside there)
      (names_leaf t.place size address (InterPred entry moved flag moved) moving node inside
      moved_there)
      tree coded
      (leaf_as_node moving size address t.place t.qp (references_of t) t.near.now old.samples
      new.samples begins moving_whole decoded)

pub inter_kept : (size address : ℕ) (unit : Unit) (old new : Block) →
    address ≤ length old.plan.units →
    new.plan.units ≡ with_units old.plan.units address (4 ^ size) unit →
    take (64 * address) new.plan.luma ≡ take (64 * address) old.plan.luma →
    take (16 * address) new.plan.cb ≡ take (16 * address) old.plan.cb →
    take (16 * address) new.plan.cr ≡ take (16 * address) old.plan.cr →
    KeepsOtherSamples size address old.samples new.samples → SameBefore address old new
inter_kept size address unit old new room units luma cb cr kept = record {
  units = start_kept old.plan.units new.plan.units address (4 ^ size) unit room units;
  luma_levels = luma;
  cb_levels = cb;
  cr_levels = cr;
  luma = record { sample = kept.luma.before };
  cb = record { sample = kept.cb.before };
  cr = record { sample = kept.cr.before };
}
