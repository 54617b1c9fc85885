-- A leaf that was made an inter coding unit: its first square, and its tree where units know their
-- vectors.
use Rattle.std.proofs.Common.{◌≡◌, ℕ, zero, suc, ◌+◌, ◌-◌, ◌^◌, ◌<◌, ◌≤◌, List, ◌∷◌, length, refl, sym, ap, subst, ◌∙◌, arith}
use Rattle.std.specs.Prelude.{slice_get, Some, option_map}
use Rattle.std.proofs.lemmas.Option.{slice_get-map}
use Rattle.hv_types.specs.declared.picture.Picture.{Picture}
use Rattle.hv_plan.specs.declared.prediction.Mv.{Mv}
use Rattle.hv_plan.specs.declared.prediction.Pred.TheVariants.{Inter as InterPred}
use Rattle.hv_plan.specs.declared.prediction.Unit.{Unit}
use Rattle.hv_block.specs.Plans.{CtbPlan, with_units, unit_of}
use Rattle.hv_inter_model.specs.UnitVectors.{unit_with_vector}
use Rattle.hv_tree_model.specs.Trees.{Motion, Inter, TransformUnit, Leaf, log2TrafoSize, transform_units}
use Rattle.hv_tree_model.specs.Sites.{squares}
use Rattle.hv_tree_model.specs.Plans.{leaf_at, transform_unit_at, transform_units_at}
use Rattle.hv_near.specs.Neighbours.{lists_of_plan}
use Rattle.hv_recon.specs.DecodedNodes.{IsNodeOfBlock}
use Rattle.hv_recon.specs.Leaves.{lists_with_vectors, leaf_of_plan, IsKnown}
use Rattle.hv_recon.proofs.CodedLeafLemmas.{some_squares}
use Rattle.hv_mode_model.specs.ModeDecision.{Before, leaf, chosen_units, node_square}
use Rattle.hv_mode.specs.declared.task.Task.{Task}
use Rattle.hv_mode.specs.Nodes.{given_of}
use Rattle.hv_mode.proofs.CopyLemmas.{node_fits, squares_of_size}
use Rattle.hv_mode.proofs.LeafLemmas.{unit_written}

pub fits : (size address : ℕ) → IsNodeOfBlock size address → address + 4 ^ size ≤ 64
fits size address node = omega (arith, (node_fits size address node).2, squares_of_size size)

pub first_square : (units new : List Unit) (size address : ℕ) (unit : Unit) →
    IsNodeOfBlock size address → length units ≡ 64 →
    new ≡ with_units units address (4 ^ size) unit → slice_get new address ≡ Some unit
first_square units new size address unit node count is =
    let at : address ≡ address + 0 = omega arith in
    ap (slice_get new) at ∙ ap (λ l. slice_get l (address + 0)) is ∙
    unit_written units address (4 ^ size) 0 unit (omega (arith, node.inside, count))
    (omega (arith, squares_of_size size, some_squares size node.size_at_most))

pub is_known : (pictures : List Picture) (units : List Unit) (address depth entry flag : ℕ)
    (mv mvd : Mv) → entry < length pictures →
    slice_get units address ≡ Some (unit_of depth (InterPred entry mv flag mvd)) →
    IsKnown pictures (slice_get units address)
is_known pictures units address depth entry flag mv mvd there square =
    subst (IsKnown pictures) (sym square) there

-- levels don't depend on units
levels_alone : (plan : CtbPlan) (log2 address count : ℕ) →
    transform_units_at (lists_with_vectors plan) log2 address count ≡
    transform_units_at (lists_of_plan plan) log2 address count
levels_alone plan log2 address zero = refl
levels_alone plan log2 address (suc count) =
    ap (λ (units : List TransformUnit). transform_unit_at (lists_of_plan plan) log2 address ∷ units)
    (levels_alone plan log2 (address + squares (log2 - 3)) count)

pub leaf_is : (t : Task) (plan : CtbPlan) (size address entry flag : ℕ) (mv mvd : Mv)
    (before : Before) →
    slice_get plan.units address ≡ Some (unit_of (3 - size) (InterPred entry mv flag mvd)) →
    transform_units_at (lists_of_plan plan) (log2TrafoSize size) address (transform_units size) ≡
    chosen_units (given_of t)
    (Inter (record { ref_idx_l0 = entry; mvp_l0_flag = flag; MvdL0 = mv })) size
    (node_square (given_of t) size address) before.decoded →
    leaf_of_plan (lists_with_vectors plan) size address ≡
    leaf (given_of t) size address before
    (Inter (record { ref_idx_l0 = entry; mvp_l0_flag = flag; MvdL0 = mv }))
unfolding leaf
leaf_is t plan size address entry flag mv mvd before square chosen =
    let motion : Motion = record { ref_idx_l0 = entry; mvp_l0_flag = flag; MvdL0 = mv } in
    ap (leaf_at (lists_with_vectors plan) size address)
    (slice_get-map unit_with_vector plan.units address ∙ ap (option_map unit_with_vector) square) ∙
    ap (λ (units : List TransformUnit). Leaf (Inter motion) units)
    (levels_alone plan (log2TrafoSize size) address (transform_units size) ∙ chosen)
