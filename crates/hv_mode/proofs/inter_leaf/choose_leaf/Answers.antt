use Rattle.std.proofs.Common.{◌≡◌, ℕ, ◌≤◌, refl, sym, subst, arith}
use Rattle.hv_tree_model.specs.Trees.{Inter, log2TrafoSize, transform_units}
use Rattle.hv_tree_model.specs.Plans.{transform_units_at}
use Rattle.hv_near.specs.Neighbours.{lists_of_plan}
use Rattle.hv_recon.specs.CodedUnits.{KeepsEarlier}
use Rattle.hv_mode_model.specs.ModeDecision.{chosen_units, node_square}
use Rattle.hv_mode.specs.Nodes.{given_of}
use Rattle.hv_mode.proofs.InterLeafLemmas.{small_is, great_is, first_address}
use Rattle.hv_mode.proofs.inter_leaf.choose_leaf.Goals as goal

pub returns-then-size-lt3-clause-chosen : goal.returns-then-size-lt3-clause-chosen
returns-then-size-lt3-clause-chosen c = λ motion d same there.
    small_is c.args.task.now c.args.reference.now c.args.mv motion same c.args.size c.args.address
    c.choose_unit.new.plan d (omega (arith, c.if-size-lt3.true)) there c.choose_unit.ensures.chosen

pub returns-else-size-lt3-clause-chosen : goal.returns-else-size-lt3-clause-chosen
returns-else-size-lt3-clause-chosen c = λ motion d same there.
    let t = c.args.task.now in
    let plan = c.choose_quarters.new.plan in
    let four = c.choose_quarters.ensures in
    let great : 3 ≤ c.args.size = omega (arith, c.if-size-lt3.false) in
    let at = first_address c.args.size c.args.address c.requires.node great in
    subst (λ (n : ℕ). transform_units_at (lists_of_plan plan) (log2TrafoSize n) c.args.address
    (transform_units n) ≡
    chosen_units (given_of t) (Inter motion) n (node_square (given_of t) n c.args.address) d)
    (sym at.0)
    (subst (λ (a : ℕ). transform_units_at (lists_of_plan plan) (log2TrafoSize 3) a
    (transform_units 3) ≡
    chosen_units (given_of t) (Inter motion) 3 (node_square (given_of t) 3 a) d) (sym at.1)
    (great_is t c.args.reference.now c.args.mv motion same plan d there four.first four.second
    four.third four.fourth))

pub returns-else-size-lt3-clause-kept : goal.returns-else-size-lt3-clause-kept
returns-else-size-lt3-clause-kept c =
    let great : 3 ≤ c.args.size = omega (arith, c.if-size-lt3.false) in
    let at = first_address c.args.size c.args.address c.requires.node great in
    subst (λ (a : ℕ). KeepsEarlier a c.args.plan.now c.choose_quarters.new.plan) (sym at.1)
    (record {
      units = c.choose_quarters.ensures.units;
      luma = refl;
      cb = refl;
      cr = refl;
    })
