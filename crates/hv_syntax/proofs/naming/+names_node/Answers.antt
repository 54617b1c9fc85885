use Rattle.std.proofs.Common.{◌<◌, ◌∙◌, sym, subst}
use Rattle.hv_syntax.specs.Blocks.{lists_of}
use Rattle.hv_syntax.proofs.NamingLemmas.{names_parts_back, outside_of_names}
use Rattle.hv_syntax.proofs.NodeLemmas.{children}
use Rattle.std.proofs.lemmas.Bool.{true≢false}
use Rattle.hv_syntax.proofs.naming.+names_node.Goals as goal

pub returns-clause-names : goal.returns-clause-names
returns-clause-names t c = λ is.
    names_parts_back c.args.site.now.place (lists_of c.args.plan.now) c.args.size
    c.squares_of-step.result c.args.address c.first_unit-unit.result c.squares_of-step.ensures.value
    (sym c.is_outside.ensures ∙ c.if-is_outside.false) c.first_unit-unit.ensures
    (sym c.is_leaf.ensures ∙ c.if-is_leaf.false)
    (record {
      first = c.names_node.ensures.names c.if-not-names_node.false;
      second = c.names_node-2.ensures.names c.if-not-names_node-2.false;
      third = c.names_node-3.ensures.names c.if-not-names_node-3.false;
      fourth = c.names_node-4.ensures.names is;
    })

pub returns-then-is_outside-clause-only : goal.returns-then-is_outside-clause-only
returns-then-is_outside-clause-only t c = λ names.
    c.are_outside.ensures.only (λ i h.
    outside_of_names c.args.site.now.place (lists_of c.args.plan.now) c.args.size c.args.address
    c.args.plan.now.all_units c.requires.inside
    (sym c.is_outside.ensures ∙ c.if-is_outside.true) names i
    (subst (λ n. i < n) c.squares_of.ensures.value h))

pub returns-then-not-names_node-clause-only : goal.returns-then-not-names_node-clause-only
returns-then-not-names_node-clause-only t c = λ names.
    let k = children c.args.site.now.place (lists_of c.args.plan.now) c.args.size
    c.squares_of-step.result c.args.address c.first_unit-unit.result c.squares_of-step.ensures.value
    (sym c.is_outside.ensures ∙ c.if-is_outside.false) c.first_unit-unit.ensures
    (sym c.is_leaf.ensures ∙ c.if-is_leaf.false) c.requires.inside names in
    absurd (true≢false (sym (c.names_node.ensures.only k.first) ∙ c.if-not-names_node.true))

pub returns-then-not-names_node-2-clause-only : goal.returns-then-not-names_node-2-clause-only
returns-then-not-names_node-2-clause-only t c = λ names.
    let k = children c.args.site.now.place (lists_of c.args.plan.now) c.args.size
    c.squares_of-step.result c.args.address c.first_unit-unit.result c.squares_of-step.ensures.value
    (sym c.is_outside.ensures ∙ c.if-is_outside.false) c.first_unit-unit.ensures
    (sym c.is_leaf.ensures ∙ c.if-is_leaf.false) c.requires.inside names in
    absurd (true≢false (sym (c.names_node-2.ensures.only k.second) ∙ c.if-not-names_node-2.true))

pub returns-then-not-names_node-3-clause-only : goal.returns-then-not-names_node-3-clause-only
returns-then-not-names_node-3-clause-only t c = λ names.
    let k = children c.args.site.now.place (lists_of c.args.plan.now) c.args.size
    c.squares_of-step.result c.args.address c.first_unit-unit.result c.squares_of-step.ensures.value
    (sym c.is_outside.ensures ∙ c.if-is_outside.false) c.first_unit-unit.ensures
    (sym c.is_leaf.ensures ∙ c.if-is_leaf.false) c.requires.inside names in
    absurd (true≢false (sym (c.names_node-3.ensures.only k.third) ∙ c.if-not-names_node-3.true))

pub returns-clause-only : goal.returns-clause-only
returns-clause-only t c = λ names.
    let k = children c.args.site.now.place (lists_of c.args.plan.now) c.args.size
    c.squares_of-step.result c.args.address c.first_unit-unit.result c.squares_of-step.ensures.value
    (sym c.is_outside.ensures ∙ c.if-is_outside.false) c.first_unit-unit.ensures
    (sym c.is_leaf.ensures ∙ c.if-is_leaf.false) c.requires.inside names in
    c.names_node-4.ensures.only k.fourth
