use Rattle.std.proofs.Common.{◌<◌, subst, sym}
use Rattle.hv_syntax.specs.Blocks.{lists_of}
use Rattle.hv_syntax.proofs.NamingLemmas.{names_leaf, depth_of_names, squares_of_names}
use Rattle.hv_syntax.proofs.naming.names_leaf.Goals as goal

pub returns-clause-names : goal.returns-clause-names
returns-clause-names c = λ is.
    names_leaf c.args.site.now.place (lists_of c.args.plan.now) c.args.size c.args.address c.args.unit
    c.requires.begins c.requires.first c.requires.leaf c.if-unit-size.false
    (λ i h inside. c.have_unit.ensures.same is i (subst (λ n. i < n) (sym c.squares_of.ensures.value) h) inside)

pub returns-then-unit-size-clause-only : goal.returns-then-unit-size-clause-only
returns-then-unit-size-clause-only c = λ names.
    absurd (c.if-unit-size.true (depth_of_names c.args.site.now.place (lists_of c.args.plan.now)
    c.args.size c.args.address c.args.unit c.requires.begins c.requires.first c.requires.leaf names))

pub returns-clause-only : goal.returns-clause-only
returns-clause-only c = λ names.
    c.have_unit.ensures.only (λ i h inside.
    squares_of_names c.args.site.now.place (lists_of c.args.plan.now) c.args.size c.args.address
    c.args.unit c.requires.begins c.requires.first c.requires.leaf names i
    (subst (λ n. i < n) c.squares_of.ensures.value h) inside)
