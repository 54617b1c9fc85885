use Rattle.std.proofs.Common.{◌≡◌, true, sym, ◌∙◌}
use Rattle.hv_tree_model.specs.Sites.{is_outside}
use Rattle.hv_syntax.proofs.NamingLemmas.{each_from, others_of}
use Rattle.hv_syntax.proofs.naming.+are_outside.Goals as goal

pub returns-clause-outside : goal.returns-clause-outside
returns-clause-outside t c = λ is.
    each_from (λ a. is_outside c.args.site.now.place a ≡ true) c.args.from c.args.count
    (sym c.is_outside.ensures ∙ c.if-not-is_outside.false) (c.are_outside.ensures.outside is)

pub returns-clause-only : goal.returns-clause-only
returns-clause-only t c = λ all.
    c.are_outside.ensures.only
    (others_of (λ a. is_outside c.args.site.now.place a ≡ true) c.args.from c.args.count all)
