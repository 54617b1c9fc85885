use Rattle.std.proofs.Common.{◌≡◌, false}
use Rattle.hv_tree_model.specs.Plans.{coded_square}
use Rattle.hv_syntax.specs.Blocks.{lists_of}
use Rattle.hv_near.specs.Squares.{own_square}
use Rattle.hv_tree_model.specs.Sites.{is_outside}
use Rattle.hv_syntax.proofs.NamingLemmas.{each_from, others_of}
use Rattle.hv_syntax.proofs.naming.+have_unit.Goals as goal

pub returns-clause-same : goal.returns-clause-same
returns-clause-same t c = λ is.
    each_from (λ a. is_outside c.args.site.now.place a ≡ false →
    own_square (lists_of c.args.plan.now) a ≡ coded_square c.args.unit) c.args.from c.args.count
    (c.has_unit.ensures.same c.if-not-has_unit.false) (c.have_unit.ensures.same is)

pub returns-clause-only : goal.returns-clause-only
returns-clause-only t c = λ all.
    c.have_unit.ensures.only
    (others_of (λ a. is_outside c.args.site.now.place a ≡ false →
    own_square (lists_of c.args.plan.now) a ≡ coded_square c.args.unit) c.args.from c.args.count
    all)
