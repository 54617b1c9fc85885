use Rattle.std.proofs.Common.{length, refl, ap, ◌-◌, ◌∙◌, arith}
use Rattle.std.specs.Option.{option_copied}
use Rattle.hv_plan.specs.declared.prediction.Pred.TheVariants.{Inter as InterPred}
use Rattle.hv_block.specs.Plans.{unit_of}
use Rattle.hv_recon.specs.Leaves.{pictures_of}
use Rattle.hv_mode.proofs.InterLemmas.{fits, first_square, is_known, leaf_is}
use Rattle.hv_mode.proofs.inter.code_inter.Goals as goal

pub set_leaf-requires-clause-fits : goal.set_leaf-requires-clause-fits
set_leaf-requires-clause-fits c = fits c.args.size c.args.address c.requires.node

pub rebuild_leaf-requires-clause-known : goal.rebuild_leaf-requires-clause-known
rebuild_leaf-requires-clause-known c =
    let moved = c.args.moved in
    let plan = c.choose_named.new.plan in
    is_known (pictures_of (option_copied c.args.first) (option_copied c.args.second)) plan.units
    c.args.address (3 - c.args.size) c.args.entry moved.flag moved.mv moved.mvd c.requires.there
    (first_square c.args.out.now.plan.units plan.units c.args.size c.args.address
    (unit_of (3 - c.args.size) (InterPred c.args.entry moved.mv moved.flag moved.mvd))
    c.requires.node
    (omega (arith, ap length c.units-squares.ensures.value, c.units-squares.ensures.count))
    (c.choose_named.ensures.kept.units ∙ ap (λ p. p.units) c.set_leaf.ensures))

pub returns-clause-chosen : goal.returns-clause-chosen
returns-clause-chosen c = λ before same.
    let moved = c.args.moved in
    let plan = c.choose_named.new.plan in
    leaf_is c.args.task.now plan c.args.size c.args.address c.args.entry moved.flag moved.mv
    moved.mvd before
    (first_square c.args.out.now.plan.units plan.units c.args.size c.args.address
    (unit_of (3 - c.args.size) (InterPred c.args.entry moved.mv moved.flag moved.mvd))
    c.requires.node
    (omega (arith, ap length c.units-squares.ensures.value, c.units-squares.ensures.count))
    (c.choose_named.ensures.kept.units ∙ ap (λ p. p.units) c.set_leaf.ensures))
    (c.choose_named.ensures.chosen
    (record { ref_idx_l0 = c.args.entry; mvp_l0_flag = moved.flag; MvdL0 = moved.mv })
    before.decoded refl refl same)
