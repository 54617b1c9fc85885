use Rattle.std.proofs.Common.{ap, ◌∙◌, arith}
use Rattle.hv_block.specs.Plans.{with_leaf}
use Rattle.hv_plan.specs.declared.prediction.Pred.TheVariants.{Intra}
use Rattle.hv_mode.specs.Vectors.{references_of}
use Rattle.hv_mode.proofs.CopyLemmas.{node_fits, squares_of_size}
use Rattle.hv_mode.proofs.BlankLemmas.{blank_known, blank_decides}
use Rattle.hv_mode.proofs.blank.decide_blank.Goals as goal

pub clear_levels-requires-clause-fits : goal.clear_levels-requires-clause-fits
clear_levels-requires-clause-fits c =
    omega (
      arith,
      (node_fits c.args.size c.args.address c.requires.node).2,
      squares_of_size c.args.size,
    )

pub rebuild_leaf-requires-clause-known : goal.rebuild_leaf-requires-clause-known
rebuild_leaf-requires-clause-known c =
    blank_known c.args.size c.args.address c.args.out.now.plan c.set_leaf.new.self c.requires.node
    c.clear_levels.ensures.whole
    (c.set_leaf.ensures ∙ ap (λ p. with_leaf p c.args.size c.args.address (Intra 1))
    c.clear_levels.ensures.value)
    (references_of c.args.task.now)

pub returns : goal.returns
returns c =
    blank_decides c.args.task.now c.args.size c.args.address c.args.out.now
    (record { plan = c.set_leaf.new.self; samples = c.rebuild_leaf.new.out }) c.requires.node
    c.clear_levels.ensures.whole c.requires.right c.requires.bottom
    (c.set_leaf.ensures ∙ ap (λ p. with_leaf p c.args.size c.args.address (Intra 1))
    c.clear_levels.ensures.value)
    c.rebuild_leaf.ensures.decoded c.rebuild_leaf.ensures.kept

pub set_leaf-requires-clause-fits : goal.set_leaf-requires-clause-fits
set_leaf-requires-clause-fits c =
    omega (
      arith,
      (node_fits c.args.size c.args.address c.requires.node).2,
      squares_of_size c.args.size,
    )
