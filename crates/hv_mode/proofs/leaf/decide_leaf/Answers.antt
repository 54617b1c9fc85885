use Rattle.std.proofs.Common.{length, sym, ap, arith}
use Rattle.hv_mode.specs.Nodes.{given_of, leaf_choice}
use Rattle.hv_mode.specs.Vectors.{references_of}
use Rattle.hv_mode_model.specs.ModeDecision.{leaf}
use Rattle.hv_tree_model.specs.Trees.{Intra}
use Rattle.hv_mode.proofs.LeafLemmas.{decides_leaf}
use Rattle.hv_mode.proofs.leaf.decide_leaf.Goals as goal

pub returns : goal.returns
returns c =
    decides_leaf c.args.task.now c.args.size c.args.address c.choose_mode-mode.result c.args.out.now
    _ c.requires.node (record { across = c.requires.right; down = c.requires.bottom })
    (omega (arith, ap length c.units-squares.ensures.value, c.units-squares.ensures.count))
    c.code_leaf.ensures.coded c.code_leaf.ensures.set (c.code_leaf.ensures.decoded
    (references_of c.args.task.now))
    c.code_leaf.ensures.kept (leaf_choice c.args.task.now c.args.size c.args.address)
    (λ before stands. ap (λ mode. leaf (given_of c.args.task.now) c.args.size c.args.address before
    (Intra mode)) (sym (c.choose_mode-mode.ensures.mode before stands)))
