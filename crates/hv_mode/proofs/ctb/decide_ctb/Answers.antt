use Rattle.hv_mode.proofs.CtbLemmas.{tree_of_block, coded_of_block, decodes_block}
use Rattle.hv_mode.proofs.ctb.decide_ctb.Goals as goal

pub returns-clause-tree : goal.returns-clause-tree
returns-clause-tree c =
    tree_of_block c.args.task.now c.args.out.now c.decide_node.new.out c.decide_node.ensures

pub returns-clause-coded : goal.returns-clause-coded
returns-clause-coded c =
    coded_of_block c.args.task.now c.args.out.now c.decide_node.new.out c.decide_node.ensures

pub returns-clause-decodes : goal.returns-clause-decodes
returns-clause-decodes c =
    decodes_block c.args.task.now c.args.out.now c.decide_node.new.out c.decide_node.ensures
