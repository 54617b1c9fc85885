use Rattle.hv_recon.specs.DecodedNodes.{node_of_plan}
use Rattle.hv_mode_model.specs.ModeDecision.{Given, decoded_behind}
use Rattle.hv_mode.specs.Nodes.{given_of}
use Rattle.hv_mode.proofs.NodeCostLemmas.{cost_is}
use Rattle.hv_mode.proofs.cost.cost_node.Goals as goal

pub returns : goal.returns
returns c = λ before tree shows same seen.
    let g : Given = given_of c.args.task.now in
    cost_is g c.args.size c.args.address before tree
    (node_of_plan c.args.task.now.place c.args.block.now.plan c.args.size c.args.address)
    c.cost.result c.node_errors-errors.result c.node_bins-bins.result same c.cost.ensures
    (c.node_errors-errors.ensures.value
    (decoded_behind g c.args.size c.args.address tree before.decoded) seen)
    (c.node_bins-bins.ensures.value before.earlier shows)
