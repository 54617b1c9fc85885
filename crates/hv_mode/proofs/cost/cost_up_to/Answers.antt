use Rattle.std.proofs.Common.{arith}
use Rattle.hv_recon.specs.DecodedNodes.{node_of_plan}
use Rattle.hv_mode_model.specs.ModeDecision.{Given, decoded_behind}
use Rattle.hv_mode.specs.Nodes.{given_of}
use Rattle.hv_mode.proofs.NodeCostLemmas.{cost_is, cost_is_more}
use Rattle.hv_mode.proofs.cost.cost_up_to.Goals as goal

-- the squared errors alone cost as much
pub returns-then-limit-without_bins : goal.returns-then-limit-without_bins
returns-then-limit-without_bins c = λ before tree shows same seen.
    let g : Given = given_of c.args.task.now in
    let most = cost_is_more g c.args.size c.args.address before tree c.cost-without_bins.result
    c.node_errors-errors.result c.cost-without_bins.ensures
    (c.node_errors-errors.ensures.value
    (decoded_behind g c.args.size c.args.address tree before.decoded) seen) in
    record {
      less = λ low. absurd (omega (arith, low, c.if-limit-without_bins.true));
      more = λ high. omega (arith, high, most, c.if-limit-without_bins.true);
    }

pub returns : goal.returns
returns c = λ before tree shows same seen.
    let g : Given = given_of c.args.task.now in
    let is = cost_is g c.args.size c.args.address before tree
    (node_of_plan c.args.task.now.place c.args.block.now.plan c.args.size c.args.address)
    c.cost.result c.node_errors-errors.result c.node_bins-bins.result same c.cost.ensures
    (c.node_errors-errors.ensures.value
    (decoded_behind g c.args.size c.args.address tree before.decoded) seen)
    (c.node_bins-bins.ensures.value before.earlier shows) in
    record { less = λ low. is; more = λ high. omega (arith, high, is) }
