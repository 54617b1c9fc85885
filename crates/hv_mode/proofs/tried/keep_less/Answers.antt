use Rattle.std.proofs.Common.{subst, arith}
use Rattle.hv_mode.specs.WaitingNodes.{WaitsIf}
use Rattle.hv_mode.proofs.TriedLemmas.{is_none, costs_choice, costs_below, costs_more, first_waits, next_waits, still_waits}
use Rattle.hv_mode.proofs.tried.keep_less.Goals as goal

-- nothing waited
pub returns-in_default : goal.returns-in_default
returns-in_default c = λ trees choice old decides waits.
    first_waits c.args.task.now c.args.size c.args.address trees choice old c.args.out.now
    c.args.waiting.now c.copy_node.new.to c.cost_node.result decides
    (costs_choice c.args.task.now c.args.size c.args.address choice old c.args.out.now
    c.cost_node.result decides c.cost_node.ensures)
    c.copy_node.ensures
    (subst (λ least. WaitsIf c.args.task.now c.args.size c.args.address trees old
    c.args.waiting.now least) (is_none c.args.least c.in_default.not-Some) waits)

-- it costs less than what waits
pub returns-then-next-least : goal.returns-then-next-least
returns-then-next-least c = λ trees choice old decides waits.
    next_waits c.args.task.now c.args.size c.args.address trees choice old c.args.out.now
    c.args.waiting.now c.copy_node-then-next-least.new.to c.cost_up_to-next.result decides
    (costs_below c.args.task.now c.args.size c.args.address choice old c.args.out.now
    c.in-Some.least c.cost_up_to-next.result decides c.cost_up_to-next.ensures
    c.if-next-least.true)
    c.copy_node-then-next-least.ensures c.in-Some.least
    (subst (λ least. WaitsIf c.args.task.now c.args.size c.args.address trees old
    c.args.waiting.now least) c.in-Some.is waits) c.if-next-least.true

-- or it doesn't
pub returns : goal.returns
returns c = λ trees choice old decides waits.
    still_waits c.args.task.now c.args.size c.args.address trees choice old c.args.waiting.now
    c.in-Some.least
    (subst (λ least. WaitsIf c.args.task.now c.args.size c.args.address trees old
    c.args.waiting.now least) c.in-Some.is waits)
    (costs_more c.args.task.now c.args.size c.args.address choice old c.args.out.now
    c.in-Some.least c.cost_up_to-next.result decides c.cost_up_to-next.ensures (omega arith))
