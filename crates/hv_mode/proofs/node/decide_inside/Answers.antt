use Rattle.std.proofs.Common.{arith}
use Rattle.hv_mode.proofs.DecidedLemmas.{blank_decides, tried_decides}
use Rattle.hv_mode.proofs.node.decide_inside.Goals as goal

pub returns-then-task-eq0 : goal.returns-then-task-eq0
returns-then-task-eq0 c =
    blank_decides c.args.task.now c.args.size c.args.address c.args.out.now c.decide_blank.new.out
    c.requires.right c.requires.bottom c.if-task-eq0.true c.decide_blank.ensures

pub returns : goal.returns
returns c =
    tried_decides c.args.task.now c.args.size c.args.address c.args.out.now c.decide_tried.new.out
    c.requires.right c.requires.bottom (omega arith) c.decide_tried.ensures
