use Rattle.std.proofs.Common.{map, arith, ◌*◌, ◌^◌, ◌%◌}
use Rattle.hv_decision.specs.Coding.{coded_as}
use Rattle.hv_decision.proofs.CodingLemmas.{step_is, blocks_first, blocks_step, blocks_end}
use Rattle.hv_decision.proofs.coding.push_blocks.Goals as goal

pub loop-block-init : goal.loop-block-init
loop-block-init c =
    blocks_first c.args.count c.args.levels (map coded_as c.args.order.now.items) c.requires.some

pub loop-block-preserved : goal.loop-block-preserved
loop-block-preserved c =
    blocks_step c.args.count c.args.levels c.loop-block.block (1 * 2 ^ c.args.levels % 256)
    (map coded_as c.loop-block.order.items) (map coded_as c.push_block.new.order.items) _
    (step_is c.args.levels c.requires.levels_most) c.loop-block-test.true c.loop-block.invariant
    c.in_ok-push_block.ensures

pub returns : goal.returns
returns c =
    blocks_end c.args.count c.args.levels c.loop-block.block (1 * 2 ^ c.args.levels % 256)
    (map coded_as c.loop-block.order.items) (map coded_as c.push_block-2.new.order.items) _
    (step_is c.args.levels c.requires.levels_most) (omega arith) c.loop-block.invariant
    c.in_ok-push_block-2.ensures
