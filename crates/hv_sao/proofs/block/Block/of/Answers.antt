use Rattle.std.proofs.Common.{arith}
use Rattle.hv_sao.proofs.AreaLemmas.{block_left}
use Rattle.hv_sao.proofs.block.Block.of.Goals as goal

pub overflow_mul-left : goal.overflow_mul-left
overflow_mul-left c =
    omega (arith, block_left c.args.index c.args.across c.args.side c.args.deblocked.now.width c.requires.some c.requires.across, c.width-width.ensures.value)

pub overflow_mul-top : goal.overflow_mul-top
overflow_mul-top c = omega (arith, c.requires.down, c.height-height.ensures.value)
