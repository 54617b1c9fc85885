use Rattle.std.proofs.Common.{arith}
use Rattle.hv_residual.specs.Blocks.{block_of}
use Rattle.hv_residual.proofs.CountLemmas.{next_count, no_count}
use Rattle.hv_residual.proofs.counting.count_sub_blocks.Goals as goal

pub loop-s-preserved : goal.loop-s-preserved
loop-s-preserved c =
    let next = next_count (block_of c.args.block) c.args.levels.now c.loop-s.s c.loop-s-test.true in
    record {
      few = omega (arith, c.loop-s.invariant.few);
      most = omega (
        arith,
        c.loop-s.invariant.most,
        c.loop-s.invariant.few,
        c.count_sub_block-total.ensures.most,
      );
      value = omega (arith, c.loop-s.invariant.value, next, c.count_sub_block-total.ensures.value);
    }

pub returns-clause-value : goal.returns-clause-value
returns-clause-value c =
    omega (
      arith,
      c.loop-s.invariant.value,
      no_count (block_of c.args.block) c.args.levels.now c.loop-s.s c.loop-s-test.false,
    )
