use Rattle.std.proofs.Common.{arith}
use Rattle.hv_residual.specs.Blocks.{block_of}
use Rattle.hv_residual.proofs.PuttingLemmas.{going_start, going_by, going_done}
use Rattle.hv_residual.proofs.EarlierLemmas.{next_sub_block, no_sub_block}
use Rattle.hv_residual.proofs.sub_blocks.put_sub_blocks.Goals as goal

pub loop-s-init : goal.loop-s-init
loop-s-init g c = record {
  few = omega arith;
  going = λ first sh. (first, sh, going_start _ _ _);
}

pub loop-s-preserved : goal.loop-s-preserved
loop-s-preserved g c = record {
  few = omega (arith, c.loop-s.invariant.few);
  going = λ first sh.
      let before = c.loop-s.invariant.going first sh in
      let step = c.put_sub_block.ensures before.0 before.1 in (
        _,
        step.1,
        going_by g.B.BinSink.stands_for _ _ _ _ _ _ _ before.2
            (next_sub_block (block_of c.args.block) c.args.levels.now c.loop-s.s before.0 c.loop-s-test.true)
            step.0,
      );
}

pub returns : goal.returns
returns g c = λ first sh.
    let before = c.loop-s.invariant.going first sh in
    going_done g.B.BinSink.stands_for _ _ _ _ before.2
    (no_sub_block (block_of c.args.block) c.args.levels.now c.loop-s.s before.0 c.loop-s-test.false)
