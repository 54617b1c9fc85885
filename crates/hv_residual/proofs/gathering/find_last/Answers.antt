use Rattle.std.proofs.Common.{arith, ◌∙◌, ap, ℕ, ◌*◌}
use Rattle.hv_residual.specs.Blocks.{block_of}
use Rattle.hv_residual.proofs.ScanLemmas.{sixteen_times}
use Rattle.hv_residual.proofs.GatheringLemmas.{whole_block, find_step, skip_step}
use Rattle.hv_residual.proofs.gathering.find_last.Goals as goal

pub loop-s-init : goal.loop-s-init
loop-s-init c = record {
  most = omega (arith, c.sub_blocks-s.ensures.value);
  last = whole_block (block_of c.args.block) c.args.levels.now _
      (ap (λ (n : ℕ). 16 * n) c.sub_blocks-s.ensures.value ∙
      sixteen_times c.args.block.log2 c.args.block.least);
}

pub returns-then-zeros-lt16-clause-value : goal.returns-then-zeros-lt16-clause-value
returns-then-zeros-lt16-clause-value c = c.loop-s.invariant.last ∙
    find_step (block_of c.args.block) c.args.levels.now c.loop-s.s c.gather.result
    c.zeros_before-zeros.result c.loop-s-test.true c.gather.ensures c.zeros_before-zeros.ensures.value c.if-zeros-lt16.true

pub loop-s-preserved : goal.loop-s-preserved
loop-s-preserved c = record {
  most = omega (arith, c.loop-s.invariant.most);
  last = c.loop-s.invariant.last ∙
      skip_step (block_of c.args.block) c.args.levels.now c.loop-s.s c.gather.result
      c.zeros_before-zeros.result c.loop-s-test.true c.gather.ensures c.zeros_before-zeros.ensures.value
      c.if-zeros-lt16.false;
}
