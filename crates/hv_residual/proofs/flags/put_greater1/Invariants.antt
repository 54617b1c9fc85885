use Rattle.std.proofs.Common.{◌≤◌, ◌+◌, drop}
use Rattle.hv_residual_model.specs.ResidualBins.{greater1_bins}
use Rattle.hv_residual.specs.Blocks.{block_of}
use Rattle.hv_residual.specs.Putting.{Going}
use Rattle.hv_residual.proofs.flags.put_greater1.Given as goal

abbrev pub invariant-loop-m : goal.invariant-loop-m
invariant-loop-m g l = record {
  few : l.greater1_ctx + l.left ≤ 9;
  going : Going g.B.BinSink.stands_for l.initial.sink l.sink
      (greater1_bins (block_of l.block) l.set l.left (drop l.m-index l.magnitudes) l.greater1_ctx)
      (greater1_bins (block_of l.block) l.set 8 l.magnitudes 1);
}
