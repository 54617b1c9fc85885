use Rattle.std.proofs.Common.{◌≤◌}
use Rattle.hv_residual_model.specs.ResidualSyntax.{Earlier}
use Rattle.hv_residual_model.specs.ResidualBins.{sub_blocks_bins}
use Rattle.hv_residual.specs.Blocks.{block_of}
use Rattle.hv_residual.specs.Earlier.{Shows}
use Rattle.hv_residual.specs.Putting.{Going}
use Rattle.hv_residual.proofs.sub_blocks.put_sub_blocks.Given as goal

abbrev pub invariant-loop-s : goal.invariant-loop-s
invariant-loop-s g l = record {
  few : l.s ≤ l.number;
  going : (first : Earlier) → Shows l.initial.coded first →
      (e : Earlier) × Shows l.coded e ×
      Going g.B.BinSink.stands_for l.initial.sink l.sink
      (sub_blocks_bins (block_of l.block) l.levels l.s e)
      (sub_blocks_bins (block_of l.block) l.levels l.number first);
}

abbrev pub decreases-loop-s : goal.decreases-loop-s
decreases-loop-s g l = l.s
