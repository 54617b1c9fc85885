use Rattle.std.proofs.Common.{◌≡◌, ◌+◌, drop, length}
use Rattle.hv_residual_model.specs.ResidualBins.{sig_coeff_bins}
use Rattle.hv_residual.specs.Blocks.{block_of, spot_of}
use Rattle.hv_residual.specs.Levels.{sig_question}
use Rattle.hv_residual.specs.Putting.{Going}
use Rattle.hv_residual.proofs.significance.put_significance.Given as goal

abbrev pub invariant-loop-level : goal.invariant-loop-level
invariant-loop-level g l = record {
  left : l.left + l.level-index ≡ length l.levels;
  going : Going g.B.BinSink.stands_for l.initial.sink l.sink
      (sig_coeff_bins (sig_question (block_of l.block) l.right l.below (spot_of l.corner))
      (drop l.level-index l.levels) l.still)
      (sig_coeff_bins (sig_question (block_of l.block) l.right l.below (spot_of l.corner))
      l.levels l.sure);
}
