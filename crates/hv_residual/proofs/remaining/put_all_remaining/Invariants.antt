use Rattle.std.proofs.Common.{◌≤◌, drop, true}
use Rattle.hv_residual_model.specs.ResidualBins.{all_remaining_bins}
use Rattle.hv_residual.specs.Putting.{Going}
use Rattle.hv_residual.proofs.RemainingLemmas.{here}
use Rattle.hv_residual.proofs.remaining.put_all_remaining.Given as goal

abbrev pub invariant-loop-m : goal.invariant-loop-m
invariant-loop-m g l = record {
  small : l.rice ≤ 4;
  going : Going g.B.BinSink.stands_for l.initial.sink l.sink
      (all_remaining_bins (here l.left l.first l.greater2 (drop l.m-index l.magnitudes))
      (drop l.m-index l.magnitudes) l.rice)
      (all_remaining_bins (here 8 true l.greater2 l.magnitudes) l.magnitudes 0);
}
