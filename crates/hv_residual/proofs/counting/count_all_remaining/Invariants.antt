use Rattle.std.proofs.Common.{◌≡◌, ◌≤◌, ◌+◌, ◌*◌, drop, length, true}
use Rattle.hv_residual_model.specs.ResidualBins.{all_remaining_bins}
use Rattle.hv_residual.proofs.RemainingLemmas.{here}
use Rattle.hv_residual.proofs.counting.count_all_remaining.Given as goal

abbrev pub invariant-loop-m : goal.invariant-loop-m
invariant-loop-m l = record {
  small : l.rice ≤ 4;
  most : l.total ≤ 64 * l.m-index;
  value : l.total + length (all_remaining_bins (here l.left l.first l.greater2 (drop l.m-index l.magnitudes))
      (drop l.m-index l.magnitudes) l.rice) ≡
      length (all_remaining_bins (here 8 true l.greater2 l.magnitudes) l.magnitudes 0);
}
