use Rattle.std.proofs.Common.{◌≤◌}
use Rattle.hv_residual_model.specs.Binarization.{fixed_length_bins}
use Rattle.hv_residual.specs.Putting.{Going}
use Rattle.hv_residual.proofs.binarization.put_fixed_length.Given as goal

abbrev pub invariant-loop-left : goal.invariant-loop-left
invariant-loop-left g l = record {
  few : l.left ≤ l.length;
  going : Going g.B.BinSink.stands_for l.initial.sink l.sink (fixed_length_bins l.left l.value)
      (fixed_length_bins l.length l.value);
}

abbrev pub decreases-loop-left : goal.decreases-loop-left
decreases-loop-left g l = l.left
