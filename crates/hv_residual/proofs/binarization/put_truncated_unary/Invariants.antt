use Rattle.std.proofs.Common.{◌-◌}
use Rattle.hv_residual_model.specs.Binarization.{truncated_unary_bins, bypass_at}
use Rattle.hv_residual.specs.Putting.{Going}
use Rattle.hv_residual.proofs.binarization.put_truncated_unary.Given as goal

abbrev pub invariant-loop-i : goal.invariant-loop-i
invariant-loop-i g l = Going g.B.BinSink.stands_for l.initial.sink l.sink
    (truncated_unary_bins bypass_at (l.most - l.i) l.i (l.value - l.i))
    (truncated_unary_bins bypass_at l.most 0 l.value)
