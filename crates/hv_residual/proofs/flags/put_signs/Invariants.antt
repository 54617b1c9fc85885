use Rattle.std.proofs.Common.{drop}
use Rattle.hv_residual_model.specs.ResidualBins.{sign_bins}
use Rattle.hv_residual.specs.Putting.{Going}
use Rattle.hv_residual.proofs.flags.put_signs.Given as goal

abbrev pub invariant-loop-sign : goal.invariant-loop-sign
invariant-loop-sign g l = Going g.B.BinSink.stands_for l.initial.sink l.sink
    (sign_bins (drop l.sign-index l.signs)) (sign_bins l.signs)
