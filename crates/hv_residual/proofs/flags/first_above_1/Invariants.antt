use Rattle.std.proofs.Common.{◌≡◌, drop}
use Rattle.hv_residual_model.specs.ResidualBins.{first_above_1}
use Rattle.hv_residual.proofs.flags.first_above_1.Given as goal

abbrev pub invariant-loop-m : goal.invariant-loop-m
invariant-loop-m l =
    first_above_1 8 l.magnitudes ≡ first_above_1 l.left (drop l.m-index l.magnitudes)
