use Rattle.std.proofs.Common.{◌≡◌, drop}
use Rattle.hv_sample_model.specs.IntraPrediction.{first_available}
use Rattle.hv_intra.proofs.line.first_available.Given as goal

abbrev pub invariant-loop-i : goal.invariant-loop-i
invariant-loop-i l = first_available (drop l.i l.known) ≡ first_available l.known
