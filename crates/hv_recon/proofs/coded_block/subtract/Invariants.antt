use Rattle.std.proofs.Common.{◌≡◌}
use Rattle.hv_recon.proofs.CodedBlockLemmas.{subtracted}
use Rattle.hv_recon.proofs.coded_block.subtract.Given as goal

abbrev pub invariant-loop-i : goal.invariant-loop-i
invariant-loop-i l = l.out ≡ subtracted l.samples l.predicted l.initial.out l.i
