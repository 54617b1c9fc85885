use Rattle.std.proofs.Common.{◌≡◌}
use Rattle.hv_recon.proofs.SumLemmas.{summed}
use Rattle.hv_recon.proofs.transform_block.add.Given as goal

abbrev pub invariant-loop-i : goal.invariant-loop-i
invariant-loop-i l = l.samples ≡ summed l.initial.samples l.numbers l.i
