use Rattle.hv_plain.proofs.bits.+doublings.Given as goal

abbrev pub decreases-doublings : goal.decreases-doublings
decreases-doublings l = l.fuel
