use Rattle.hv_decision.proofs.coding.+push_halves.Given as goal

abbrev pub decreases-push_halves : goal.decreases-push_halves
decreases-push_halves l = l.levels
