use Rattle.hv_syntax.proofs.naming.+are_outside.Given as goal

abbrev pub decreases-are_outside : goal.decreases-are_outside
decreases-are_outside l = l.count
