use Rattle.hv_syntax.proofs.naming.+have_unit.Given as goal

abbrev pub decreases-have_unit : goal.decreases-have_unit
decreases-have_unit l = l.count
