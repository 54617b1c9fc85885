use Rattle.hv_plain.proofs.fields.+halvings.Given as goal

abbrev pub decreases-halvings : goal.decreases-halvings
decreases-halvings l = l.fuel
