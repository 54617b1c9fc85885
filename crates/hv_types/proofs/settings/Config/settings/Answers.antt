use Rattle.hv_types.proofs.ConfigurationLemmas.{valid}
use Rattle.hv_types.proofs.settings.Config.settings.Goals as goal

pub returns-clause-ranges : goal.returns-clause-ranges
returns-clause-ranges c = rw (← c.self.view_is) (valid _ c.self.invariant)
