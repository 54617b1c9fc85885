use Rattle.hv_unit_model.proofs.AroundLemmas.{plans_are_appended as appended}
use Rattle.hv_unit_model.proofs.unit_laws.plans_are_appended.Goals as goal

pub returns : goal.returns
returns c = appended
