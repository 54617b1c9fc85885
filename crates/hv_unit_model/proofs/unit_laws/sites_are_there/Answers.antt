use Rattle.hv_unit_model.proofs.UnitLemmas.{sites_there}
use Rattle.hv_unit_model.proofs.unit_laws.sites_are_there.Goals as goal

pub returns : goal.returns
returns c = sites_there
