use Rattle.hv_model.proofs.ReferenceLemmas.{list_counted}
use Rattle.hv_model.proofs.reference_laws.list_zero_has_the_active_references.Goals as goal

pub returns : goal.returns
returns c = list_counted
