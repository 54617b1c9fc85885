use Rattle.hv_unit_model.proofs.ContextLemmas.{offsets_ask_there}
use Rattle.hv_unit_model.proofs.unit_laws.offsets_ask_for_variables_that_are_there.Goals as goal

pub returns : goal.returns
returns c = offsets_ask_there
