use Rattle.hv_unit_model.proofs.ContextLemmas.{nodes_ask_there}
use Rattle.hv_unit_model.proofs.unit_laws.nodes_ask_for_variables_that_are_there.Goals as goal

pub returns : goal.returns
returns c = nodes_ask_there
