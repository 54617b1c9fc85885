use Rattle.hv_residual_model.proofs.ContextLemmas.{levels_ask_there}
use Rattle.hv_residual_model.proofs.residual_laws.levels_ask_for_variables_that_are_there.Goals as goal

pub returns : goal.returns
returns c = levels_ask_there
