use Rattle.hv_mode_model.proofs.LeastLemmas.{first_least_chosen}
use Rattle.hv_mode_model.proofs.least_laws.first_least_is_chosen.Goals as goal

pub returns : goal.returns
returns c = first_least_chosen
