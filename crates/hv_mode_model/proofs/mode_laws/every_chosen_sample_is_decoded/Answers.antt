use Rattle.hv_mode_model.proofs.ChosenDecodedLemmas.{every_chosen}
use Rattle.hv_mode_model.proofs.mode_laws.every_chosen_sample_is_decoded.Goals as goal

pub returns : goal.returns
returns c = every_chosen
