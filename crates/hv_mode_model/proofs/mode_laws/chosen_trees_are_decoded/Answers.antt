use Rattle.hv_mode_model.proofs.ChosenDecodedLemmas.{decoded_all}
use Rattle.hv_mode_model.proofs.mode_laws.chosen_trees_are_decoded.Goals as goal

pub returns : goal.returns
returns c = decoded_all
