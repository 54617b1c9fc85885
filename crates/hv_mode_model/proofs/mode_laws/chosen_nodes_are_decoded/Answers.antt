use Rattle.hv_mode_model.proofs.ChosenDecodedLemmas.{decoded_node}
use Rattle.hv_mode_model.proofs.mode_laws.chosen_nodes_are_decoded.Goals as goal

pub returns : goal.returns
returns c = decoded_node
