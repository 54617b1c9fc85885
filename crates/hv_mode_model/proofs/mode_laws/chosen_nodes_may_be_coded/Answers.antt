use Rattle.hv_mode_model.proofs.ValidChoiceLemmas.{valid_node}
use Rattle.hv_mode_model.proofs.mode_laws.chosen_nodes_may_be_coded.Goals as goal

pub returns : goal.returns
returns c = valid_node
