use Rattle.hv_mode_model.proofs.NodeChoiceLemmas.{choices_by_nodes}
use Rattle.hv_mode_model.proofs.node_laws.choices_go_by_nodes.Goals as goal

pub returns : goal.returns
returns c = choices_by_nodes
