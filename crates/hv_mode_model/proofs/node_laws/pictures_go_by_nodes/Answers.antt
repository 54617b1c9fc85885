use Rattle.hv_mode_model.proofs.NodeChoiceLemmas.{pictures_by_nodes}
use Rattle.hv_mode_model.proofs.node_laws.pictures_go_by_nodes.Goals as goal

pub returns : goal.returns
returns c = pictures_by_nodes
