use Rattle.hv_mode_model.proofs.ValidChoiceLemmas.{vectors_of_node}
use Rattle.hv_mode_model.proofs.mode_laws.coded_nodes_have_their_vectors.Goals as goal

pub returns : goal.returns
returns c = vectors_of_node
