use Rattle.hv_recon.proofs.NodeLemmas.{leaf_as_node}
use Rattle.hv_recon.proofs.node_laws.leaves_decode_as_nodes.Goals as goal

pub returns : goal.returns
returns c = leaf_as_node
