use Rattle.hv_recon.proofs.NodeLemmas.{split_by_children}
use Rattle.hv_recon.proofs.node_laws.split_nodes_decode_by_children.Goals as goal

pub returns : goal.returns
returns c = split_by_children
