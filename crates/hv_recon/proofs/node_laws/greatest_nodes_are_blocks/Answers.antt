use Rattle.hv_recon.proofs.NodeLemmas.{greatest_node_is_block}
use Rattle.hv_recon.proofs.node_laws.greatest_nodes_are_blocks.Goals as goal

pub returns : goal.returns
returns c = greatest_node_is_block
