use Rattle.hv_recon.proofs.NodeLemmas.{outside_decodes_nothing}
use Rattle.hv_recon.proofs.node_laws.nodes_outside_decode_nothing.Goals as goal

pub returns : goal.returns
returns c = outside_decodes_nothing
