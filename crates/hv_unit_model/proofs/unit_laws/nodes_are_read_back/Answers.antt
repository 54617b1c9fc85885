use Rattle.hv_unit_model.proofs.UnitLemmas.{reads_nodes}
use Rattle.hv_unit_model.proofs.unit_laws.nodes_are_read_back.Goals as goal

pub returns : goal.returns
returns c = reads_nodes
