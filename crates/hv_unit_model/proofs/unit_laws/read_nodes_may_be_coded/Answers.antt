use Rattle.hv_unit_model.proofs.ReadUnitLemmas.{read_nodes}
use Rattle.hv_unit_model.proofs.unit_laws.read_nodes_may_be_coded.Goals as goal

pub returns : goal.returns
returns c = read_nodes
