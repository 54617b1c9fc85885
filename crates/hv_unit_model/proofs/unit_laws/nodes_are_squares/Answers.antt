use Rattle.hv_unit_model.proofs.GeometryLemmas.{square_of_node}
use Rattle.hv_unit_model.proofs.unit_laws.nodes_are_squares.Goals as goal

pub returns : goal.returns
returns c = square_of_node
