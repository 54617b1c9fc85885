use Rattle.hv_unit_model.proofs.SquareLemmas.{length-squares}
use Rattle.hv_unit_model.proofs.unit_laws.nodes_have_their_squares.Goals as goal

pub returns : goal.returns
returns c = length-squares
