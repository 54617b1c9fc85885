use Rattle.hv_mode_model.proofs.NeighbourLemmas.{neighbourhoods_in_picture}
use Rattle.hv_mode_model.proofs.neighbour_laws.neighbourhoods_in_block_are_those_in_picture.Goals as goal

pub returns : goal.returns
returns c = neighbourhoods_in_picture
