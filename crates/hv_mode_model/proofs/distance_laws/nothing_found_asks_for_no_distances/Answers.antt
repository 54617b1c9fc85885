use Rattle.hv_mode_model.proofs.DistanceLemmas.{nothing_found_same}
use Rattle.hv_mode_model.proofs.distance_laws.nothing_found_asks_for_no_distances.Goals as goal

pub returns : goal.returns
returns c = nothing_found_same
