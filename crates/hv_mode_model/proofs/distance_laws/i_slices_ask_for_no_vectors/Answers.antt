use Rattle.hv_mode_model.proofs.DistanceLemmas.{i_slices_same}
use Rattle.hv_mode_model.proofs.distance_laws.i_slices_ask_for_no_vectors.Goals as goal

pub returns : goal.returns
returns c = i_slices_same
