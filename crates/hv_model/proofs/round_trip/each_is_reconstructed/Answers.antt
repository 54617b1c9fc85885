use Rattle.hv_model.proofs.GroupLemmas.{each_reconstructed}
use Rattle.hv_model.proofs.round_trip.each_is_reconstructed.Goals as goal

pub returns : goal.returns
returns c = each_reconstructed
