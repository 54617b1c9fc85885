use Rattle.hv_model.proofs.RoundTripLemmas.{built_decided}
use Rattle.hv_model.proofs.round_trip.built_is_decided.Goals as goal

pub returns : goal.returns
returns c = built_decided
