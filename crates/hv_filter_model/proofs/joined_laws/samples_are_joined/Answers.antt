use Rattle.hv_filter_model.proofs.JoinedLemmas.{samples_joined}
use Rattle.hv_filter_model.proofs.joined_laws.samples_are_joined.Goals as goal

pub returns : goal.returns
returns c = samples_joined
