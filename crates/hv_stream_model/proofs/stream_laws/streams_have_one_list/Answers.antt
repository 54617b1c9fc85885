use Rattle.hv_stream_model.proofs.StreamLemmas.{one_list}
use Rattle.hv_stream_model.proofs.stream_laws.streams_have_one_list.Goals as goal

pub returns : goal.returns
returns c = one_list
