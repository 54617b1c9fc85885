use Rattle.hv_stream_model.proofs.StreamLemmas.{found_stream}
use Rattle.hv_stream_model.proofs.stream_laws.found_units_make_the_stream.Goals as goal

pub returns : goal.returns
returns c = found_stream
