use Rattle.hv_stream_model.proofs.UnitLemmas.{streams_read}
use Rattle.hv_stream_model.proofs.unit_laws.streams_are_read_back.Goals as goal

pub returns : goal.returns
returns c = streams_read
