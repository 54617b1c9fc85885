use Rattle.hv_stream_model.proofs.HeaderLemmas.{reads_pps}
use Rattle.hv_stream_model.proofs.header_laws.picture_parameters_are_read.Goals as goal

pub returns : goal.returns
returns c = reads_pps
