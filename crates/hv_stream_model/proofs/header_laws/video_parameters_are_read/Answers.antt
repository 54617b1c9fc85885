use Rattle.hv_stream_model.proofs.HeaderLemmas.{reads_vps}
use Rattle.hv_stream_model.proofs.header_laws.video_parameters_are_read.Goals as goal

pub returns : goal.returns
returns c = reads_vps
