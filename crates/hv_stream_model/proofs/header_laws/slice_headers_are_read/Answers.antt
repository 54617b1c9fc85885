use Rattle.hv_stream_model.proofs.HeaderLemmas.{reads_idr_slice}
use Rattle.hv_stream_model.proofs.header_laws.slice_headers_are_read.Goals as goal

pub returns : goal.returns
returns c = reads_idr_slice
