use Rattle.hv_stream_model.proofs.SliceHeaderLemmas.{reads_slice}
use Rattle.hv_stream_model.proofs.header_laws.other_slices_are_read.Goals as goal

pub returns : goal.returns
returns c = reads_slice
