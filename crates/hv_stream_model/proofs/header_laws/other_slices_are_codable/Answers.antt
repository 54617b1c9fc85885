use Rattle.hv_stream_model.proofs.SliceHeaderLemmas.{codable_slice}
use Rattle.hv_stream_model.proofs.header_laws.other_slices_are_codable.Goals as goal

pub returns : goal.returns
returns c = codable_slice
