use Rattle.hv_stream_model.proofs.HeaderLemmas.{codable_idr_slice}
use Rattle.hv_stream_model.proofs.header_laws.slice_headers_are_codable.Goals as goal

pub returns : goal.returns
returns c = codable_idr_slice
