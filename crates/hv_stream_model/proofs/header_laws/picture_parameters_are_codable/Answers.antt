use Rattle.hv_stream_model.proofs.HeaderLemmas.{codable_pps}
use Rattle.hv_stream_model.proofs.header_laws.picture_parameters_are_codable.Goals as goal

pub returns : goal.returns
returns c = codable_pps
