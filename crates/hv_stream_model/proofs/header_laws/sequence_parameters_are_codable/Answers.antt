use Rattle.hv_stream_model.proofs.HeaderLemmas.{codable_sps}
use Rattle.hv_stream_model.proofs.header_laws.sequence_parameters_are_codable.Goals as goal

pub returns : goal.returns
returns c = codable_sps
