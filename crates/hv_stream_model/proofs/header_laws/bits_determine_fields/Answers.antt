use Rattle.hv_stream_model.proofs.DeterminedLemmas.{bits_determine}
use Rattle.hv_stream_model.proofs.header_laws.bits_determine_fields.Goals as goal

pub returns : goal.returns
returns g c = bits_determine _
