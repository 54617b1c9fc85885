use Rattle.hv_stream_model.proofs.FieldLemmas.{length-aligned}
use Rattle.hv_stream_model.proofs.field_laws.aligned_bits_are_whole.Goals as goal

pub returns : goal.returns
returns c = length-aligned
