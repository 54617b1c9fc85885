use Rattle.hv_stream_model.proofs.FieldLemmas.{last_of-aligned}
use Rattle.hv_stream_model.proofs.field_laws.aligned_bytes_end.Goals as goal

pub returns : goal.returns
returns c = last_of-aligned
