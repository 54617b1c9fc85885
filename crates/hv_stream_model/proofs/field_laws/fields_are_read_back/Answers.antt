use Rattle.hv_stream_model.proofs.FieldLemmas.{fields_read_back}
use Rattle.hv_stream_model.proofs.field_laws.fields_are_read_back.Goals as goal

pub returns : goal.returns
returns g c = fields_read_back _
