use Rattle.hv_stream_model.proofs.FilledBitLemmas.{bits_of_fields-append}
use Rattle.hv_stream_model.proofs.field_laws.joined_fields_have_joined_bits.Goals as goal

pub returns : goal.returns
returns c = bits_of_fields-append
