use Rattle.hv_stream_model.proofs.BitLemmas.{bytes_of-append}
use Rattle.hv_stream_model.proofs.bit_laws.bytes_append.Goals as goal

pub returns : goal.returns
returns c = bytes_of-append
