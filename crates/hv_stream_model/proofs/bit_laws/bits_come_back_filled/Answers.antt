use Rattle.hv_stream_model.proofs.FilledBitLemmas.{bits_of-bytes_of-zeros}
use Rattle.hv_stream_model.proofs.bit_laws.bits_come_back_filled.Goals as goal

pub returns : goal.returns
returns c = bits_of-bytes_of-zeros
