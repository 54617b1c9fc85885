use Rattle.hv_stream_model.proofs.BitLemmas.{bits_of-bytes_of}
use Rattle.hv_stream_model.proofs.bit_laws.bits_come_back.Goals as goal

pub returns : goal.returns
returns c = bits_of-bytes_of
