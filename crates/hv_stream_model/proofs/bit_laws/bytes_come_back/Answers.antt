use Rattle.hv_stream_model.proofs.BitLemmas.{bytes_of-bits_of}
use Rattle.hv_stream_model.proofs.bit_laws.bytes_come_back.Goals as goal

pub returns : goal.returns
returns c = bytes_of-bits_of
