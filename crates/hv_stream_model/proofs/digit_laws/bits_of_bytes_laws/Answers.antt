use Rattle.hv_stream_model.proofs.BitLemmas.{bits_of-append, length-bits_of, AreBits-bits_of, drop-bits_of, bits_of-bytes_high_first}
use Rattle.hv_stream_model.proofs.digit_laws.bits_of_bytes_laws.Goals as goal

pub returns-clause-joined : goal.returns-clause-joined
returns-clause-joined c = bits_of-append

pub returns-clause-count : goal.returns-clause-count
returns-clause-count c = length-bits_of

pub returns-clause-bits : goal.returns-clause-bits
returns-clause-bits c = AreBits-bits_of

pub returns-clause-behind : goal.returns-clause-behind
returns-clause-behind c = drop-bits_of

pub returns-clause-number : goal.returns-clause-number
returns-clause-number c = bits_of-bytes_high_first
