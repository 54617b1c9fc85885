use Rattle.std.proofs.Common.{◌≡◌, take}
use Rattle.hv_stream_model.specs.Bits.{bits_of, number_of}
use Rattle.hv_bits.proofs.reader.number_at.Given as goal

abbrev pub invariant-loop-byte : goal.invariant-loop-byte
invariant-loop-byte l = l.number ≡ number_of (bits_of (take l.byte-index l.byte-items))
