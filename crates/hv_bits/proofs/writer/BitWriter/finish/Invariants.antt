use Rattle.std.proofs.Common.{◌≡◌, ◌<◌, ◌++◌}
use Rattle.hv_stream_model.specs.Bits.{digits, bits_of}
use Rattle.hv_stream_model.specs.BitLaws.{AreBytes}
use Rattle.hv_bits.proofs.writer.BitWriter.finish.Given as goal

abbrev pub invariant-loop-waiting : goal.invariant-loop-waiting
invariant-loop-waiting l = (l.waiting < 32) × (bits_of l.bytes.items ++ digits l.waiting l.recent ≡
    l.fn.self.bits) × AreBytes l.bytes.items

abbrev pub decreases-loop-waiting : goal.decreases-loop-waiting
decreases-loop-waiting l = l.waiting
