use Rattle.std.proofs.Common.{arith}
use Rattle.std.proofs.lemmas.Bool.Decides.{nat_tests}
use Rattle.hv_bits.proofs.ReadingLemmas.{left_bits}
use Rattle.hv_bits.proofs.reader.BitReader.has.Goals as goal

pub returns : goal.returns
returns c = rw (left_bits c.self.inside.bytes.now c.args.self.now c.self.inside.skipped
    c.self.view_is) (grind (arith, nat_tests, c.self.invariant.0, c.self.invariant.1))
