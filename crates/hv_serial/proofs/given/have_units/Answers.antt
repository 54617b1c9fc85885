-- Before the first block there is none.
use Rattle.std.proofs.Common.{arith}
use Rattle.hv_serial.proofs.given.have_units.Goals as goal

pub loop-index-init : goal.loop-index-init
loop-index-init c = λ index block below there. absurd (omega (arith, below))
