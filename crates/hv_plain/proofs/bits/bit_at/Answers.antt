use Rattle.hv_plain.proofs.BitPlaceLemmas.{bit_there, bit_past}
use Rattle.hv_plain.proofs.bits.bit_at.Goals as goal

pub returns-then-at-bytes-clause-value : goal.returns-then-at-bytes-clause-value
returns-then-at-bytes-clause-value c = bit_there c.args.bytes.now c.args.at c.if-at-bytes.true

pub returns-else-at-bytes-clause-value : goal.returns-else-at-bytes-clause-value
returns-else-at-bytes-clause-value c = bit_past c.args.bytes.now c.args.at c.if-at-bytes.false
