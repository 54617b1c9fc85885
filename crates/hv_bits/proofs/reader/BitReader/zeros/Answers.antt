use Rattle.std.proofs.Common.{◌≡◌, arith, ap, ◌∙◌, sym, min, take, length}
use Rattle.hv_stream_model.specs.Bits.{number_of}
use Rattle.hv_stream_model.proofs.FieldLemmas.{exponent_below}
use Rattle.hv_bits.proofs.ReadingLemmas.{left_bits, AreBits-left, zeros_all, zeros_some}
use Rattle.hv_bits.proofs.reader.BitReader.zeros.Goals as goal
use Rattle.hv_bits.proofs.reader.BitReader.zeros.Goals.{then-self-lt5, else-self-lt5}

pub overflow_sub-result-else-number-eq0 : goal.overflow_sub-result-else-number-eq0
overflow_sub-result-else-number-eq0 c =
    omega (arith, exponent_below _ _ _ c.ilog2.ensures.power_le c.number_at-number.ensures.bound)

pub returns-then-number-eq0 : goal.returns-then-number-eq0
returns-then-number-eq0 c =
    let left = left_bits c.self.inside.bytes.now c.args.self.now c.self.inside.skipped
    c.self.view_is in
    let seen : c.if-self-lt5.seen ≡ min 33 (length c.args.self.now) =
    elim c.if-self-lt5.branch [
      | then-self-lt5 w ↦ omega (
        arith,
        left,
      )
      | else-self-lt5 w ↦ omega (arith, left)
    ] in
    zeros_all c.args.self.now c.if-self-lt5.seen (AreBits-left c.self.inside.bytes.now
    c.args.self.now c.self.inside.skipped c.self.view_is) seen
    (ap (λ w. number_of (take c.if-self-lt5.seen w)) (sym c.self.view_is) ∙
    sym c.number_at-number.ensures.value ∙ c.if-number-eq0.true)

pub returns-else-number-eq0 : goal.returns-else-number-eq0
returns-else-number-eq0 c =
    let left = left_bits c.self.inside.bytes.now c.args.self.now c.self.inside.skipped
    c.self.view_is in
    let seen : c.if-self-lt5.seen ≡ min 33 (length c.args.self.now) =
    elim c.if-self-lt5.branch [
      | then-self-lt5 w ↦ omega (
        arith,
        left,
      )
      | else-self-lt5 w ↦ omega (arith, left)
    ] in
    zeros_some c.args.self.now c.if-self-lt5.seen c.ilog2.result c.number_at-number.result
    (AreBits-left c.self.inside.bytes.now c.args.self.now c.self.inside.skipped c.self.view_is) seen
    (c.number_at-number.ensures.value ∙
    ap (λ w. number_of (take c.if-self-lt5.seen w)) c.self.view_is)
    c.ilog2.ensures.power_le c.ilog2.ensures.next_power_gt c.number_at-number.ensures.bound
