use Rattle.std.proofs.Common.{◌≡◌, ◌+◌, ◌-◌, ◌*◌, ◌^◌, ◌<◌, get_or, sym, ◌∙◌, arith}
use Rattle.std.proofs.lemmas.Option.{get_or_from_slice_get}
use Rattle.hv_stream_model.specs.Bits.{bits_of}
use Rattle.hv_stream_model.proofs.BitLemmas.{length-bits_of}
use Rattle.hv_plain.proofs.BitPlaceLemmas.{within_bits, doubled_less, if_some_more, read_past, read_more}
use Rattle.hv_plain.proofs.bits.+read_bits.Goals as goal

pub read_bits-requires : goal.read_bits-requires
read_bits-requires t c =
    let w = within_bits c.args.bytes.now c.args.at c.in-Some.bit c.in-Some.ensures.value in
    let small = c.in-Some.ensures.most in
    let bit : c.from.result < 2 = omega (arith, small) in
    let s = doubled_less c.args.offset c.from.result c.args.count (omega arith) bit in
    (omega arith, (omega arith, (omega (arith, w), omega (arith, s))))

pub returns-in-None-clause-value : goal.returns-in-None-clause-value
returns-in-None-clause-value t c = λ variables range.
    read_past c.args.count variables range c.args.offset (bits_of c.args.bytes.now) c.args.at
    (omega arith) c.in-None.ensures.value

pub returns-in-Some-clause-value : goal.returns-in-Some-clause-value
returns-in-Some-clause-value t c = λ variables range.
    let bits = bits_of c.args.bytes.now in
    let w = within_bits c.args.bytes.now c.args.at c.in-Some.bit c.in-Some.ensures.value in
    let e : c.from.result ≡ get_or bits c.args.at 0 =
    c.from.ensures
    ∙ sym (get_or_from_slice_get bits c.args.at c.in-Some.bit 0 (sym c.in-Some.ensures.value)) in
    read_more c.args.count variables range c.args.offset bits c.args.at c.from.result (omega arith)
    (omega (arith, w, length-bits_of c.args.bytes.now)) e
    ∙ c.read_bits.ensures.value variables range

pub returns-in-Some-clause-below : goal.returns-in-Some-clause-below
returns-in-Some-clause-below t c =
    let small = c.in-Some.ensures.most in
    let bit : c.from.result < 2 = omega (arith, small) in
    let s = doubled_less c.args.offset c.from.result c.args.count (omega arith) bit in
    if_some_more c.read_bits.result
    (λ r. r.0 < (2 * c.args.offset + c.from.result + 1) * 2 ^ (c.args.count - 1))
    (λ r. r.0 < (c.args.offset + 1) * 2 ^ c.args.count)
    (λ r h. omega (arith, h, s))
    c.read_bits.ensures.below
