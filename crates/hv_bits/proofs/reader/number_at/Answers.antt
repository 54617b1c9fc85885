use Rattle.std.proofs.Common.{◌≡◌, ◌<◌, ◌+◌, ◌/◌, ◌∙◌, arith, get_or, subst, sym, length-take}
use Rattle.std.proofs.lemmas.List.{get_or-take}
use Rattle.hv_bits.proofs.ReadingLemmas.{number_step, number_final}
use Rattle.hv_bits.proofs.reader.number_at.Goals as goal

pub loop-byte-preserved : goal.loop-byte-preserved
loop-byte-preserved c =
    let whole = length-take ((c.args.skipped + c.args.count + 7) / 8) c.args.bytes.now in
    let within : c.loop-byte.byte-index < (c.args.skipped + c.args.count + 7) / 8 =
    omega (arith, whole) in
    let byte : c.from.result ≡ get_or c.args.bytes.now c.loop-byte.byte-index 0 =
    c.from.ensures ∙ get_or-take ((c.args.skipped + c.args.count + 7) / 8) c.args.bytes.now
    c.loop-byte.byte-index 0 within in
    let small : c.from.result < 256 =
    subst (λ b. b < 256) (sym byte) ((c.type_inv.bytes c.loop-byte.byte-index).fits) in
    number_step _ _ _ _ c.loop-byte-test.true (omega arith) small c.from.ensures
    c.loop-byte.invariant

pub returns-clause-value : goal.returns-clause-value
returns-clause-value c =
    number_final c.args.bytes.now c.args.skipped c.args.count _ c.loop-byte.number c.requires.count
    c.requires.there c.loop-byte-test.false c.loop-byte.invariant
