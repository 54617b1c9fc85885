use Rattle.std.proofs.Common.{◌+◌, ◌++◌, ap, ◌∙◌, arith}
use Rattle.hv_stream_model.specs.Bits.{digits}
use Rattle.hv_plain.proofs.FieldStepLemmas.{golomb_put}
use Rattle.hv_plain.proofs.fields.put_exp_golomb.Goals as goal

pub returns : goal.returns
returns c =
    c.in_ok-put_digits-2.ensures ∙
    ap (λ xs. xs ++ digits (c.log2_of-zeros.result + 1) (c.from-number.result + 1))
    c.in_ok-put_digits.ensures ∙
    golomb_put c.args.bits.now.items c.args.value (c.from-number.result + 1) c.log2_of-zeros.result
    (omega (arith, c.from-number.ensures)) c.log2_of-zeros.ensures.value
