use Rattle.std.proofs.Common.{◌%◌, ◌++◌, ◌∷◌, [], ap, ◌∙◌, arith}
use Rattle.hv_plain.proofs.FieldStepLemmas.{digits_more}
use Rattle.hv_plain.proofs.fields.+put_digits.Goals as goal

pub returns : goal.returns
returns t c =
    c.in_ok-push.ensures.items ∙ ap (λ xs. xs ++ c.args.value % 2 ∷ []) c.in_ok-put_digits.ensures ∙
    digits_more c.args.bits.now.items c.args.count c.args.value (omega arith)
