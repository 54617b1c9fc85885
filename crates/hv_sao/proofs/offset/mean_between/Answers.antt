use Rattle.std.proofs.Common.{◌≡◌, ◌≤ℤ◌, ◌∙◌, ap, arith}
use Rattle.std.proofs.lemmas.Int.{ints}
use Rattle.hv_lemmas.specs.Clipping.{clip3}
use Rattle.hv_lemmas.proofs.SignedLemmas.{passed_small}
use Rattle.hv_filter_model.specs.OffsetDecision.{mean}
use Rattle.hv_sao.proofs.NumberLemmas.{byte_passes, clip3_inside}
use Rattle.hv_sao.proofs.offset.mean_between.Goals as goal

pub returns-else-mean-from-2-clause-value : goal.returns-else-mean-from-2-clause-value
returns-else-mean-from-2-clause-value c =
    let same : c.mean-mean.result ≡ mean c.args.all.sum c.args.all.count =
    c.mean-mean.ensures ∙ ap (λ z. mean z c.args.all.count) (passed_small c.args.all.sum (omega (arith, c.requires.sum))) in
    let low : c.args.least ≤ℤ c.mean-mean.result = omega (arith, ints, c.if-mean-from.false, c.from.ensures) in
    let high : c.mean-mean.result ≤ℤ c.args.most = omega (arith, ints, c.if-mean-from-2.false, c.from-else-mean-from.ensures) in
    byte_passes c.mean-mean.result (omega (arith, ints, low, high, c.requires.least, c.requires.most))
    ∙ clip3_inside c.args.least c.args.most c.mean-mean.result low high
    ∙ ap (λ z. clip3 c.args.least c.args.most z) same
