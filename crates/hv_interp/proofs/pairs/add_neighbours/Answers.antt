use Rattle.std.proofs.Common.{◌≡◌, ◌∙◌, ap, ◌+ℤ◌, List, ℤ, length, map}
use Rattle.std.specs.Int.{int_wrap}
use Rattle.std.proofs.lemmas.Int.{int_wrap_fits}
use mir.Syntax.{w16}
use Rattle.hv_lemmas.specs.Clipping.{clip16}
use Rattle.hv_interp.specs.Lanes.{lane}
use Rattle.hv_interp.proofs.EightSumLemmas.{small_fit}
use Rattle.hv_interp.proofs.PairLemmas.{added, added_at, length-added, kept_products, products_fit, unclipped}
use Rattle.hv_interp.proofs.pairs.add_neighbours.Goals as goal

pub clipped-requires-clause-numbers : goal.clipped-requires-clause-numbers
clipped-requires-clause-numbers c k = products_fit c.products.result c.products.ensures.range k

pub returns-clause-count : goal.returns-clause-count
returns-clause-count c =
    let sums : List ℤ = c.products.result in
    let is : c.clipped.result ≡ sums =
    c.clipped.ensures ∙ ap (map clip16) (kept_products sums c.products.ensures.range) ∙ unclipped sums c.products.ensures.range in
    length-added 8 c.args.sums c.clipped.result c.requires.eight (ap (λ l. length l) is ∙ c.products.ensures.count)

pub returns-clause-each : goal.returns-clause-each
returns-clause-each c j below =
    let sums : List ℤ = c.products.result in
    let is : c.clipped.result ≡ sums =
    c.clipped.ensures ∙ ap (map clip16) (kept_products sums c.products.ensures.range) ∙ unclipped sums c.products.ensures.range in
    ap (λ l. lane (added c.args.sums l) j) is ∙
    added_at 8 j c.args.sums sums c.requires.eight c.products.ensures.count c.requires.before (small_fit sums c.products.ensures.range) below ∙
    ap (λ z. int_wrap w16 (lane c.args.sums j +ℤ z)) (c.products.ensures.each j below) ∙
    int_wrap_fits w16 _ (c.requires.after j below)
