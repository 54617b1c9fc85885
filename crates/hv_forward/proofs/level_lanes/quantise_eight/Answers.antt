use Rattle.std.proofs.Common.{◌≤◌, sym, subst, All, List, ℤ}
use Rattle.std.specs.Int.RustNames.{unsigned_abs}
use Rattle.hv_lanes.specs.Lanes.{Numbers32}
use Rattle.hv_forward.proofs.LevelLemmas.{small_of_bits, coefficients_kept, products_kept, products_small, levels_kept, levels_fit, eight_levels, written_levels}
use Rattle.hv_forward.proofs.level_lanes.quantise_eight.Goals as goal

pub products-products-requires-clause-range : goal.products-products-requires-clause-range
products-products-requires-clause-range c =
    let numbers : List ℤ = c.args.coefficients.now in
    subst (All (λ z. unsigned_abs z ≤ 32768)) (sym (coefficients_kept numbers c.requires.eight c.requires.range)) (small_of_bits numbers c.requires.range)

pub rounded_levels-requires-clause-range : goal.rounded_levels-requires-clause-range
rounded_levels-requires-clause-range c =
    let numbers : List ℤ = c.args.coefficients.now in
    subst (All (λ z. unsigned_abs z ≤ 1073741824))
    (sym (products_kept c.args.factor numbers c.products-products.result c.requires.eight c.requires.range c.requires.most c.products-products.ensures))
    (products_small c.args.factor numbers c.requires.most (small_of_bits numbers c.requires.range))

pub clipped-requires-clause-numbers : goal.clipped-requires-clause-numbers
clipped-requires-clause-numbers c =
    let numbers : List ℤ = c.args.coefficients.now in
    subst Numbers32
    (sym (levels_kept c.args.factor c.args.offset c.args.shift numbers c.products-products.result c.rounded_levels.result c.requires.eight c.requires.range c.requires.most c.requires.greatest c.requires.part c.products-products.ensures c.rounded_levels.ensures))
    (levels_fit c.args.offset c.args.shift _ c.requires.greatest c.requires.part (products_small c.args.factor numbers c.requires.most (small_of_bits numbers c.requires.range)))

pub returns : goal.returns
returns c =
    let numbers : List ℤ = c.args.coefficients.now in
    let is = eight_levels c.args.factor c.args.offset c.args.shift numbers c.products-products.result c.rounded_levels.result c.clipped.result c.requires.eight c.requires.range c.requires.some c.requires.most c.requires.greatest c.requires.part c.products-products.ensures c.rounded_levels.ensures c.clipped.ensures in
    written_levels c.args.factor c.args.offset c.args.shift numbers c.clipped.result c.args.out.now c.requires.eight c.requires.room is
