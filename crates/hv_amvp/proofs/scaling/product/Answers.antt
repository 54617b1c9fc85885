use Rattle.std.proofs.Common.{◌≤◌, subst, sym}
use Rattle.std.specs.Int.RustNames.{unsigned_abs}
use Rattle.hv_amvp.proofs.ScalingLemmas.{product_most, product_is}
use Rattle.hv_amvp.proofs.scaling.product.Goals as goal

pub returns-clause-value : goal.returns-clause-value
returns-clause-value c = product_is c.args.a c.args.b c.requires.first c.requires.second

pub returns-clause-most : goal.returns-clause-most
returns-clause-most c =
    let same = product_is c.args.a c.args.b c.requires.first c.requires.second in
    let most = product_most c.args.a c.args.b c.requires.first c.requires.second in
    subst (λ z. unsigned_abs z ≤ 134217728) (sym same) most
