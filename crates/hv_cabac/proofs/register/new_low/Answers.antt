use Rattle.std.proofs.Common.{◌+◌, arith}
use Rattle.hv_cabac.proofs.BoundLemmas.{low_grows, below_25}
use Rattle.hv_cabac.proofs.register.new_low.Goals as goal

pub returns-clause-most : goal.returns-clause-most
returns-clause-most c =
    let a = c.args in
    let small =
    low_grows a.low a.range a.bits a.skip a.width a.times c.requires.low_most c.requires.inside in
    let few = below_25 (a.bits + a.times) c.requires.most in
    rw c.from.ensures (omega (arith, small, few))
