use Rattle.std.proofs.Common.{◌+◌, arith}
use Rattle.hv_cabac.proofs.BoundLemmas.{last_small, below_25}
use Rattle.hv_cabac.proofs.register.last_of.Goals as goal

pub returns-clause-most : goal.returns-clause-most
returns-clause-most c =
    let a = c.args in
    let small = last_small a.low a.range a.bits a.pad c.requires.wide c.requires.low_most in
    let few = below_25 (a.bits + a.pad) (omega arith) in
    rw c.last_digits.ensures.value (omega (arith, small, few))
