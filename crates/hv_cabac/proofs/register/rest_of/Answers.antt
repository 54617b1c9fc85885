use Rattle.std.proofs.Common.{◌≡◌, ◌-◌, ◌*◌, ◌%◌, ◌^◌, arith}
use Rattle.hv_cabac.proofs.BoundLemmas.{rest_small, below_25}
use Rattle.hv_cabac.proofs.register.rest_of.Goals as goal

pub returns-clause-most : goal.returns-clause-most
returns-clause-most c =
    let a = c.args in
    let small = rest_small a.low a.range a.bits c.requires.least c.requires.range_most in
    let few = below_25 (a.bits - 8) (omega arith) in
    let e : 1 * 2 ^ (a.bits - 8) % 18446744073709551616 ≡ 2 ^ (a.bits - 8) = omega (arith, few) in
    rw e (omega (arith, small))
