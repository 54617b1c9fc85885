use Rattle.std.proofs.Common.{arith, sym}
use Rattle.hv_residual.proofs.CountLemmas.{golomb_code}
use Rattle.hv_residual.proofs.counting.count_exp_golomb.Goals as goal

pub overflow_sub-result : goal.overflow_sub-result
overflow_sub-result c =
    let g = golomb_code c.args.k c.args.value c.requires.order c.requires.most in
    rw (c.from.ensures, c.power.ensures) (omega (arith, g.1))

pub returns-clause-value : goal.returns-clause-value
returns-clause-value c =
    let g = golomb_code c.args.k c.args.value c.requires.order c.requires.most in
    rw (c.from.ensures, c.power.ensures) (sym g.0)

pub returns-clause-most : goal.returns-clause-most
returns-clause-most c =
    let g = golomb_code c.args.k c.args.value c.requires.order c.requires.most in
    rw (c.from.ensures, c.power.ensures) (omega (arith, g.2))
