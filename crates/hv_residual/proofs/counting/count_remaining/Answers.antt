use Rattle.std.proofs.Common.{sym, add-one}
use Rattle.hv_residual.proofs.CountLemmas.{low_count, high_count}
use Rattle.hv_residual.proofs.counting.count_remaining.Goals as goal

pub returns-then-prefix-lt4-clause-value : goal.returns-then-prefix-lt4-clause-value
returns-then-prefix-lt4-clause-value c =
    let lt = rw c.power.ensures at c.if-prefix-lt4.true in
    rw (c.power.ensures, c.from.ensures) (sym (low_count c.args.k c.args.value lt))

pub returns-else-prefix-lt4-clause-value : goal.returns-else-prefix-lt4-clause-value
returns-else-prefix-lt4-clause-value c =
    let le = rw c.power.ensures at c.if-prefix-lt4.false in
    let p = rw (add-one, c.power-else-prefix-lt4.ensures) at c.count_exp_golomb.ensures.value in
    rw p (sym (high_count c.args.k c.args.value le))
