use Rattle.std.proofs.Common.{sym, add-one}
use Rattle.hv_residual.proofs.PuttingLemmas.{puts_both, puts_same}
use Rattle.hv_residual.proofs.BinLemmas.{low_level, high_level}
use Rattle.hv_residual.proofs.binarization.put_remaining.Goals as goal

pub returns-then-prefix-lt4 : goal.returns-then-prefix-lt4
returns-then-prefix-lt4 g c =
    let a = c.args.sink.now in
    let lt = rw c.power.ensures at c.if-prefix-lt4.true in
    let p = rw c.power.ensures at c.put_truncated_unary.ensures in
    puts_same g.B.BinSink.stands_for a c.put_fixed_length.new.sink _ _
    (sym (low_level c.args.k c.args.value lt))
    (puts_both g.B.BinSink.stands_for a c.put_truncated_unary.new.sink c.put_fixed_length.new.sink _ _ p
    c.put_fixed_length.ensures)

pub returns-else-prefix-lt4 : goal.returns-else-prefix-lt4
returns-else-prefix-lt4 g c =
    let a = c.args.sink.now in
    let le = rw c.power.ensures at c.if-prefix-lt4.false in
    let p = rw (add-one, c.power-else-prefix-lt4.ensures) at c.put_exp_golomb.ensures in
    puts_same g.B.BinSink.stands_for a c.put_exp_golomb.new.sink _ _
    (sym (high_level c.args.k c.args.value le))
    (puts_both g.B.BinSink.stands_for a c.put_truncated_unary-else-prefix-lt4.new.sink
    c.put_exp_golomb.new.sink _ _ c.put_truncated_unary-else-prefix-lt4.ensures p)
