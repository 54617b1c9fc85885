use Rattle.std.proofs.Common.{sym, ◌∙◌, arith}
use Rattle.hv_residual.proofs.FlagLemmas.{none_above, above, not_above}
use Rattle.hv_residual.proofs.flags.first_above_1.Goals as goal

pub loop-m-preserved : goal.loop-m-preserved
loop-m-preserved c = c.loop-m.invariant ∙
    not_above c.loop-m.left c.args.magnitudes.now c.loop-m.m-index (omega arith) (omega arith) (omega arith)

pub returns-then-left-eq0 : goal.returns-then-left-eq0
returns-then-left-eq0 c = sym (c.loop-m.invariant ∙ none_above c.loop-m.left _ (omega arith))

pub returns-then-m-gt1 : goal.returns-then-m-gt1
returns-then-m-gt1 c = sym (c.loop-m.invariant ∙
    above c.loop-m.left c.args.magnitudes.now c.loop-m.m-index (omega arith) (omega arith) c.if-m-gt1.true)
