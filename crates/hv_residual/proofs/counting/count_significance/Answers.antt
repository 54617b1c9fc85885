use Rattle.std.proofs.Common.{sym, ◌∙◌}
use Rattle.hv_residual.proofs.CountLemmas.{inferred_count, full_count}
use Rattle.hv_residual.proofs.counting.count_significance.Goals as goal

pub returns-then-is_inferred-clause-value : goal.returns-then-is_inferred-clause-value
returns-then-is_inferred-clause-value c = c.saturating_sub.ensures ∙
    sym (inferred_count c.args.levels.now c.args.sure (sym c.is_inferred.ensures ∙ c.if-is_inferred.true))

pub returns-clause-value : goal.returns-clause-value
returns-clause-value c =
    sym (full_count c.args.levels.now c.args.sure (sym c.is_inferred.ensures ∙ c.if-is_inferred.false))
