use Rattle.std.proofs.Common.{sym, ◌∙◌, ap, ℕ, length}
use Rattle.hv_residual_model.specs.Binarization.{remaining_bins}
use Rattle.hv_residual.proofs.RemainingLemmas.{with_remaining, without_remaining}
use Rattle.hv_residual.proofs.counting.count_above_base.Goals as goal

pub returns-then-base-clause-value : goal.returns-then-base-clause-value
returns-then-base-clause-value c =
    c.count_remaining.ensures.value ∙
    ap (λ (v : ℕ). length (remaining_bins c.args.rice v)) (c.from.ensures ∙ c.saturating_sub.ensures) ∙
    sym (ap length (with_remaining c.args.base.has_remaining c.args.rice _ c.if-base.true))

pub returns-clause-value : goal.returns-clause-value
returns-clause-value c =
    sym (ap length (without_remaining c.args.base.has_remaining c.args.rice _ c.if-base.false))
