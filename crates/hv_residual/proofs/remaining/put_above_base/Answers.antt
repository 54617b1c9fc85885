use Rattle.std.proofs.Common.{sym, ◌∙◌, ap, ℕ}
use Rattle.hv_residual_model.specs.Binarization.{remaining_bins}
use Rattle.hv_residual.proofs.PuttingLemmas.{puts_same, puts_none}
use Rattle.hv_residual.proofs.RemainingLemmas.{with_remaining, without_remaining}
use Rattle.hv_residual.proofs.remaining.put_above_base.Goals as goal

pub returns-then-base : goal.returns-then-base
returns-then-base g c =
    puts_same g.B.BinSink.stands_for _ _ _ _
    (ap (λ (v : ℕ). remaining_bins c.args.rice v) (c.from.ensures ∙ c.saturating_sub.ensures) ∙
    sym (with_remaining c.args.base.has_remaining c.args.rice _ c.if-base.true)) c.put_remaining.ensures

pub returns-else-base : goal.returns-else-base
returns-else-base g c =
    puts_none g.B.BinSink.stands_for _ _ (without_remaining c.args.base.has_remaining c.args.rice _ c.if-base.false)
