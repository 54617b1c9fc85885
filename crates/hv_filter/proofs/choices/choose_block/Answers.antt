use Rattle.std.proofs.Common.{ℕ, ◌∙◌, ap₂, arith}
use Rattle.hv_filter_model.specs.OffsetDecision.{chosen_offsets}
use Rattle.hv_filter.proofs.ChoiceLemmas.{some_effort}
use Rattle.hv_filter.proofs.choices.choose_block.Goals as goal

pub returns-else-effort-eq0-clause-value : goal.returns-else-effort-eq0-clause-value
returns-else-effort-eq0-clause-value c =
    c.choose_sao.ensures.value
    ∙ ap₂
    (λ (w h : ℕ).
    chosen_offsets c.args.deblocked.now c.args.input.now
    (record { width = w; height = h; index = c.args.number }) c.args.qp)
    c.width.ensures.value c.height.ensures.value
    ∙ some_effort c.args.effort c.args.qp c.args.number c.args.deblocked.now c.args.input.now
    (omega (arith, c.if-effort-eq0.false))
