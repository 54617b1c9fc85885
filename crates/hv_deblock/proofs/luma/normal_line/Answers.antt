use Rattle.std.proofs.Common.{◌≡◌, ◌∙◌, ap, arith}
use Rattle.std.specs.Int.RustNames.{unsigned_abs}
use Rattle.hv_lemmas.proofs.SignedLemmas.{passed, passed_small}
use Rattle.hv_deblock_model.specs.EdgeFilters.{clip_to, stepped_line}
use Rattle.hv_deblock.proofs.LineLemmas.{normal_stepped}
use Rattle.hv_deblock.proofs.luma.normal_line.Goals as goal

pub returns-then-unsigned_abs-from : goal.returns-then-unsigned_abs-from
returns-then-unsigned_abs-from c =
    let step : passed c.line_step-step.result ≡ c.line_step-step.result =
    passed_small c.line_step-step.result (omega (arith, c.line_step-step.ensures.most)) in
    let clipped : passed c.clip_to.result ≡ c.clip_to.result =
    passed_small c.clip_to.result (omega (arith, c.clip_to.ensures.most)) in
    normal_stepped c.args.tc c.args.smooth_p c.args.smooth_q c.args.line c.stepped_line.result c.line_step-step.result c.clip_to.result
    c.line_step-step.ensures.value
    (omega (arith, c.if-unsigned_abs-from.true, c.unsigned_abs.ensures.value, ap unsigned_abs step, c.from.ensures))
    (c.clip_to.ensures.value ∙ ap (clip_to c.args.tc) step)
    (c.stepped_line.ensures ∙ ap (stepped_line c.args.tc c.args.smooth_p c.args.smooth_q c.args.line) clipped)
