use Rattle.std.proofs.Common.{ap, ap₂, ◌∙◌, arith, neg_ℤ}
use Rattle.hv_lemmas.proofs.SignedLemmas.{passed_small}
use Rattle.hv_deblock_model.specs.EdgeFilters.{normal_side}
use Rattle.hv_deblock_model.proofs.LineLemmas.{line_of}
use Rattle.hv_deblock.proofs.luma.stepped_line.Goals as goal

pub returns : goal.returns
returns c =
    let step = passed_small c.args.step (omega (arith, c.requires.step)) in
    let turned = passed_small c.turned_step.result (omega (arith, c.turned_step.ensures.most)) in
    ap₂ line_of (c.normal_side.ensures ∙ ap (normal_side c.args.tc c.args.smooth_p c.args.line.p) step)
    (c.normal_side-2.ensures
    ∙ ap (normal_side c.args.tc c.args.smooth_q c.args.line.q) (turned ∙ c.turned_step.ensures.value ∙ ap neg_ℤ step))
