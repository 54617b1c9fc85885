use Rattle.std.proofs.Common.{ap₂, rules, ℤ}
use Rattle.std.proofs.lemmas.Int.{wrapping_sub_is}
use mir.Syntax.{w16}
use mir.Val.{SFits}
use Rattle.hv_mode.proofs.predictor.difference.Goals as goal

pub returns : goal.returns
returns c =
    let mv = c.args.mv in
    let candidate = c.args.candidate in
    let mv_x : SFits w16 mv.x = search rules in
    let mv_y : SFits w16 mv.y = search rules in
    let candidate_x : SFits w16 candidate.x = search rules in
    let candidate_y : SFits w16 candidate.y = search rules in
    ap₂ (λ (a b : ℤ). record { x = a; y = b })
    (wrapping_sub_is w16 mv.x candidate.x mv_x candidate_x)
    (wrapping_sub_is w16 mv.y candidate.y mv_y candidate_y)
