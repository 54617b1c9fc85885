use Rattle.std.proofs.Common.{ap₂, rules, ℤ}
use Rattle.std.proofs.lemmas.Int.{wrapping_add_is}
use mir.Syntax.{w16}
use mir.Val.{SFits}
use Rattle.hv_mode.proofs.predictor.moved_by.Goals as goal

pub returns : goal.returns
returns c =
    let candidate = c.args.candidate in
    let difference = c.args.difference in
    let candidate_x : SFits w16 candidate.x = search rules in
    let candidate_y : SFits w16 candidate.y = search rules in
    let difference_x : SFits w16 difference.x = search rules in
    let difference_y : SFits w16 difference.y = search rules in
    ap₂ (λ (a b : ℤ). record { x = a; y = b })
    (wrapping_add_is w16 candidate.x difference.x candidate_x difference_x)
    (wrapping_add_is w16 candidate.y difference.y candidate_y difference_y)
