use Rattle.std.proofs.Common.{◌≡◌, ◌+◌, ℤ, length, subst, arith, rules}
use Rattle.std.proofs.lemmas.Int.{to_z-of_z}
use mir.Syntax.{w16}
use mir.Val.{SFits}
use Rattle.hv_unit_model.specs.Bins.{greater1_bins, rest_bins}
use Rattle.hv_syntax.proofs.CountLemmas.{length_mvd}
use Rattle.hv_syntax.proofs.counting.count_difference.Goals as goal

pub returns-clause-value : goal.returns-clause-value
returns-clause-value c =
    let d = c.args.difference in
    let fits_x : SFits w16 d.x = search rules in
    let fits_y : SFits w16 d.y = search rules in
    let x : c.count_component.result ≡ length (greater1_bins d.x) + length (rest_bins d.x) =
    subst (λ (z : ℤ). c.count_component.result ≡ length (greater1_bins z) + length (rest_bins z))
    (to_z-of_z w16 d.x fits_x) c.count_component.ensures.value in
    let y : c.count_component-2.result ≡ length (greater1_bins d.y) + length (rest_bins d.y) =
    subst (λ (z : ℤ). c.count_component-2.result ≡ length (greater1_bins z) + length (rest_bins z))
    (to_z-of_z w16 d.y fits_y) c.count_component-2.ensures.value in
    omega (arith, x, y, length_mvd d)
