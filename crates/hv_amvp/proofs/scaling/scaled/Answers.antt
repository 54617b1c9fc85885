use Rattle.std.proofs.Common.{◌∙◌, ap₂, sym, rules, ℤ}
use Rattle.std.proofs.lemmas.Int.{to_z-of_z}
use Rattle.std.specs.Int.RustNames.{FitsSigned}
use mir.Syntax.{w8, w16, w32}
use Rattle.hv_plan.specs.declared.prediction.Mv.{Mv}
use Rattle.hv_vector_model.specs.VectorPrediction.{distScaleFactor, scaled_component, scaled}
use Rattle.hv_amvp.proofs.ScalingLemmas.{distance_is}
use Rattle.hv_amvp.proofs.scaling.scaled.Goals as goal

pub returns : goal.returns
unfolding scaled
returns c =
    let to_fits : FitsSigned w8 c.args.to = search rules in
    let from_fits : FitsSigned w8 c.args.from = search rules in
    let x_fits : FitsSigned w16 c.args.mv.x = search rules in
    let y_fits : FitsSigned w16 c.args.mv.y = search rules in
    let tb_fits : FitsSigned w32 c.from.result = search rules in
    let td_fits : FitsSigned w32 c.from-2.result = search rules in
    let factor_fits : FitsSigned w32 c.scale_factor-factor.result = search rules in
    let first_fits : FitsSigned w16 c.scaled_component.result = search rules in
    let second_fits : FitsSigned w16 c.scaled_component-2.result = search rules in
    let tb = to_z-of_z w32 c.from.result tb_fits ∙ c.from.ensures ∙
    to_z-of_z w8 c.args.to to_fits ∙ sym (distance_is c.args.to to_fits) in
    let td = to_z-of_z w32 c.from-2.result td_fits ∙ c.from-2.ensures ∙
    to_z-of_z w8 c.args.from from_fits ∙ sym (distance_is c.args.from from_fits) in
    let factor = to_z-of_z w32 c.scale_factor-factor.result factor_fits ∙
    c.scale_factor-factor.ensures.value ∙ ap₂ distScaleFactor tb td in
    let mv : ℤ → ℤ → Mv = λ x y. record { x = x; y = y } in
    ap₂ mv
    (to_z-of_z w16 c.scaled_component.result first_fits ∙ c.scaled_component.ensures ∙
    ap₂ scaled_component factor (to_z-of_z w16 c.args.mv.x x_fits))
    (to_z-of_z w16 c.scaled_component-2.result second_fits ∙ c.scaled_component-2.ensures ∙
    ap₂ scaled_component factor (to_z-of_z w16 c.args.mv.y y_fits))
