use Rattle.std.proofs.Common.{◌∙◌, pos, ◌*ℤ◌, ap, rules, w32}
use Rattle.std.proofs.lemmas.Int.{to_z-of_z}
use Rattle.std.specs.Int.RustNames.{FitsSigned}
use mir.Syntax.{w16}
use Rattle.hv_lemmas.specs.Clipping.{clip16}
use Rattle.hv_sample_model.specs.Quantisation.{rounded}
use Rattle.hv_transform.proofs.scaling.scaled_by.Goals as goal

pub returns : goal.returns
returns c =
    let whole : FitsSigned w32 c.product.result = search rules in
    let shifted : FitsSigned w32 c.rounded.result = search rules in
    let fits : FitsSigned w32 c.clipped.result = search rules in
    to_z-of_z w32 c.clipped.result fits ∙ c.clipped.ensures ∙
    ap clip16 (to_z-of_z w32 c.rounded.result shifted ∙ c.rounded.ensures ∙
    ap (λ z. rounded z c.args.shift) (to_z-of_z w32 c.product.result whole ∙ c.product.ensures.value ∙
    ap (λ l. l *ℤ pos c.args.factor) (to_z-of_z w16 c.args.level c.ranges.level)))
