use Rattle.std.proofs.Common.{rules, FitsSigned, ◌≡◌, ◌∙◌, arith, ap, ℤ, false, true, w64, to_z, of_z, pos, ◌+ℤ◌, ◌-ℤ◌}
use Rattle.std.proofs.lemmas.Int.{to_z-of_z, fits_signed_from_abs}
use mir.Syntax.{w16}
use Rattle.hv_inter_model.specs.Interpolation.{fraction, whole_part}
use Rattle.hv_interp.proofs.PredictionLemmas.{block_from}
use Rattle.hv_interp.proofs.predict.predict_inter.Goals as goal

pub returns-then-luma : goal.returns-then-luma
returns-then-luma c =
    let fits_x : FitsSigned w16 c.args.mv.x = search rules in
    let fits_y : FitsSigned w16 c.args.mv.y = search rules in
    let x : to_z w16 (of_z w16 c.args.mv.x) ≡ c.args.mv.x = to_z-of_z w16 c.args.mv.x fits_x in
    let y : to_z w16 (of_z w16 c.args.mv.y) ≡ c.args.mv.y = to_z-of_z w16 c.args.mv.y fits_y in
    let column : ℤ = c.start-column.result in
    let row : ℤ = c.start-row.result in
    let kept_column = to_z-of_z w64 column (fits_signed_from_abs w64 _ (omega (arith, c.start-column.ensures.most))) in
    let kept_row = to_z-of_z w64 row (fits_signed_from_abs w64 _ (omega (arith, c.start-row.ensures.most))) in
    block_from true c.args.luma c.args.reference.now c.args.mv c.args.x c.args.y c.args.size c.from-size.result
    c.fraction-right.result c.fraction-below.result c.luma_taps-across.result.now c.luma_taps-down.result.now
    (to_z w64 (of_z w64 column)) (to_z w64 (of_z w64 row)) c.predict_from.new.out c.if-luma.true c.from-size.ensures (omega arith)
    (c.fraction-right.ensures.value ∙ ap (fraction true) x) (c.fraction-below.ensures.value ∙ ap (fraction true) y)
    c.luma_taps-across.ensures.value c.luma_taps-down.ensures.value
    (kept_column ∙ c.start-column.ensures.value ∙ ap (λ v. pos c.args.x +ℤ whole_part true v -ℤ pos 3) x)
    (kept_row ∙ c.start-row.ensures.value ∙ ap (λ v. pos c.args.y +ℤ whole_part true v -ℤ pos 3) y)
    c.predict_from.ensures

pub returns-else-luma : goal.returns-else-luma
returns-else-luma c =
    let fits_x : FitsSigned w16 c.args.mv.x = search rules in
    let fits_y : FitsSigned w16 c.args.mv.y = search rules in
    let is_chroma : c.args.luma ≡ false = search rules in
    let x : to_z w16 (of_z w16 c.args.mv.x) ≡ c.args.mv.x = to_z-of_z w16 c.args.mv.x fits_x in
    let y : to_z w16 (of_z w16 c.args.mv.y) ≡ c.args.mv.y = to_z-of_z w16 c.args.mv.y fits_y in
    let column : ℤ = c.start-column-else-luma.result in
    let row : ℤ = c.start-row-else-luma.result in
    let kept_column = to_z-of_z w64 column (fits_signed_from_abs w64 _ (omega (arith, c.start-column-else-luma.ensures.most))) in
    let kept_row = to_z-of_z w64 row (fits_signed_from_abs w64 _ (omega (arith, c.start-row-else-luma.ensures.most))) in
    block_from false c.args.luma c.args.reference.now c.args.mv c.args.x c.args.y c.args.size c.from-size.result
    c.fraction-right-else-luma.result c.fraction-below-else-luma.result c.chroma_taps-across.result.now c.chroma_taps-down.result.now
    (to_z w64 (of_z w64 column)) (to_z w64 (of_z w64 row)) c.predict_from-else-luma.new.out is_chroma c.from-size.ensures (omega arith)
    (c.fraction-right-else-luma.ensures.value ∙ ap (fraction false) x) (c.fraction-below-else-luma.ensures.value ∙ ap (fraction false) y)
    c.chroma_taps-across.ensures.value c.chroma_taps-down.ensures.value
    (kept_column ∙ c.start-column-else-luma.ensures.value ∙ ap (λ v. pos c.args.x +ℤ whole_part false v -ℤ pos 1) x)
    (kept_row ∙ c.start-row-else-luma.ensures.value ∙ ap (λ v. pos c.args.y +ℤ whole_part false v -ℤ pos 1) y)
    c.predict_from-else-luma.ensures
