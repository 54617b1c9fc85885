use Rattle.std.proofs.Common.{◌≡◌, ◌∙◌, ap, ap₂, arith, pos, ◌+ℤ◌}
use Rattle.std.proofs.lemmas.Int.{ints}
use Rattle.std.specs.Int.{abs_diff}
use Rattle.hv_types.specs.Samples.{sample_at}
use Rattle.hv_search_model.specs.MotionSearch.{nearest}
use Rattle.hv_search.specs.Windows.{plane_of_grid}
use Rattle.hv_search.proofs.PlainLemmas.{led_to}
use Rattle.hv_search.proofs.plain.gap.Goals as goal

pub returns-clause-value : goal.returns-clause-value
returns-clause-value c =
    let column : c.place_near-column.result ≡ nearest c.args.reference.width (pos c.args.x +ℤ c.args.mv.x) =
    c.place_near-column.ensures.value ∙ ap (nearest c.args.reference.width) (led_to c.corner.result c.args.x c.args.mv.x c.corner.ensures.near (omega (arith, ints, c.corner.ensures.value))) in
    let row : c.place_near-row.result ≡ nearest c.args.reference.height (pos c.args.y +ℤ c.args.mv.y) =
    c.place_near-row.ensures.value ∙ ap (nearest c.args.reference.height) (led_to c.corner-2.result c.args.y c.args.mv.y c.corner-2.ensures.near (omega (arith, ints, c.corner-2.ensures.value))) in
    c.from.ensures ∙ c.abs_diff.ensures ∙
    ap (abs_diff (sample_at (plane_of_grid c.args.input) c.args.x c.args.y))
    (ap₂ (sample_at (plane_of_grid c.args.reference)) column row)
