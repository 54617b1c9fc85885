use Rattle.std.proofs.Common.{◌∙◌, ◌+◌, ◌-◌, arith, ap₂, List, ℕ, ℤ, w64, to_z, of_z}
use Rattle.std.proofs.lemmas.Int.{to_z-of_z}
use Rattle.hv_types.specs.Samples.{Plane}
use Rattle.hv_interp.specs.Windows.{Shows, reference_from}
use Rattle.hv_interp.specs.Filters.{predicted}
use Rattle.hv_interp.proofs.PredictionLemmas.{window_shows, plane_shows}
use Rattle.hv_interp.proofs.predict.predict_from.Goals as goal

pub returns-then-is_inside-2 : goal.returns-then-is_inside-2
returns-then-is_inside-2 g c k inside =
    let p : Plane = c.args.reference.now in
    let n : ℕ = c.args.size in
    let side : ℕ = n + g.row.T - 1 in
    let X : ℤ = to_z w64 (of_z w64 c.args.x) in
    let Y : ℤ = to_z w64 (of_z w64 c.args.y) in
    let samples : List ℕ = c.window-window.result.samples.now in
    let stride : ℕ = c.window-window.result.stride in
    let shows : Shows p X Y side side samples stride =
    plane_shows p X Y side side stride samples (c.is_inside.ensures.begins c.if-is_inside.true) (c.is_inside-then-is_inside.ensures.begins c.if-is_inside-2.true)
    (omega (arith, c.is_inside.ensures.ends c.if-is_inside.true, c.width.ensures.value))
    (omega (arith, c.is_inside-then-is_inside.ensures.ends c.if-is_inside-2.true, c.height.ensures.value))
    c.window-window.ensures.stride c.window-window.ensures.samples
    (λ y below. omega (arith, c.window-window.result.whole y (omega (arith, below, c.window-window.ensures.rows)), c.window-window.ensures.columns)) in
    c.interpolate.ensures k inside ∙
    window_shows p X Y c.args.before c.args.right c.args.below g.row.T n k stride
    c.args.across.now c.args.down.now samples c.requires.before c.told-across c.told-down inside shows ∙
    ap₂ (λ x y. predicted c.args.before c.args.right c.args.below c.args.across.now c.args.down.now (reference_from p x y) n k)
    (to_z-of_z w64 c.args.x c.ranges.x) (to_z-of_z w64 c.args.y c.ranges.y)

pub returns-else-is_inside : goal.returns-else-is_inside
returns-else-is_inside g c k inside =
    c.predict_by_copy.ensures k inside ∙
    ap₂ (λ x y. predicted c.args.before c.args.right c.args.below c.args.across.now c.args.down.now (reference_from c.args.reference.now x y) c.args.size k)
    (to_z-of_z w64 c.args.x c.ranges.x) (to_z-of_z w64 c.args.y c.ranges.y)
