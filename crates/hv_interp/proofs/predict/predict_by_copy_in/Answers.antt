use Rattle.std.proofs.Common.{◌∙◌, ◌+◌, ◌-◌, List, ℕ, subst, w64, to_z, of_z}
use Rattle.std.proofs.lemmas.Int.{to_z-of_z}
use Rattle.hv_types.specs.Samples.{Plane}
use Rattle.hv_interp.specs.Windows.{Shows}
use Rattle.hv_interp.proofs.PredictionLemmas.{window_shows}
use Rattle.hv_interp.proofs.predict.predict_by_copy_in.Goals as goal

pub returns : goal.returns
returns g c k inside =
    let p : Plane = c.args.reference.now in
    let side : ℕ = c.args.size + g.row.T - 1 in
    let window : List ℕ = c.copy_window.new.window in
    c.interpolate.ensures k inside ∙
    window_shows c.args.reference.now c.args.x c.args.y c.args.before c.args.right c.args.below g.row.T c.args.size k side
    c.args.across.now c.args.down.now window c.requires.before c.told-across c.told-down inside
    (subst (λ x. Shows p x c.args.y side side window side) (to_z-of_z w64 c.args.x c.ranges.x)
    (subst (λ y. Shows p (to_z w64 (of_z w64 c.args.x)) y side side window side) (to_z-of_z w64 c.args.y c.ranges.y) c.copy_window.ensures))
