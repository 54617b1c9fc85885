use Rattle.std.proofs.Common.{◌≡◌, ℕ, ◌+◌, ◌*◌, ◌/◌, ◌%◌, ◌∙◌, ap, sym, subst, refl, arith, pos, ◌-ℤ◌}
use Rattle.hv_search_model.specs.MotionSearch.{moved, Score}
use Rattle.hv_search.specs.Windows.{plane_of_grid}
use Rattle.hv_search.specs.Fraction.{IsBestOf}
use Rattle.hv_search.specs.Plain.{area_score, whole_place}
use Rattle.hv_search.proofs.FractionLemmas.{best_of_one, best_of_one_more}
use Rattle.hv_search.proofs.PlainLemmas.{best_of_whole}
use Rattle.hv_search.proofs.plain.least_whole.Goals as goal

pub loop-t-init : goal.loop-t-init
loop-t-init c =
    best_of_one (area_score (plane_of_grid c.args.input) (plane_of_grid c.args.reference) c.args.x c.args.y c.args.columns c.args.rows)
    (whole_place c.args.reach c.args.centre) c.args.centre (record { sum = c.score-sum.result; mv = c.args.centre }) refl c.score-sum.ensures

pub loop-t-preserved : goal.loop-t-preserved
loop-t-preserved c =
    let score : Score = area_score (plane_of_grid c.args.input) (plane_of_grid c.args.reference) c.args.x c.args.y c.args.columns c.args.rows in
    let t : ℕ = c.loop-t.t in
    let place : c.whole_candidate-mv.result ≡ whole_place c.args.reach c.args.centre t =
    c.whole_candidate-mv.ensures ∙
    ap (λ r. moved c.args.centre (pos (t % (2 * r + 1)) -ℤ pos c.args.reach) (pos (t / (2 * r + 1)) -ℤ pos c.args.reach)) c.from.ensures in
    subst (IsBestOf score c.args.centre (whole_place c.args.reach c.args.centre) (t + 1)) (sym c.better-best.ensures)
    (best_of_one_more score (whole_place c.args.reach c.args.centre) c.args.centre t c.loop-t.best
    (record { sum = c.score-sum-in-loop-t.result; mv = c.whole_candidate-mv.result }) c.loop-t.invariant c.score-sum-in-loop-t.ensures place)

pub returns : goal.returns
returns c =
    best_of_whole (area_score (plane_of_grid c.args.input) (plane_of_grid c.args.reference) c.args.x c.args.y c.args.columns c.args.rows)
    c.args.reach c.args.centre c.loop-t.t c.loop-t.best c.requires.reach
    (omega (arith, c.loop-t-test.false, c.loop-t.auto.t-end) ∙ ap (λ r. (2 * r + 1) * (2 * r + 1)) c.from.ensures) c.loop-t.invariant
