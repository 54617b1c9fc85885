use Rattle.std.proofs.Common.{◌≡◌, ℕ, ◌+◌, ◌*◌, ◌/◌, ◌%◌, cond, nat_lt, get_or, List, ap, ◌∙◌, subst, sym, refl, arith, pos, ◌+ℤ◌, ◌-ℤ◌}
use Rattle.std.proofs.lemmas.Int.{ints}
use Rattle.std.specs.Int.{abs_diff}
use Rattle.std.proofs.lemmas.Nat.{mod-mul-add, div-mul-add}
use Rattle.hv_sample_model.specs.Blocks.{total_of}
use Rattle.hv_types.specs.Samples.{Plane}
use Rattle.hv_search_model.specs.MotionSearch.{Score}
use Rattle.hv_search.specs.Windows.{plane_of_grid, Shows}
use Rattle.hv_search.specs.declared.best.Best.{Best}
use Rattle.hv_search.specs.Coarse.{block_score, vector_in, IsBest}
use Rattle.hv_search.proofs.CoarseLemmas.{best_of_none, best_of_more, best_of_all, coarse_score_is}
use Rattle.hv_search.proofs.WindowLemmas.{shows_from, came}
use Rattle.hv_search.proofs.coarse.coarse_vector.Goals as goal

pub loop-down-init : goal.loop-down-init
loop-down-init c =
    let input : Plane = plane_of_grid c.args.input in
    let reference : Plane = plane_of_grid c.args.reference in
    let score : Score = block_score input reference c.args.left c.args.top in
    let shows : Shows reference (pos c.args.left +ℤ pos 0 -ℤ pos 16) (pos c.args.top +ℤ pos 0 -ℤ pos 16) 48 c.copy_window.new.out =
    shows_from reference _ _ _ _ 48 c.copy_window.new.out (came c.corner.result _ c.corner.ensures.near (omega (arith, ints, c.corner.ensures.value))) (came c.corner-2.result _ c.corner-2.ensures.near (omega (arith, ints, c.corner-2.ensures.value))) c.copy_window.ensures.shows in
    best_of_none score _ refl refl
    (c.coarse_sum-sum.ensures ∙
    coarse_score_is input reference c.args.left c.args.top c.min-columns.result c.min.result c.put_source.new.source c.copy_window.new.out
    (omega (arith, c.min-columns.ensures)) (omega (arith, c.min.ensures)) c.put_source.ensures shows 16 16 (omega arith) (omega arith))

pub loop-right-preserved : goal.loop-right-preserved
loop-right-preserved c =
    let input : Plane = plane_of_grid c.args.input in
    let reference : Plane = plane_of_grid c.args.reference in
    let score : Score = block_score input reference c.args.left c.args.top in
    let down : ℕ = c.loop-down.down in
    let right : ℕ = c.loop-right.right in
    let source : List ℕ = c.put_source.new.source in
    let window : List ℕ = c.copy_window.new.out in
    let shows : Shows reference (pos c.args.left +ℤ pos 0 -ℤ pos 16) (pos c.args.top +ℤ pos 0 -ℤ pos 16) 48 window =
    shows_from reference _ _ _ _ 48 window (came c.corner.result _ c.corner.ensures.near (omega (arith, ints, c.corner.ensures.value))) (came c.corner-2.result _ c.corner-2.ensures.near (omega (arith, ints, c.corner-2.ensures.value))) c.copy_window.ensures.shows in
    let at : 48 * c.from.result + c.from-in-loop-right.result ≡ 48 * down + right = omega (arith, c.from.ensures, c.from-in-loop-right.ensures) in
    let sum : c.coarse_sum-sum-in-loop-right.result ≡ score (vector_in 16 right down) =
    c.coarse_sum-sum-in-loop-right.ensures ∙
    ap (λ at. total_of c.min.result (λ j. total_of c.min-columns.result (λ i. abs_diff (get_or source (16 * j + i) 0) (get_or window (at + 48 * j + i) 0)))) at ∙
    coarse_score_is input reference c.args.left c.args.top c.min-columns.result c.min.result source window
    (omega (arith, c.min-columns.ensures)) (omega (arith, c.min.ensures)) c.put_source.ensures shows right down c.loop-right-test.true c.loop-down-test.true in
    let more : 33 * down + right + 1 ≡ 33 * down + (right + 1) = omega arith in
    let place : 33 * down + right ≡ down * 33 + right = omega arith in
    let first : Best = c.loop-right.best in
    let second : Best = record { sum = c.coarse_sum-sum-in-loop-right.result; right = right; down = down } in
    let made : IsBest score (33 * down + right + 1) (cond (nat_lt second.sum first.sum) second first) =
    best_of_more score (33 * down + right) first second c.loop-right.invariant sum
    (ap (λ k. k % 33) place ∙ mod-mul-add down 33 right c.loop-right-test.true)
    (ap (λ k. k / 33) place ∙ div-mul-add down 33 right c.loop-right-test.true) in
    subst (λ best. IsBest score (33 * down + (right + 1)) best) (sym c.better-best.ensures)
    (subst (λ t. IsBest score t (cond (nat_lt second.sum first.sum) second first)) more made)

pub returns : goal.returns
returns c =
    c.vector_of.ensures ∙
    best_of_all (block_score (plane_of_grid c.args.input) (plane_of_grid c.args.reference) c.args.left c.args.top)
    (33 * c.loop-down.down) c.loop-down.best (omega (arith, c.loop-down-test.false, c.loop-down.auto.down-end)) c.loop-down.invariant
