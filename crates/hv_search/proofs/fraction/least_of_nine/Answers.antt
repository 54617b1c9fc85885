use Rattle.std.proofs.Common.{◌≡◌, ℕ, ◌+◌, ◌∙◌, ap, sym, subst, refl, get_or, arith}
use Rattle.hv_search.specs.declared.scored.Scored.{Scored}
use Rattle.hv_search.specs.Fraction.{around_place, IsBestOfNine}
use Rattle.hv_search.proofs.FractionLemmas.{best_of_one, best_of_one_more, best_of_nine, place_4}
use Rattle.hv_search.proofs.fraction.least_of_nine.Goals as goal

pub loop-t-init : goal.loop-t-init
loop-t-init c = λ score are.
    best_of_one score (around_place c.args.step c.args.centre) c.args.centre (record { sum = get_or c.args.sums.now 4 0; mv = c.args.centre }) refl
    (are 4 (omega arith) ∙ ap score (place_4 c.args.step c.args.centre))

pub loop-t-preserved : goal.loop-t-preserved
loop-t-preserved c = λ score are.
    let t : ℕ = c.loop-t.t in
    let second : Scored = record { sum = get_or c.args.sums.now c.from.result 0; mv = c.candidate-mv.result } in
    let sum : second.sum ≡ score second.mv =
    ap (λ k. get_or c.args.sums.now k 0) c.from.ensures ∙ are t c.loop-t-test.true ∙ ap score (sym c.candidate-mv.ensures) in
    subst (λ best. IsBestOfNine score c.args.step c.args.centre (t + 1) best) (sym c.better-best.ensures)
    (best_of_one_more score (around_place c.args.step c.args.centre) c.args.centre t c.loop-t.best second (c.loop-t.invariant score are) sum c.candidate-mv.ensures)

pub returns : goal.returns
returns c = λ score are.
    best_of_nine score c.args.step c.args.centre c.loop-t.t c.loop-t.best (omega (arith, c.loop-t-test.false, c.loop-t.auto.t-end))
    (c.loop-t.invariant score are)
