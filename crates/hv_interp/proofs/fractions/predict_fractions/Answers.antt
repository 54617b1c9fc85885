use Rattle.std.proofs.Common.{◌≡◌, ℕ, ◌+◌, ◌-◌, ◌*◌, ◌/◌, ◌%◌, ◌<◌, ◌∙◌, List, sym, ap, ap₂, arith}
use Rattle.hv_inter_model.specs.Interpolation.{fL}
use Rattle.hv_interp.specs.Filters.{filtered_twice}
use Rattle.hv_interp.proofs.PlaceLemmas.{HasFirst-put}
use Rattle.hv_interp.proofs.FractionLemmas.{fractions_shown}
use Rattle.hv_interp.proofs.fractions.predict_fractions.Goals as goal

pub loop-right-preserved : goal.loop-right-preserved
loop-right-preserved c =
    let right : ℕ = c.loop-right.right in
    let at : ℕ = 31104 * c.from.result in
    let w : List ℕ = c.args.window.now in
    let part : List ℕ = c.put_four.new.out in
    HasFirst-put 0 at (at + 31104 - at) (31104 * (right + 1))
    (λ k. filtered_twice (fL (k / 31104)) (fL (k % 31104 / 7776)) w 104 96 (k % 7776)) c.loop-right.out part
    (omega (arith, c.loop-right.auto.out, c.requires.room, c.from.ensures, c.loop-right-test.true))
    (λ k inside. c.loop-right.invariant k (omega (arith, inside, c.from.ensures)))
    (λ i inside.
    let few : i < 31104 = omega (arith, inside, c.put_four.ensures.count) in
    let first : (at + i) / 31104 ≡ right = omega (arith, few, c.from.ensures) in
    let next : (at + i) % 31104 ≡ i = omega (arith, few) in
    let rest : (at + i) % 7776 ≡ i % 7776 = omega (arith, few, c.from.ensures, c.loop-right-test.true) in
    c.put_four.ensures.each i few ∙
    sym (ap₂ (λ a k. filtered_twice (fL a) (fL (k / 7776)) w 104 96 ((at + i) % 7776)) first next ∙
    ap (filtered_twice (fL right) (fL (i / 7776)) w 104 96) rest))
    (omega (arith, c.put_four.ensures.count, c.from.ensures))

pub returns-clause-shows : goal.returns-clause-shows
returns-clause-shows c = λ reference x y shows.
    fractions_shown reference x y c.args.window.now c.loop-right.out
    (λ k inside. c.loop-right.invariant k (omega (arith, inside, c.loop-right-test.false))) shows
