use Rattle.std.proofs.Common.{◌≡◌, ℕ, ◌+◌, ◌-◌, ◌*◌, ◌/◌, ◌%◌, ◌<◌, ◌∙◌, List, ℤ, pos, sym, subst, ap₂, arith}
use Rattle.hv_inter_model.specs.Interpolation.{fL}
use Rattle.hv_interp.specs.Filters.{HasFirst, filtered_twice, place_of, strided_sum}
use Rattle.hv_interp.proofs.PlaceLemmas.{HasFirst-put}
use Rattle.hv_interp.proofs.InterpolationLemmas.{sums_are_filtered}
use Rattle.hv_interp.proofs.FractionLemmas.{eight_taps, sums_small}
use Rattle.hv_interp.proofs.fractions.put_four.Goals as goal

pub put_prediction-requires-clause-range : goal.put_prediction-requires-clause-range
put_prediction-requires-clause-range c =
    sums_small c.luma_taps.result.now c.args.window.now c.sum_rows.new.sums c.luma_taps.ensures.light c.type_inv.window
    (omega (arith, c.sum_rows.auto.sums, c.requires.sums)) c.sum_rows.ensures

pub loop-below-preserved : goal.loop-below-preserved
loop-below-preserved c =
    let right : ℕ = c.args.right in
    let below : ℕ = c.loop-below.below in
    let at : ℕ = 7776 * c.from-at.result in
    let w : List ℕ = c.args.window.now in
    let sums : List ℤ = c.sum_rows.new.sums in
    let part : List ℕ = c.put_prediction.new.out in
    let rows : HasFirst (pos 0) 8448 (λ k. strided_sum (fL right) w (place_of 96 104 k) 1) sums =
    subst (λ t. HasFirst (pos 0) 8448 (λ k. strided_sum t w (place_of 96 104 k) 1) sums) c.luma_taps.ensures.value c.sum_rows.ensures in
    HasFirst-put 0 at (at + 7776 - at) (7776 * (below + 1))
    (λ k. filtered_twice (fL right) (fL (k / 7776)) w 104 96 (k % 7776)) c.loop-below.out part
    (omega (arith, c.loop-below.auto.out, c.requires.room, c.from-at.ensures, c.loop-below-test.true))
    (λ k inside. c.loop-below.invariant k (omega (arith, inside, c.from-at.ensures)))
    (λ i inside.
    let few : i < 7776 = omega (arith, inside, c.put_prediction.ensures.count) in
    let row : (at + i) / 7776 ≡ below = omega (arith, few, c.from-at.ensures) in
    let rest : (at + i) % 7776 ≡ i = omega (arith, few) in
    c.put_prediction.ensures.each i few ∙
    sums_are_filtered 96 81 i 104 88 (fL right) (fL below) w sums few
    (omega (arith, eight_taps below c.loop-below-test.true)) rows ∙
    sym (ap₂ (λ b k. filtered_twice (fL right) (fL b) w 104 96 k) row rest))
    (omega (arith, c.put_prediction.ensures.count, c.from-at.ensures))
