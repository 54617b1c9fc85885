use Rattle.std.proofs.Common.{ℕ, ◌≡◌, ◌+◌, ◌*◌, ◌<◌, ◌∙◌, List, ℤ, ap}
use Rattle.hv_interp.specs.Filters.{paired_place, placed_sum}
use Rattle.hv_interp.specs.Lanes.{lane}
use Rattle.hv_interp.proofs.EightSumLemmas.{kept, kept_small, small_fit}
use Rattle.hv_interp.proofs.PairLemmas.{length-passed, sixteen_small, sums_in_order}
use Rattle.hv_interp.proofs.pairs.sixteen_paired_sums.Goals as goal

pub in_order-requires-clause-low_numbers : goal.in_order-requires-clause-low_numbers
in_order-requires-clause-low_numbers g c = small_fit _ (kept_small c.paired_sums-low.result c.paired_sums-low.ensures.range)

pub in_order-requires-clause-high_numbers : goal.in_order-requires-clause-high_numbers
in_order-requires-clause-high_numbers g c = small_fit _ (kept_small c.paired_sums-high.result c.paired_sums-high.ensures.range)

pub returns-clause-each : goal.returns-clause-each
returns-clause-each g c =
    let low : List ℤ = c.paired_sums-low.result in
    let high : List ℤ = c.paired_sums-high.result in
    let taps : List ℤ = c.args.taps.now in
    let samples : List ℕ = c.args.samples.now in
    let each : (j : ℕ) → j < 16 → lane c.in_order.result j ≡ placed_sum taps samples (paired_place (c.args.at + 2 * j) c.args.step) =
    sums_in_order taps samples c.args.at c.args.step low high c.in_order.result
    (λ i below. c.in_order.ensures.low i below ∙ ap (λ l. lane l i) (kept low (small_fit low c.paired_sums-low.ensures.range)))
    (λ i below. c.in_order.ensures.high i below ∙ ap (λ l. lane l i) (kept high (small_fit high c.paired_sums-high.ensures.range)))
    c.paired_sums-low.ensures.each c.paired_sums-high.ensures.each in
    let small = sixteen_small taps samples (λ j. paired_place (c.args.at + 2 * j) c.args.step) c.in_order.result
    c.requires.light c.type_inv.samples c.in_order.ensures.count each in
    (λ j below. ap (λ l. lane l j) (kept c.in_order.result (small_fit c.in_order.result small)) ∙ each j below)

pub returns-clause-range : goal.returns-clause-range
returns-clause-range g c =
    sixteen_small c.args.taps.now c.args.samples.now (λ j. paired_place (c.args.at + 2 * j) c.args.step) _ c.requires.light c.type_inv.samples
    (length-passed c.in_order.result c.in_order.ensures.count) (returns-clause-each g c)
