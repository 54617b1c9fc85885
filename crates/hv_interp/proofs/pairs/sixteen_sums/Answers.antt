use Rattle.std.proofs.Common.{ℕ, ◌≡◌, ◌+◌, ◌*◌, ◌<◌, ◌∙◌, List, ℤ, ap}
use Rattle.hv_interp.specs.Filters.{strided_sum}
use Rattle.hv_interp.specs.Lanes.{lane}
use Rattle.hv_interp.proofs.EightSumLemmas.{kept, kept_small, small_fit}
use Rattle.hv_interp.proofs.PairLemmas.{length-passed, one_apart, sixteen_small, sums_in_turn}
use Rattle.hv_interp.proofs.pairs.sixteen_sums.Goals as goal

pub in_turn-requires-clause-even_numbers : goal.in_turn-requires-clause-even_numbers
in_turn-requires-clause-even_numbers g c =
    let even : List ℤ = c.paired_sums-even.result in
    small_fit _ (kept_small even c.paired_sums-even.ensures.range)

pub in_turn-requires-clause-odd_numbers : goal.in_turn-requires-clause-odd_numbers
in_turn-requires-clause-odd_numbers g c =
    let odd : List ℤ = c.paired_sums-odd.result in
    small_fit _ (kept_small odd c.paired_sums-odd.ensures.range)

pub returns-clause-each : goal.returns-clause-each
returns-clause-each g c =
    let even : List ℤ = c.paired_sums-even.result in
    let odd : List ℤ = c.paired_sums-odd.result in
    let taps : List ℤ = c.args.taps.now in
    let samples : List ℕ = c.args.samples.now in
    let at : ℕ = c.args.at in
    let each : (j : ℕ) → j < 16 → lane c.in_turn.result j ≡ strided_sum taps samples (at + j) 1 =
    sums_in_turn taps samples at even odd c.in_turn.result
    (λ i below. c.in_turn.ensures.even i below ∙ ap (λ l. lane l i) (kept even (small_fit even c.paired_sums-even.ensures.range)))
    (λ i below. c.in_turn.ensures.odd i below ∙ ap (λ l. lane l i) (kept odd (small_fit odd c.paired_sums-odd.ensures.range)))
    (λ i below. c.paired_sums-even.ensures.each i below ∙ one_apart taps samples (at + 2 * i))
    (λ i below. c.paired_sums-odd.ensures.each i below ∙ one_apart taps samples (at + 1 + 2 * i)) in
    let small = sixteen_small taps samples (λ j k. at + j + k * 1) c.in_turn.result c.requires.light c.type_inv.samples c.in_turn.ensures.count each in
    (λ j below. ap (λ l. lane l j) (kept c.in_turn.result (small_fit c.in_turn.result small)) ∙ each j below)

pub returns-clause-range : goal.returns-clause-range
returns-clause-range g c =
    sixteen_small c.args.taps.now c.args.samples.now (λ j k. c.args.at + j + k * 1) _ c.requires.light c.type_inv.samples
    (length-passed c.in_turn.result c.in_turn.ensures.count) (returns-clause-each g c)
