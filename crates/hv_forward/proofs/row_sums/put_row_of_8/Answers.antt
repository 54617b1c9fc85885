use Rattle.std.proofs.Common.{arith, ℕ, ℤ, ◌+◌}
use Rattle.hv_lanes.specs.Lanes.{at}
use Rattle.hv_forward.specs.Forward.{row_sum}
use Rattle.hv_forward.proofs.RowLaneLemmas.{kept_eight}
use Rattle.hv_forward.proofs.RowSumLemmas.{in_order_low, in_order_high, sum_of_8_small}
use Rattle.hv_lanes.proofs.FourLaneLemmas.{small_lanes, eight_means}
use Rattle.hv_forward.proofs.row_sums.put_row_of_8.Goals as goal

pub put_means-requires-clause-low : goal.put_means-requires-clause-low
put_means-requires-clause-low g c =
    let f : ℕ → ℤ = row_sum 3 (at c.args.x) in
    let x = kept_eight 4080 (at c.args.x) c.args.x (omega arith) c.requires.numbers in
    let even = c.halves_of_8.ensures.even 4080 (at c.args.x) (omega arith) x in
    let odd = c.halves_of_8.ensures.odd 4080 (at c.args.x) (omega arith) x in
    let low = in_order_low f c.halves_of_8.result.0 c.halves_of_8.result.1 c.interleaved.result.0 even odd c.interleaved.ensures.low in
    let high = in_order_high f c.halves_of_8.result.0 c.halves_of_8.result.1 c.interleaved.result.1 even odd c.interleaved.ensures.high in
    let small = sum_of_8_small (at c.args.x) c.requires.numbers.small in
    small_lanes f c.interleaved.result.0 (λ j below. small j (omega (arith, below))) low

pub put_means-requires-clause-high : goal.put_means-requires-clause-high
put_means-requires-clause-high g c =
    let f : ℕ → ℤ = row_sum 3 (at c.args.x) in
    let x = kept_eight 4080 (at c.args.x) c.args.x (omega arith) c.requires.numbers in
    let even = c.halves_of_8.ensures.even 4080 (at c.args.x) (omega arith) x in
    let odd = c.halves_of_8.ensures.odd 4080 (at c.args.x) (omega arith) x in
    let low = in_order_low f c.halves_of_8.result.0 c.halves_of_8.result.1 c.interleaved.result.0 even odd c.interleaved.ensures.low in
    let high = in_order_high f c.halves_of_8.result.0 c.halves_of_8.result.1 c.interleaved.result.1 even odd c.interleaved.ensures.high in
    let small = sum_of_8_small (at c.args.x) c.requires.numbers.small in
    small_lanes (λ j. f (4 + j)) c.interleaved.result.1 (λ j below. small (4 + j) (omega (arith, below))) high

pub returns : goal.returns
returns g c =
    let f : ℕ → ℤ = row_sum 3 (at c.args.x) in
    let x = kept_eight 4080 (at c.args.x) c.args.x (omega arith) c.requires.numbers in
    let even = c.halves_of_8.ensures.even 4080 (at c.args.x) (omega arith) x in
    let odd = c.halves_of_8.ensures.odd 4080 (at c.args.x) (omega arith) x in
    let low = in_order_low f c.halves_of_8.result.0 c.halves_of_8.result.1 c.interleaved.result.0 even odd c.interleaved.ensures.low in
    let high = in_order_high f c.halves_of_8.result.0 c.halves_of_8.result.1 c.interleaved.result.1 even odd c.interleaved.ensures.high in
    let small = sum_of_8_small (at c.args.x) c.requires.numbers.small in
    (eight_means f c.args.shift c.interleaved.result.0 c.interleaved.result.1 c.put_means.new.out small low high c.put_means.ensures).1
