use Rattle.std.proofs.Common.{arith, ℕ, ℤ, ◌+◌, ◌<◌}
use Rattle.hv_lanes.proofs.FourLaneLemmas.{eight_means, small_lanes}
use Rattle.hv_transform.proofs.FourColumnLemmas.{two_columns, first_column, second_column, columns_small}
use Rattle.hv_transform.proofs.inverse_passes.rows_of_4.Goals as goal

pub put_means-requires-clause-low : goal.put_means-requires-clause-low
put_means-requires-clause-low c =
    let f : ℕ → ℤ = two_columns c.args.rows.now c.args.i in
    let low = first_column c.args.weights.now c.args.rows.now c.args.i c.lane_sums-first.result c.requires.weights c.lane_sums-first.ensures in
    let small = λ (k : ℕ) (below : k < 8). columns_small c.args.rows.now c.args.i k c.requires.columns below c.requires.numbers in
    small_lanes f c.lane_sums-first.result (λ j below. small j (omega (arith, below))) low

pub put_means-requires-clause-high : goal.put_means-requires-clause-high
put_means-requires-clause-high c =
    let f : ℕ → ℤ = two_columns c.args.rows.now c.args.i in
    let high = second_column c.args.weights.now c.args.rows.now c.args.i c.lane_sums-second.result c.requires.weights c.lane_sums-second.ensures in
    let small = λ (k : ℕ) (below : k < 8). columns_small c.args.rows.now c.args.i k c.requires.columns below c.requires.numbers in
    small_lanes (λ j. f (4 + j)) c.lane_sums-second.result (λ j below. small (4 + j) (omega (arith, below))) high

pub returns : goal.returns
returns c =
    let f : ℕ → ℤ = two_columns c.args.rows.now c.args.i in
    let low = first_column c.args.weights.now c.args.rows.now c.args.i c.lane_sums-first.result c.requires.weights c.lane_sums-first.ensures in
    let high = second_column c.args.weights.now c.args.rows.now c.args.i c.lane_sums-second.result c.requires.weights c.lane_sums-second.ensures in
    let small = λ (k : ℕ) (below : k < 8). columns_small c.args.rows.now c.args.i k c.requires.columns below c.requires.numbers in
    (eight_means f c.args.shift c.lane_sums-first.result c.lane_sums-second.result c.put_means.new.out small low high c.put_means.ensures).1
