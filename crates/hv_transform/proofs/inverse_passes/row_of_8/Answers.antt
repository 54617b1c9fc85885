use Rattle.std.proofs.Common.{◌≡◌, ◌+◌, ap, ◌∙◌, arith, ℕ, ℤ}
use Rattle.hv_transform.specs.Columns.{numbers_from, column_mean}
use Rattle.hv_transform.proofs.MeanLemmas.{means_are, order_small, lanes_small, lanes_count}
use Rattle.hv_transform.proofs.inverse_passes.row_of_8.Goals as goal

pub put_means-requires : goal.put_means-requires
put_means-requires g c =
    let numbers : ℕ → ℤ = numbers_from c.args.rows.now c.args.i 0 in
    let small = order_small 1 c.args.rows.now c.args.i 0 c.requires.numbers in
    record {
      first_four = lanes_count 1 0 numbers c.column_of_8.result.0 c.column_of_8.ensures.first;
      second_four = lanes_count 1 4 numbers c.column_of_8.result.1 c.column_of_8.ensures.second;
      low = lanes_small 1 0 numbers c.column_of_8.result.0 (omega arith) (omega arith) small c.column_of_8.ensures.first;
      high = lanes_small 1 4 numbers c.column_of_8.result.1 (omega arith) (omega arith) small c.column_of_8.ensures.second;
      some = c.requires.some;
      shift_most = c.requires.shift_most;
      room = c.requires.room;
    }

pub returns : goal.returns
returns g c =
    let numbers : ℕ → ℤ = numbers_from c.args.rows.now c.args.i 0 in
    let small = order_small 1 c.args.rows.now c.args.i 0 c.requires.numbers in
    let means = means_are 1 0 c.args.shift numbers c.column_of_8.result.0 c.column_of_8.result.1 c.put_means.new.out (omega arith) (omega arith) small c.column_of_8.ensures.first c.column_of_8.ensures.second c.put_means.ensures in
    λ m below.
    let place : 0 + m ≡ m = omega arith in
    means.1 m below ∙ ap (column_mean 1 numbers c.args.shift) place
