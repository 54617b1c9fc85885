use Rattle.std.proofs.Common.{arith, rules, ℕ, ℤ}
use Rattle.hv_transform.specs.Columns.{numbers_from, column_mean}
use Rattle.hv_transform.proofs.MeanLemmas.{means_more, order_small, lanes_small, lanes_count}
use Rattle.hv_lanes.proofs.PartLemmas.{none_yet}
use Rattle.hv_transform.proofs.inverse_passes.row_of_16.Goals as goal

pub put_means-requires : goal.put_means-requires
put_means-requires g c =
    let numbers : ℕ → ℤ = numbers_from c.args.rows.now c.args.i 0 in
    let small = order_small 2 c.args.rows.now c.args.i 0 c.requires.numbers in
    record {
      first_four = lanes_count 2 0 numbers c.column_of_16.result.0 c.column_of_16.ensures.first;
      second_four = lanes_count 2 4 numbers c.column_of_16.result.1 c.column_of_16.ensures.second;
      low = lanes_small 2 0 numbers c.column_of_16.result.0 (omega arith) (omega arith) small c.column_of_16.ensures.first;
      high = lanes_small 2 4 numbers c.column_of_16.result.1 (omega arith) (omega arith) small c.column_of_16.ensures.second;
      some = c.requires.some;
      shift_most = c.requires.shift_most;
      room = search rules;
    }

pub put_means-requires-2 : goal.put_means-requires-2
put_means-requires-2 g c =
    let numbers : ℕ → ℤ = numbers_from c.args.rows.now c.args.i 0 in
    let small = order_small 2 c.args.rows.now c.args.i 0 c.requires.numbers in
    record {
      first_four = lanes_count 2 8 numbers c.column_of_16.result.2 c.column_of_16.ensures.third;
      second_four = lanes_count 2 12 numbers c.column_of_16.result.3 c.column_of_16.ensures.fourth;
      low = lanes_small 2 8 numbers c.column_of_16.result.2 (omega arith) (omega arith) small c.column_of_16.ensures.third;
      high = lanes_small 2 12 numbers c.column_of_16.result.3 (omega arith) (omega arith) small c.column_of_16.ensures.fourth;
      some = c.requires.some;
      shift_most = c.requires.shift_most;
      room = search rules;
    }

pub returns : goal.returns
returns g c =
    let numbers : ℕ → ℤ = numbers_from c.args.rows.now c.args.i 0 in
    let small = order_small 2 c.args.rows.now c.args.i 0 c.requires.numbers in
    let part_0 = means_more 2 0 c.args.shift 8 numbers c.column_of_16.result.0 c.column_of_16.result.1 _ c.put_means.new.out (omega arith) (omega arith) small c.column_of_16.ensures.first c.column_of_16.ensures.second c.put_means.ensures (omega arith) (none_yet (column_mean 2 numbers c.args.shift) c.args.out.now) in
    means_more 2 8 c.args.shift 8 numbers c.column_of_16.result.2 c.column_of_16.result.3 _ c.put_means-2.new.out (omega arith) (omega arith) small c.column_of_16.ensures.third c.column_of_16.ensures.fourth c.put_means-2.ensures (omega arith) part_0
