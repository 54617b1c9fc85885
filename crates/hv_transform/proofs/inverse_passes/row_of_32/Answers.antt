use Rattle.std.proofs.Common.{arith, rules, ℕ, ℤ}
use Rattle.hv_transform.specs.Columns.{numbers_from, column_mean}
use Rattle.hv_transform.proofs.MeanLemmas.{means_more, order_small, lanes_small, lanes_count}
use Rattle.hv_lanes.proofs.PartLemmas.{none_yet}
use Rattle.hv_transform.proofs.inverse_passes.row_of_32.Goals as goal

pub put_means-requires : goal.put_means-requires
put_means-requires g c =
    let numbers : ℕ → ℤ = numbers_from c.args.rows.now c.args.i 0 in
    let small = order_small 3 c.args.rows.now c.args.i 0 c.requires.numbers in
    record {
      first_four = lanes_count 3 0 numbers c.column_of_32.result.0 c.column_of_32.ensures.0;
      second_four = lanes_count 3 4 numbers c.column_of_32.result.1 c.column_of_32.ensures.1;
      low = lanes_small 3 0 numbers c.column_of_32.result.0 (omega arith) (omega arith) small c.column_of_32.ensures.0;
      high = lanes_small 3 4 numbers c.column_of_32.result.1 (omega arith) (omega arith) small c.column_of_32.ensures.1;
      some = c.requires.some;
      shift_most = c.requires.shift_most;
      room = search rules;
    }

pub put_means-requires-2 : goal.put_means-requires-2
put_means-requires-2 g c =
    let numbers : ℕ → ℤ = numbers_from c.args.rows.now c.args.i 0 in
    let small = order_small 3 c.args.rows.now c.args.i 0 c.requires.numbers in
    record {
      first_four = lanes_count 3 8 numbers c.column_of_32.result.2 c.column_of_32.ensures.2;
      second_four = lanes_count 3 12 numbers c.column_of_32.result.3 c.column_of_32.ensures.3;
      low = lanes_small 3 8 numbers c.column_of_32.result.2 (omega arith) (omega arith) small c.column_of_32.ensures.2;
      high = lanes_small 3 12 numbers c.column_of_32.result.3 (omega arith) (omega arith) small c.column_of_32.ensures.3;
      some = c.requires.some;
      shift_most = c.requires.shift_most;
      room = search rules;
    }

pub put_means-requires-3 : goal.put_means-requires-3
put_means-requires-3 g c =
    let numbers : ℕ → ℤ = numbers_from c.args.rows.now c.args.i 0 in
    let small = order_small 3 c.args.rows.now c.args.i 0 c.requires.numbers in
    record {
      first_four = lanes_count 3 16 numbers c.column_of_32.result.4 c.column_of_32.ensures.4;
      second_four = lanes_count 3 20 numbers c.column_of_32.result.5 c.column_of_32.ensures.5;
      low = lanes_small 3 16 numbers c.column_of_32.result.4 (omega arith) (omega arith) small c.column_of_32.ensures.4;
      high = lanes_small 3 20 numbers c.column_of_32.result.5 (omega arith) (omega arith) small c.column_of_32.ensures.5;
      some = c.requires.some;
      shift_most = c.requires.shift_most;
      room = search rules;
    }

pub put_means-requires-4 : goal.put_means-requires-4
put_means-requires-4 g c =
    let numbers : ℕ → ℤ = numbers_from c.args.rows.now c.args.i 0 in
    let small = order_small 3 c.args.rows.now c.args.i 0 c.requires.numbers in
    record {
      first_four = lanes_count 3 24 numbers c.column_of_32.result.6 c.column_of_32.ensures.6;
      second_four = lanes_count 3 28 numbers c.column_of_32.result.7 c.column_of_32.ensures.7;
      low = lanes_small 3 24 numbers c.column_of_32.result.6 (omega arith) (omega arith) small c.column_of_32.ensures.6;
      high = lanes_small 3 28 numbers c.column_of_32.result.7 (omega arith) (omega arith) small c.column_of_32.ensures.7;
      some = c.requires.some;
      shift_most = c.requires.shift_most;
      room = search rules;
    }

pub returns : goal.returns
returns g c =
    let numbers : ℕ → ℤ = numbers_from c.args.rows.now c.args.i 0 in
    let small = order_small 3 c.args.rows.now c.args.i 0 c.requires.numbers in
    let part_0 = means_more 3 0 c.args.shift 8 numbers c.column_of_32.result.0 c.column_of_32.result.1 _ c.put_means.new.out (omega arith) (omega arith) small c.column_of_32.ensures.0 c.column_of_32.ensures.1 c.put_means.ensures (omega arith) (none_yet (column_mean 3 numbers c.args.shift) c.args.out.now) in
    let part_1 = means_more 3 8 c.args.shift 8 numbers c.column_of_32.result.2 c.column_of_32.result.3 _ c.put_means-2.new.out (omega arith) (omega arith) small c.column_of_32.ensures.2 c.column_of_32.ensures.3 c.put_means-2.ensures (omega arith) part_0 in
    let part_2 = means_more 3 16 c.args.shift 8 numbers c.column_of_32.result.4 c.column_of_32.result.5 _ c.put_means-3.new.out (omega arith) (omega arith) small c.column_of_32.ensures.4 c.column_of_32.ensures.5 c.put_means-3.ensures (omega arith) part_1 in
    means_more 3 24 c.args.shift 8 numbers c.column_of_32.result.6 c.column_of_32.result.7 _ c.put_means-4.new.out (omega arith) (omega arith) small c.column_of_32.ensures.6 c.column_of_32.ensures.7 c.put_means-4.ensures (omega arith) part_2
