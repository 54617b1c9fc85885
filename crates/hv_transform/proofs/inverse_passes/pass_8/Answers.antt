use Rattle.std.proofs.Common.{arith, rules, ℕ}
use Rattle.hv_transform.specs.Columns.{pass_mean}
use Rattle.hv_transform.proofs.MeanLemmas.{row_more}
use Rattle.hv_lanes.proofs.PartLemmas.{none_yet}
use Rattle.hv_transform.proofs.inverse_passes.pass_8.Goals as goal

pub returns : goal.returns
returns g c =
    let more = λ (i : ℕ). row_more 1 i c.args.shift 8 c.args.rows.now in
    let part_0 = more 0 _ c.row_of_8.new.out (omega arith) (omega arith) c.row_of_8.ensures (none_yet (pass_mean 1 c.args.rows.now c.args.shift) c.args.out.now) in
    let part_1 = more 1 _ c.row_of_8-2.new.out (omega arith) (omega arith) c.row_of_8-2.ensures part_0 in
    let part_2 = more 2 _ c.row_of_8-3.new.out (omega arith) (omega arith) c.row_of_8-3.ensures part_1 in
    let part_3 = more 3 _ c.row_of_8-4.new.out (omega arith) (omega arith) c.row_of_8-4.ensures part_2 in
    let part_4 = more 4 _ c.row_of_8-5.new.out (omega arith) (omega arith) c.row_of_8-5.ensures part_3 in
    let part_5 = more 5 _ c.row_of_8-6.new.out (omega arith) (omega arith) c.row_of_8-6.ensures part_4 in
    let part_6 = more 6 _ c.row_of_8-7.new.out (omega arith) (omega arith) c.row_of_8-7.ensures part_5 in
    more 7 _ c.row_of_8-8.new.out (omega arith) (omega arith) c.row_of_8-8.ensures part_6

pub row_of_8-requires : goal.row_of_8-requires
row_of_8-requires g c =
    (omega arith, (omega arith, (omega arith, (omega arith, (c.requires.numbers 0 (omega arith), (c.requires.weights, (c.requires.some, (c.requires.shift_most, search rules))))))))

pub row_of_8-requires-2 : goal.row_of_8-requires-2
row_of_8-requires-2 g c =
    (omega arith, (omega arith, (omega arith, (omega arith, (c.requires.numbers 1 (omega arith), (c.requires.weights, (c.requires.some, (c.requires.shift_most, search rules))))))))

pub row_of_8-requires-3 : goal.row_of_8-requires-3
row_of_8-requires-3 g c =
    (omega arith, (omega arith, (omega arith, (omega arith, (c.requires.numbers 2 (omega arith), (c.requires.weights, (c.requires.some, (c.requires.shift_most, search rules))))))))

pub row_of_8-requires-4 : goal.row_of_8-requires-4
row_of_8-requires-4 g c =
    (omega arith, (omega arith, (omega arith, (omega arith, (c.requires.numbers 3 (omega arith), (c.requires.weights, (c.requires.some, (c.requires.shift_most, search rules))))))))

pub row_of_8-requires-5 : goal.row_of_8-requires-5
row_of_8-requires-5 g c =
    (omega arith, (omega arith, (omega arith, (omega arith, (c.requires.numbers 4 (omega arith), (c.requires.weights, (c.requires.some, (c.requires.shift_most, search rules))))))))

pub row_of_8-requires-6 : goal.row_of_8-requires-6
row_of_8-requires-6 g c =
    (omega arith, (omega arith, (omega arith, (omega arith, (c.requires.numbers 5 (omega arith), (c.requires.weights, (c.requires.some, (c.requires.shift_most, search rules))))))))

pub row_of_8-requires-7 : goal.row_of_8-requires-7
row_of_8-requires-7 g c =
    (omega arith, (omega arith, (omega arith, (omega arith, (c.requires.numbers 6 (omega arith), (c.requires.weights, (c.requires.some, (c.requires.shift_most, search rules))))))))

pub row_of_8-requires-8 : goal.row_of_8-requires-8
row_of_8-requires-8 g c =
    (omega arith, (omega arith, (omega arith, (omega arith, (c.requires.numbers 7 (omega arith), (c.requires.weights, (c.requires.some, (c.requires.shift_most, search rules))))))))
