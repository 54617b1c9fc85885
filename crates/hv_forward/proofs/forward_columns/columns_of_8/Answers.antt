use Rattle.std.proofs.Common.{arith, ℕ}
use Rattle.hv_forward.specs.Forward.{columns_mean}
use Rattle.hv_lanes.proofs.PartLemmas.{none_yet}
use Rattle.hv_forward.proofs.ColumnLaneLemmas.{frequency_more}
use Rattle.hv_forward.proofs.forward_columns.columns_of_8.Goals as goal

pub returns : goal.returns
returns c =
    let more = λ (v : ℕ). frequency_more 8 v c.args.shift 8 c.args.matrix.now c.args.rows.now in
    let part_0 = more 0 _ c.put_row_of_8.new.out (omega arith) (omega arith) c.put_row_of_8.ensures (none_yet (columns_mean 8 c.args.matrix.now c.args.rows.now c.args.shift) c.args.out.now) in
    let part_1 = more 1 _ c.put_row_of_8-2.new.out (omega arith) (omega arith) c.put_row_of_8-2.ensures part_0 in
    let part_2 = more 2 _ c.put_row_of_8-3.new.out (omega arith) (omega arith) c.put_row_of_8-3.ensures part_1 in
    let part_3 = more 3 _ c.put_row_of_8-4.new.out (omega arith) (omega arith) c.put_row_of_8-4.ensures part_2 in
    let part_4 = more 4 _ c.put_row_of_8-5.new.out (omega arith) (omega arith) c.put_row_of_8-5.ensures part_3 in
    let part_5 = more 5 _ c.put_row_of_8-6.new.out (omega arith) (omega arith) c.put_row_of_8-6.ensures part_4 in
    let part_6 = more 6 _ c.put_row_of_8-7.new.out (omega arith) (omega arith) c.put_row_of_8-7.ensures part_5 in
    more 7 _ c.put_row_of_8-8.new.out (omega arith) (omega arith) c.put_row_of_8-8.ensures part_6
