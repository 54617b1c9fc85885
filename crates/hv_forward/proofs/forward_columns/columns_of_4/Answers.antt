use Rattle.std.proofs.Common.{arith, ℕ}
use Rattle.hv_forward.specs.Forward.{columns_mean}
use Rattle.hv_lanes.proofs.PartLemmas.{none_yet}
use Rattle.hv_forward.proofs.ColumnLaneLemmas.{frequency_more}
use Rattle.hv_forward.proofs.forward_columns.columns_of_4.Goals as goal

pub returns : goal.returns
returns c =
    let more = λ (v : ℕ). frequency_more 4 v c.args.shift 4 c.args.matrix.now c.args.rows.now in
    let part_0 = more 0 _ c.put_row_of_4.new.out (omega arith) (omega arith) c.put_row_of_4.ensures (none_yet (columns_mean 4 c.args.matrix.now c.args.rows.now c.args.shift) c.args.out.now) in
    let part_1 = more 1 _ c.put_row_of_4-2.new.out (omega arith) (omega arith) c.put_row_of_4-2.ensures part_0 in
    let part_2 = more 2 _ c.put_row_of_4-3.new.out (omega arith) (omega arith) c.put_row_of_4-3.ensures part_1 in
    more 3 _ c.put_row_of_4-4.new.out (omega arith) (omega arith) c.put_row_of_4-4.ensures part_2
