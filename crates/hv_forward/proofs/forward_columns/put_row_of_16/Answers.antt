use Rattle.std.proofs.Common.{arith, ℕ}
use Rattle.hv_forward.specs.Forward.{entry_mean}
use Rattle.hv_lanes.proofs.PartLemmas.{none_yet}
use Rattle.hv_forward.proofs.ColumnLaneLemmas.{four_more}
use Rattle.hv_forward.proofs.forward_columns.put_row_of_16.Goals as goal

pub returns : goal.returns
returns c =
    let more = λ (i : ℕ). four_more 16 i c.args.shift 4 c.args.entries.now c.args.rows.now in
    let part_0 = more 0 _ c.put_four_of_16.new.out (omega arith) c.put_four_of_16.ensures.count c.put_four_of_16.ensures.each (none_yet (entry_mean 16 c.args.entries.now c.args.rows.now c.args.shift) c.args.out.now) in
    let part_1 = more 1 _ c.put_four_of_16-2.new.out (omega arith) c.put_four_of_16-2.ensures.count c.put_four_of_16-2.ensures.each part_0 in
    let part_2 = more 2 _ c.put_four_of_16-3.new.out (omega arith) c.put_four_of_16-3.ensures.count c.put_four_of_16-3.ensures.each part_1 in
    more 3 _ c.put_four_of_16-4.new.out (omega arith) c.put_four_of_16-4.ensures.count c.put_four_of_16-4.ensures.each part_2
