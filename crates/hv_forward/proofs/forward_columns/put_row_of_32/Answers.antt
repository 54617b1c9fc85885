use Rattle.std.proofs.Common.{arith, ℕ}
use Rattle.hv_forward.specs.Forward.{entry_mean}
use Rattle.hv_lanes.proofs.PartLemmas.{none_yet}
use Rattle.hv_forward.proofs.ColumnLaneLemmas.{four_more}
use Rattle.hv_forward.proofs.forward_columns.put_row_of_32.Goals as goal

pub returns : goal.returns
returns c =
    let more = λ (i : ℕ). four_more 32 i c.args.shift 4 c.args.entries.now c.args.rows.now in
    let part_0 = more 0 _ c.put_four_of_32.new.out (omega arith) c.put_four_of_32.ensures.count c.put_four_of_32.ensures.each (none_yet (entry_mean 32 c.args.entries.now c.args.rows.now c.args.shift) c.args.out.now) in
    let part_1 = more 1 _ c.put_four_of_32-2.new.out (omega arith) c.put_four_of_32-2.ensures.count c.put_four_of_32-2.ensures.each part_0 in
    let part_2 = more 2 _ c.put_four_of_32-3.new.out (omega arith) c.put_four_of_32-3.ensures.count c.put_four_of_32-3.ensures.each part_1 in
    let part_3 = more 3 _ c.put_four_of_32-4.new.out (omega arith) c.put_four_of_32-4.ensures.count c.put_four_of_32-4.ensures.each part_2 in
    let part_4 = more 4 _ c.put_four_of_32-5.new.out (omega arith) c.put_four_of_32-5.ensures.count c.put_four_of_32-5.ensures.each part_3 in
    let part_5 = more 5 _ c.put_four_of_32-6.new.out (omega arith) c.put_four_of_32-6.ensures.count c.put_four_of_32-6.ensures.each part_4 in
    let part_6 = more 6 _ c.put_four_of_32-7.new.out (omega arith) c.put_four_of_32-7.ensures.count c.put_four_of_32-7.ensures.each part_5 in
    more 7 _ c.put_four_of_32-8.new.out (omega arith) c.put_four_of_32-8.ensures.count c.put_four_of_32-8.ensures.each part_6
