use Rattle.std.proofs.Common.{arith, ℕ}
use Rattle.hv_forward.specs.Forward.{entry_mean}
use Rattle.hv_lanes.proofs.PartLemmas.{none_yet}
use Rattle.hv_forward.proofs.ColumnLaneLemmas.{four_more}
use Rattle.hv_forward.proofs.forward_columns.put_row_of_8.Goals as goal

pub returns : goal.returns
returns c =
    let more = λ (i : ℕ). four_more 8 i c.args.shift 4 c.args.entries.now c.args.rows.now in
    let part_0 = more 0 _ c.put_four_of_8.new.out (omega arith) c.put_four_of_8.ensures.count c.put_four_of_8.ensures.each (none_yet (entry_mean 8 c.args.entries.now c.args.rows.now c.args.shift) c.args.out.now) in
    more 1 _ c.put_four_of_8-2.new.out (omega arith) c.put_four_of_8-2.ensures.count c.put_four_of_8-2.ensures.each part_0
