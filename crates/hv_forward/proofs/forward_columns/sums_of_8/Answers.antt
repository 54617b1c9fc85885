use Rattle.std.proofs.Common.{arith, rules, ◌+◌}
use Rattle.hv_lanes.proofs.PartLemmas.{Numbers-part}
use Rattle.hv_forward.proofs.ColumnLaneLemmas.{more_sums, more_bits}
use Rattle.hv_forward.proofs.forward_columns.sums_of_8.Goals as goal

pub sums_of_4-requires : goal.sums_of_4-requires
sums_of_4-requires g c =
    (omega arith, (omega arith, (omega arith, (omega arith, (omega arith, (omega arith, (search rules, (Numbers-part 0 4 c.args.entries.now c.requires.entries, more_bits 8 4 c.args.p c.args.p c.args.i c.args.rows.now 0 (omega arith) (omega arith) c.requires.numbers))))))))

pub sums_of_4-requires-2 : goal.sums_of_4-requires-2
sums_of_4-requires-2 g c =
    (omega arith, (omega arith, (omega arith, (omega arith, (omega arith, (omega arith, (search rules, (Numbers-part 4 4 c.args.entries.now c.requires.entries, more_bits 8 4 c.args.p (c.args.p + 2) c.args.i c.args.rows.now 4 (omega arith) (omega arith) c.requires.numbers))))))))

pub returns : goal.returns
returns g c =
    more_sums 4 4 c.args.p (c.args.p + 2) c.args.i c.args.entries.now c.args.rows.now c.sums_of_4.result c.sums_of_4-2.result c.sums.result (omega arith) c.sums_of_4.ensures c.sums_of_4-2.ensures c.sums.ensures
