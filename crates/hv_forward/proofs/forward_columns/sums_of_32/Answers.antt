use Rattle.std.proofs.Common.{arith, rules, ◌+◌}
use Rattle.hv_lanes.proofs.PartLemmas.{Numbers-part}
use Rattle.hv_forward.proofs.ColumnLaneLemmas.{more_sums, more_bits}
use Rattle.hv_forward.proofs.forward_columns.sums_of_32.Goals as goal

pub sums_of_16-requires : goal.sums_of_16-requires
sums_of_16-requires g c =
    (omega arith, (omega arith, (omega arith, (omega arith, (omega arith, (omega arith, (search rules, (Numbers-part 0 16 c.args.entries.now c.requires.entries, more_bits 32 16 c.args.p c.args.p c.args.i c.args.rows.now 0 (omega arith) (omega arith) c.requires.numbers))))))))

pub sums_of_16-requires-2 : goal.sums_of_16-requires-2
sums_of_16-requires-2 g c =
    (omega arith, (omega arith, (omega arith, (omega arith, (omega arith, (omega arith, (search rules, (Numbers-part 16 16 c.args.entries.now c.requires.entries, more_bits 32 16 c.args.p (c.args.p + 8) c.args.i c.args.rows.now 16 (omega arith) (omega arith) c.requires.numbers))))))))

pub returns : goal.returns
returns g c =
    more_sums 16 16 c.args.p (c.args.p + 8) c.args.i c.args.entries.now c.args.rows.now c.sums_of_16.result c.sums_of_16-2.result c.sums.result (omega arith) c.sums_of_16.ensures c.sums_of_16-2.ensures c.sums.ensures
