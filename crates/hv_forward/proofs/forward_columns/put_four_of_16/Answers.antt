use Rattle.std.proofs.Common.{arith, ◌+◌, ◌*◌}
use Rattle.hv_forward.specs.Forward.{entry_sum}
use Rattle.hv_lanes.proofs.FourLaneLemmas.{small_lanes}
use Rattle.hv_forward.proofs.ColumnLaneLemmas.{entry_small, sums_from_0, four_means}
use Rattle.hv_forward.proofs.forward_columns.put_four_of_16.Goals as goal

pub put_four-requires-clause-small : goal.put_four-requires-clause-small
put_four-requires-clause-small g c =
    small_lanes (λ j. entry_sum 16 c.args.entries.now c.args.rows.now (4 * c.args.i + j)) c.sums_of_16.result
    (λ j below. entry_small 16 (4 * c.args.i + j) c.args.entries.now c.args.rows.now (omega arith) c.requires.light (λ r less. c.requires.numbers (4 * c.args.i + j) r (omega (arith, below)) less))
    (sums_from_0 16 c.args.i c.args.entries.now c.args.rows.now c.sums_of_16.result c.sums_of_16.ensures)

pub returns-clause-each : goal.returns-clause-each
returns-clause-each g c = λ j below.
    four_means (λ j. entry_sum 16 c.args.entries.now c.args.rows.now (4 * c.args.i + j)) c.args.shift c.sums_of_16.result c.put_four.new.out
    (λ j below. entry_small 16 (4 * c.args.i + j) c.args.entries.now c.args.rows.now (omega arith) c.requires.light (λ r less. c.requires.numbers (4 * c.args.i + j) r (omega (arith, below)) less))
    (sums_from_0 16 c.args.i c.args.entries.now c.args.rows.now c.sums_of_16.result c.sums_of_16.ensures)
    c.put_four.ensures j below
