use Rattle.std.proofs.Common.{arith, ℕ, ◌<◌}
use Rattle.hv_forward.specs.Forward.{entry_sum}
use Rattle.hv_lanes.proofs.FourLaneLemmas.{small_lanes}
use Rattle.hv_forward.proofs.ColumnLaneLemmas.{entry_small, four_means, first_four}
use Rattle.hv_forward.proofs.forward_columns.put_row_of_4.Goals as goal

pub put_four-requires-clause-small : goal.put_four-requires-clause-small
put_four-requires-clause-small c =
    let small = λ (u : ℕ) (below : u < 4). entry_small 4 u c.args.entries.now c.args.rows.now (omega arith) c.requires.light (λ r less. c.requires.numbers u r below less) in
    small_lanes (entry_sum 4 c.args.entries.now c.args.rows.now) c.sums_of_4.result small
    (first_four 4 c.args.entries.now c.args.rows.now c.sums_of_4.result c.sums_of_4.ensures)

pub returns : goal.returns
returns c =
    let small = λ (u : ℕ) (below : u < 4). entry_small 4 u c.args.entries.now c.args.rows.now (omega arith) c.requires.light (λ r less. c.requires.numbers u r below less) in
    four_means (entry_sum 4 c.args.entries.now c.args.rows.now) c.args.shift c.sums_of_4.result c.put_four.new.out small
    (first_four 4 c.args.entries.now c.args.rows.now c.sums_of_4.result c.sums_of_4.ensures)
    c.put_four.ensures
