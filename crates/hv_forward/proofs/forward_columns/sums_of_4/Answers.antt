use Rattle.std.proofs.Common.{arith, ◌+◌}
use Rattle.hv_forward.proofs.ColumnLaneLemmas.{eight_numbers, next_row, four_sums}
use Rattle.hv_forward.proofs.forward_columns.sums_of_4.Goals as goal

pub entry_quads-requires-clause-first_numbers : goal.entry_quads-requires-clause-first_numbers
entry_quads-requires-clause-first_numbers g c =
    eight_numbers c.args.rows.now c.args.p c.args.i (λ j h inside small. c.requires.numbers j h inside (omega (arith, small)))

pub entry_quads-requires-clause-second_numbers : goal.entry_quads-requires-clause-second_numbers
entry_quads-requires-clause-second_numbers g c =
    eight_numbers c.args.rows.now (c.args.p + 1) c.args.i (λ j h inside small. next_row c.args.rows.now c.args.p c.args.i j h (c.requires.numbers j (2 + h) inside (omega (arith, small))))

pub returns : goal.returns
returns g c = four_sums c.args.entries.now c.args.rows.now c.args.p c.args.i c.entry_quads.result c.entry_quads.ensures
