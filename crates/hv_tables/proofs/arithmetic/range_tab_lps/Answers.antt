use Rattle.std.proofs.Common.{arith}
use Rattle.hv_tables.proofs.ArithmeticTableLemmas.{width_bounds}
use Rattle.hv_tables.proofs.arithmetic.range_tab_lps.Goals as goal

pub returns-clause-least : goal.returns-clause-least
returns-clause-least c =
    let b = width_bounds c.args.p_state_idx c.args.q_range_idx c.requires.state c.requires.quarter in
    omega (arith, c.width.ensures, b.0)

pub returns-clause-most : goal.returns-clause-most
returns-clause-most c =
    let b = width_bounds c.args.p_state_idx c.args.q_range_idx c.requires.state c.requires.quarter in
    omega (arith, c.width.ensures, b.1)
