use Rattle.hv_tables.proofs.ArithmeticTableLemmas.{factor_is_nearest, widths_follow, last_widths, successors_follow, last_state}
use Rattle.hv_tables.proofs.arithmetic.arithmetic_tables_laws.Goals as goal

pub returns-clause-factor : goal.returns-clause-factor
returns-clause-factor c = factor_is_nearest

pub returns-clause-widths : goal.returns-clause-widths
returns-clause-widths c = widths_follow

pub returns-clause-last_widths : goal.returns-clause-last_widths
returns-clause-last_widths c = last_widths

pub returns-clause-successors : goal.returns-clause-successors
returns-clause-successors c = successors_follow

pub returns-clause-last_state : goal.returns-clause-last_state
returns-clause-last_state c = last_state
