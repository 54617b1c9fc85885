use Rattle.hv_tables.proofs.ContextTableLemmas.{adjacent, full, have_values, have_places, have_sums, alike}
use Rattle.hv_tables.proofs.contexts.context_tables_laws.Goals as goal

pub returns-clause-adjacent : goal.returns-clause-adjacent
returns-clause-adjacent c = adjacent

pub returns-clause-full : goal.returns-clause-full
returns-clause-full c = full

pub returns-clause-values : goal.returns-clause-values
returns-clause-values c = have_values

pub returns-clause-places : goal.returns-clause-places
returns-clause-places c = have_places

pub returns-clause-sums : goal.returns-clause-sums
returns-clause-sums c = have_sums

pub returns-clause-alike : goal.returns-clause-alike
returns-clause-alike c = alike
