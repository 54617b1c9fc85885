use Rattle.std.proofs.Common.{refl}
use Rattle.hv_tables.proofs.ArithmeticTableLemmas.{next_are}
use Rattle.hv_tables.proofs.arithmetic.next_states.Goals as goal

pub returns : goal.returns
returns c = next_are _ refl
