use Rattle.std.proofs.Common.{refl}
use Rattle.hv_tables.specs.TransformMatrix.{transMatrix}
use Rattle.hv_tables.proofs.ComputedLemmas.{entries_are}
use Rattle.hv_forward.proofs.TableLemmas.{numbers_are}
use Rattle.hv_forward.proofs.forward_weights.matrix_32.Goals as goal

pub returns-clause-entries : goal.returns-clause-entries
returns-clause-entries c = entries_are 32 _ (transMatrix 5) refl

pub returns-clause-numbers : goal.returns-clause-numbers
returns-clause-numbers c = numbers_are _ refl
