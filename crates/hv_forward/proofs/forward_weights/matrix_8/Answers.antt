use Rattle.std.proofs.Common.{refl}
use Rattle.hv_tables.specs.TransformMatrix.{transMatrix}
use Rattle.hv_tables.proofs.ComputedLemmas.{entries_are}
use Rattle.hv_forward.proofs.TableLemmas.{numbers_are}
use Rattle.hv_forward.proofs.forward_weights.matrix_8.Goals as goal

pub returns-clause-entries : goal.returns-clause-entries
returns-clause-entries c = entries_are 8 _ (transMatrix 3) refl

pub returns-clause-numbers : goal.returns-clause-numbers
returns-clause-numbers c = numbers_are _ refl
