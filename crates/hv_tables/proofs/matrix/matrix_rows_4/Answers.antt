use Rattle.std.proofs.Common.{refl}
use Rattle.hv_tables.specs.TransformMatrix.{transMatrix}
use Rattle.hv_tables.proofs.ComputedLemmas.{entries_are}
use Rattle.hv_tables.proofs.matrix.matrix_rows_4.Goals as goal

pub returns : goal.returns
returns c = entries_are 4 _ (transMatrix 2) refl
