use Rattle.std.proofs.Common.{refl}
use Rattle.hv_tables.specs.TransformMatrix.{transMatrix}
use Rattle.hv_tables.proofs.ComputedLemmas.{entries_are}
use Rattle.hv_tables.proofs.matrix.matrix_columns_4.Goals as goal

pub returns : goal.returns
returns c = entries_are 4 _ (λ n k. transMatrix 2 k n) refl
