use Rattle.std.proofs.Common.{refl}
use Rattle.hv_tables.specs.TransformMatrix.{transMatrix}
use Rattle.hv_tables.proofs.ComputedLemmas.{entries_are}
use Rattle.hv_tables.proofs.matrix.matrix_columns_16.Goals as goal

pub returns : goal.returns
returns c = entries_are 16 _ (λ n k. transMatrix 4 k n) refl
