use Rattle.std.proofs.Common.{refl}
use Rattle.hv_sample_model.specs.InverseTransform.{residual}
use Rattle.hv_transform.proofs.laws.calls_join_law.Goals as goal

pub returns : goal.returns
unfolding residual
returns c = λ log2 qp block. refl
