use Rattle.std.proofs.Common.{refl}
use Rattle.hv_sample_model.specs.Quantisation.{levels}
use Rattle.hv_forward.proofs.laws.calls_join_law.Goals as goal

pub returns : goal.returns
unfolding levels
returns c = λ log2 qp intra block. refl
