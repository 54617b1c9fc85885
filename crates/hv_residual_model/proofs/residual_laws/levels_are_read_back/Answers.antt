use Rattle.hv_residual_model.proofs.ResidualLemmas.{reads_residual}
use Rattle.hv_residual_model.proofs.residual_laws.levels_are_read_back.Goals as goal

pub returns : goal.returns
returns c = reads_residual
