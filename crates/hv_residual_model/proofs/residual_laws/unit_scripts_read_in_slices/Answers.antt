use Rattle.hv_residual_model.proofs.UnitBinLemmas.{reads_in_slice}
use Rattle.hv_residual_model.proofs.residual_laws.unit_scripts_read_in_slices.Goals as goal

pub returns : goal.returns
returns g c = λ script bins value r. reads_in_slice r
