use Rattle.hv_unit_model.proofs.ReadUnitLemmas.{read_slice}
use Rattle.hv_unit_model.proofs.unit_laws.read_slice_data_may_be_coded.Goals as goal

pub returns : goal.returns
returns c = read_slice
