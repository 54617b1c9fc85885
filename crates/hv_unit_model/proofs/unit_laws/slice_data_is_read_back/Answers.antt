use Rattle.hv_unit_model.proofs.UnitLemmas.{reads_slice}
use Rattle.hv_unit_model.proofs.unit_laws.slice_data_is_read_back.Goals as goal

pub returns : goal.returns
returns c = reads_slice
