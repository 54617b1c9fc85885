use Rattle.hv_model.proofs.SliceLemmas.{slice_data-back}
use Rattle.hv_model.proofs.payload_laws.slice_data_is_read.Goals as goal

pub returns : goal.returns
returns c = slice_data-back
