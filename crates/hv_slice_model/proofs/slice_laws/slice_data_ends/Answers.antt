use Rattle.hv_slice_model.proofs.SliceDataLemmas.{slice_ends}
use Rattle.hv_slice_model.proofs.slice_laws.slice_data_ends.Goals as goal

pub returns : goal.returns
returns c = slice_ends
