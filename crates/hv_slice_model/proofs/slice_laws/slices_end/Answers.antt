use Rattle.hv_slice_model.proofs.SliceEndLemmas.{slices_end}
use Rattle.hv_slice_model.proofs.slice_laws.slices_end.Goals as goal

pub returns : goal.returns
returns c = slices_end
