use Rattle.hv_model.proofs.SliceLemmas.{slices_back}
use Rattle.hv_model.proofs.payload_laws.slices_are_read.Goals as goal

pub returns : goal.returns
returns c = slices_back c.other_slices_are_read.ensures c.other_slices_are_codable.ensures
