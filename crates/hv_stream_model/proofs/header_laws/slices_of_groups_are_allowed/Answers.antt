use Rattle.hv_stream_model.proofs.SliceStructureLemmas.{slices_allowed}
use Rattle.hv_stream_model.proofs.header_laws.slices_of_groups_are_allowed.Goals as goal

pub returns : goal.returns
returns c = slices_allowed
