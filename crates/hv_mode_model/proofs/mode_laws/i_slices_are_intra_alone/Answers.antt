use Rattle.hv_mode_model.proofs.IntraAloneLemmas.{alone_in_i_slices}
use Rattle.hv_mode_model.proofs.mode_laws.i_slices_are_intra_alone.Goals as goal

pub returns : goal.returns
returns c = alone_in_i_slices
