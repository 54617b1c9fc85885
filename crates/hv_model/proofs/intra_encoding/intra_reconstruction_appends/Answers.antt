use Rattle.hv_model.proofs.IntraGroupLemmas.{intra_reconstruction_appends}
use Rattle.hv_model.proofs.intra_encoding.intra_reconstruction_appends.Goals as goal

pub returns : goal.returns
returns c = intra_reconstruction_appends
