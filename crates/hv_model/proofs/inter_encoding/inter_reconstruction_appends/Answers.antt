use Rattle.hv_model.proofs.InterGroupLemmas.{inter_reconstruction_appends}
use Rattle.hv_model.proofs.inter_encoding.inter_reconstruction_appends.Goals as goal

pub returns : goal.returns
returns c = inter_reconstruction_appends
