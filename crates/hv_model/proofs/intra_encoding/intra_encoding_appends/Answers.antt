use Rattle.hv_model.proofs.IntraGroupLemmas.{intra_encoding_appends}
use Rattle.hv_model.proofs.intra_encoding.intra_encoding_appends.Goals as goal

pub returns : goal.returns
returns c = intra_encoding_appends
