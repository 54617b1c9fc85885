use Rattle.hv_model.proofs.InterGroupLemmas.{inter_encoding_appends}
use Rattle.hv_model.proofs.inter_encoding.inter_encoding_appends.Goals as goal

pub returns : goal.returns
returns c = inter_encoding_appends
