use Rattle.hv_model.proofs.GroupLemmas.{encoding_appends}
use Rattle.hv_model.proofs.encoding_laws.encoding_appends.Goals as goal

pub returns : goal.returns
returns c = encoding_appends
