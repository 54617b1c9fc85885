use Rattle.hv_model.proofs.GroupLemmas.{reconstruction_appends}
use Rattle.hv_model.proofs.encoding_laws.reconstruction_appends.Goals as goal

pub returns : goal.returns
returns c = reconstruction_appends
