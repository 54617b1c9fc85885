use Rattle.hv_model.proofs.GroupLemmas.{encoding_ignores}
use Rattle.hv_model.proofs.encoding_laws.encoding_ignores_samples.Goals as goal

pub returns : goal.returns
returns c = encoding_ignores
