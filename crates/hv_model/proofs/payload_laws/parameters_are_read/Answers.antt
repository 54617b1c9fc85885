use Rattle.hv_model.proofs.PayloadLemmas.{parameters-back}
use Rattle.hv_model.proofs.payload_laws.parameters_are_read.Goals as goal

pub returns : goal.returns
returns g c = parameters-back _
