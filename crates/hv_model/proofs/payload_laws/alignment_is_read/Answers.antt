use Rattle.hv_model.proofs.PayloadLemmas.{alignment-back}
use Rattle.hv_model.proofs.payload_laws.alignment_is_read.Goals as goal

pub returns : goal.returns
returns c = alignment-back
