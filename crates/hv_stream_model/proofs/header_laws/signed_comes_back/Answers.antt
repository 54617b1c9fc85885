use Rattle.hv_stream_model.proofs.HeaderLemmas.{signed_back}
use Rattle.hv_stream_model.proofs.header_laws.signed_comes_back.Goals as goal

pub returns : goal.returns
returns c = signed_back
