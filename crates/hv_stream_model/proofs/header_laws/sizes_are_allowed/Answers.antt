use Rattle.hv_stream_model.proofs.HeaderLemmas.{sizes_allowed}
use Rattle.hv_stream_model.proofs.header_laws.sizes_are_allowed.Goals as goal

pub returns : goal.returns
returns c = sizes_allowed
