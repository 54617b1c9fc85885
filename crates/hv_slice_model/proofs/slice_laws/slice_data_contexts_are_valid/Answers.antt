use Rattle.hv_slice_model.proofs.ContextLemmas.{slice_askable}
use Rattle.hv_slice_model.proofs.slice_laws.slice_data_contexts_are_valid.Goals as goal

pub returns : goal.returns
returns c = slice_askable
