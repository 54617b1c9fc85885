use Rattle.hv_mode_model.proofs.DifferenceLemmas.{vectors_found}
use Rattle.hv_mode_model.proofs.mode_laws.vectors_are_those_found.Goals as goal

pub returns : goal.returns
returns c = vectors_found
