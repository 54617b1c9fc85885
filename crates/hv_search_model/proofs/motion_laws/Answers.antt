use Rattle.hv_search_model.proofs.ReachLemmas.{vectors_are_short}
use Rattle.hv_search_model.proofs.motion_laws.Goals as goal

pub returns : goal.returns
returns c = vectors_are_short
