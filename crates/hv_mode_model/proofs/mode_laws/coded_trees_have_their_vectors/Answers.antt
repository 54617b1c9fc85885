use Rattle.hv_mode_model.proofs.ValidChoiceLemmas.{vectors_of_trees}
use Rattle.hv_mode_model.proofs.mode_laws.coded_trees_have_their_vectors.Goals as goal

pub returns : goal.returns
returns c = vectors_of_trees
