use Rattle.hv_mode_model.proofs.ValidChoiceLemmas.{valid_coded_trees}
use Rattle.hv_mode_model.proofs.mode_laws.chosen_trees_may_be_coded.Goals as goal

pub returns : goal.returns
returns c = valid_coded_trees
