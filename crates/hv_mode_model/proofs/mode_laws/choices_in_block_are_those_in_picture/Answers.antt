use Rattle.hv_mode_model.proofs.SeenChoiceLemmas.{chosen_in_block}
use Rattle.hv_mode_model.proofs.mode_laws.choices_in_block_are_those_in_picture.Goals as goal

pub returns : goal.returns
returns c = chosen_in_block
