use Rattle.hv_unit_model.proofs.SeenBinsLemmas.{bins_in_block}
use Rattle.hv_unit_model.proofs.unit_laws.bins_in_block_are_those_in_picture.Goals as goal

pub returns : goal.returns
returns c = bins_in_block
