use Rattle.hv_unit_model.proofs.AroundLemmas.{blocks_around}
use Rattle.hv_unit_model.proofs.unit_laws.blocks_around_are_those_of_picture.Goals as goal

pub returns : goal.returns
returns c = blocks_around
