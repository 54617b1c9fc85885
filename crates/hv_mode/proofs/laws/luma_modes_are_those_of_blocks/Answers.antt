use Rattle.hv_mode.proofs.ScoreLemmas.{modes_of_blocks}
use Rattle.hv_mode.proofs.laws.luma_modes_are_those_of_blocks.Goals as goal

pub returns : goal.returns
returns c = modes_of_blocks
