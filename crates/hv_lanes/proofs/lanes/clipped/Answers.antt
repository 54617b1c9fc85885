use Rattle.hv_lanes.proofs.LaneStepLemmas.{all_fit, clamps_are}
use Rattle.hv_lanes.proofs.lanes.clipped.Goals as goal

pub overflow_cast-result : goal.overflow_cast-result
overflow_cast-result c = all_fit 8 _

pub returns : goal.returns
returns c = clamps_are 8 c.args.lanes c.requires.eight c.requires.numbers
