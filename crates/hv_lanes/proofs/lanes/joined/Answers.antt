use Rattle.hv_lanes.proofs.LaneStepLemmas.{joined_is}
use Rattle.hv_lanes.proofs.lanes.joined.Goals as goal

pub returns : goal.returns
returns c = joined_is c.args.low c.args.high c.requires.first_four c.requires.second_four c.requires.first c.requires.second
