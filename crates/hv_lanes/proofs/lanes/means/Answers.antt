use Rattle.hv_lanes.proofs.LaneStepLemmas.{rounded_is}
use Rattle.hv_lanes.proofs.lanes.means.Goals as goal

pub returns : goal.returns
returns c = rounded_is 8 c.args.shift c.args.lanes c.requires.some c.requires.shift_most c.requires.eight c.requires.lanes_most
