use Rattle.std.proofs.Common.{arith}
use Rattle.hv_lanes.proofs.LaneStepLemmas.{rounded_is}
use Rattle.hv_interp.proofs.RoundedTotalLemmas.{all_small}
use Rattle.hv_interp.proofs.totals.means.Goals as goal

pub returns : goal.returns
returns c =
    rounded_is 8 12 c.args.sums (omega arith) (omega arith) c.requires.eight (all_small c.args.sums c.requires.range)
