use Rattle.hv_lanes.proofs.FourLaneLemmas.{lanes_of_sum}
use Rattle.hv_lanes.proofs.lanes.sums.Goals as goal

pub returns : goal.returns
returns c = λ f g h k. lanes_of_sum f g c.args.a c.args.b h k
