use Rattle.std.proofs.Common.{nat_lt, w8}
use Rattle.std.proofs.lemmas.Simd.{tops_compared}
use Rattle.hv_search.proofs.LaneSumLemmas.{lesser_lanes}
use Rattle.hv_search.proofs.lanes.masked.Goals as goal

pub returns : goal.returns
returns c = rw (tops_compared w8 nat_lt c.args.a c.args.mask) (lesser_lanes c.args.a c.args.mask)
