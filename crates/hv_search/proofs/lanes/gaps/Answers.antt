use Rattle.std.proofs.Common.{nat_lt, w8}
use Rattle.std.proofs.lemmas.Simd.{tops_compared}
use Rattle.hv_kernel.proofs.LaneLemmas.{gap_lanes}
use Rattle.hv_search.proofs.lanes.gaps.Goals as goal

pub returns : goal.returns
returns g c = rw (tops_compared w8 nat_lt c.args.a c.args.b) (gap_lanes c.args.a c.args.b c.fits-a.1 c.fits-b.1)
