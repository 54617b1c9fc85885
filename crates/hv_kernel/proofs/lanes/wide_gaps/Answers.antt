use Rattle.std.proofs.Common.{nat_lt, w32}
use Rattle.std.specs.Simd.Lanes.{zip2}
use Rattle.std.proofs.lemmas.Simd.{tops_compared}
use Rattle.hv_kernel.proofs.LaneLemmas.{map_same, wrapped_gap, wide_gap_lanes}
use Rattle.hv_kernel.proofs.lanes.wide_gaps.Goals as goal

pub returns : goal.returns
returns g c =
    rw (map_same c.args.a, map_same c.args.b, tops_compared w32 nat_lt (zip2 wrapped_gap c.args.a c.args.b) (zip2 wrapped_gap c.args.b c.args.a))
    (wide_gap_lanes c.args.a c.args.b c.fits-a.1 c.fits-b.1)
