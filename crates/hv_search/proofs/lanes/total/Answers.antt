use Rattle.std.proofs.Common.{◌≤◌, ◌*◌, arith}
use Rattle.std.proofs.lemmas.Simd.{fold-sum, sum_fits}
use mir.Syntax.{w32}
use Rattle.std.specs.Simd.Lanes.{sum_l}
use Rattle.hv_kernel.proofs.LaneLemmas.{map_same, sum_of_bytes}
use Rattle.hv_search.proofs.lanes.total.Goals as goal

pub overflow_add-result : goal.overflow_add-result
overflow_add-result g c =
    let small : sum_l c.args.lanes ≤ 255 * g.row.N = sum_of_bytes c.args.lanes g.row.N c.fits-lanes.0 c.fits-lanes.1 in
    rw (map_same c.args.lanes) (sum_fits w32 0 c.args.lanes (omega arith))

pub returns-clause-value : goal.returns-clause-value
returns-clause-value g c = rw (map_same c.args.lanes) (omega (arith, fold-sum 0 c.args.lanes))

pub returns-clause-small : goal.returns-clause-small
returns-clause-small g c =
    rw (map_same c.args.lanes) (omega (arith, fold-sum 0 c.args.lanes, sum_of_bytes c.args.lanes g.row.N c.fits-lanes.0 c.fits-lanes.1))
