use Rattle.std.proofs.Common.{◌*◌, ◌≤◌, arith, w32}
use Rattle.std.specs.Int.{abs_diff}
use Rattle.std.specs.Simd.Lanes.{sum_l, zip2}
use Rattle.std.proofs.lemmas.Simd.{adds_fit}
use Rattle.hv_kernel.proofs.LaneLemmas.{sum_of_measures, sum_of_gaps, sum_with_gaps}
use Rattle.hv_kernel.proofs.lanes.add_gaps.Goals as goal

pub overflow_add-result : goal.overflow_add-result
overflow_add-result g c =
    let small : sum_l (zip2 abs_diff c.args.a c.args.b) ≤ 255 * g.row.N = sum_of_gaps c.args.a c.args.b g.row.N c.fits-a.0 c.fits-b.0 c.fits-a.1 c.fits-b.1 in
    rw c.wide_gaps.ensures (adds_fit w32 c.args.sums (zip2 abs_diff c.args.a c.args.b) (omega arith))

pub returns-clause-value : goal.returns-clause-value
returns-clause-value g c =
    rw c.wide_gaps.ensures (sum_with_gaps c.args.sums c.args.a c.args.b g.row.N c.fits-sums.0 c.fits-a.0 c.fits-b.0)

pub returns-clause-most : goal.returns-clause-most
returns-clause-most g c =
    let small : sum_l (zip2 abs_diff c.args.a c.args.b) ≤ 255 * g.row.N = sum_of_gaps c.args.a c.args.b g.row.N c.fits-a.0 c.fits-b.0 c.fits-a.1 c.fits-b.1 in
    let whole = sum_with_gaps c.args.sums c.args.a c.args.b g.row.N c.fits-sums.0 c.fits-a.0 c.fits-b.0 in
    rw c.wide_gaps.ensures (omega (arith, whole, small, sum_of_measures abs_diff c.args.a c.args.b))
