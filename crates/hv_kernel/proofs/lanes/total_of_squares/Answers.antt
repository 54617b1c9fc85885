use Rattle.std.proofs.Common.{◌≤◌, ◌*◌, arith, w32}
use Rattle.std.proofs.lemmas.Simd.{fold-sum, sum_fits}
use Rattle.std.specs.Simd.Lanes.{sum_l, zip2}
use Rattle.hv_kernel.proofs.LaneLemmas.{map_same, squares_fit, sum_of_squares}
use Rattle.hv_kernel.proofs.lanes.total_of_squares.Goals as goal

pub overflow_mul-result : goal.overflow_mul-result
overflow_mul-result g c = rw (map_same c.args.lanes) (squares_fit c.args.lanes c.fits-lanes.1)

pub overflow_add-result : goal.overflow_add-result
overflow_add-result g c =
    let small : sum_l (zip2 (λ x y. x * y) c.args.lanes c.args.lanes) ≤ 65025 * g.row.N = sum_of_squares c.args.lanes g.row.N c.fits-lanes.0 c.fits-lanes.1 in
    rw (map_same c.args.lanes) (sum_fits w32 0 (zip2 (λ x y. x * y) c.args.lanes c.args.lanes) (omega arith))

pub returns-clause-value : goal.returns-clause-value
returns-clause-value g c =
    rw (map_same c.args.lanes) (omega (arith, fold-sum 0 (zip2 (λ x y. x * y) c.args.lanes c.args.lanes)))

pub returns-clause-most : goal.returns-clause-most
returns-clause-most g c =
    rw (map_same c.args.lanes) (omega (arith, fold-sum 0 (zip2 (λ x y. x * y) c.args.lanes c.args.lanes), sum_of_squares c.args.lanes g.row.N c.fits-lanes.0 c.fits-lanes.1))
