use Rattle.std.proofs.Common.{◌≡◌, ◌+◌, ◌*◌, ◌≤◌, length, take, drop, ◌∙◌, ap, refl, arith}
use Rattle.std.specs.Simd.Lanes.{sum_l, products}
use Rattle.std.proofs.lemmas.Simd.{dot4_Fits, bytes_below, sum_dots}
use lib.ListN.{replicate}
use Rattle.hv_kernel.proofs.FourLemmas.{products_by_ones, sum_of_four_at, sum_l_is_sum, four_bytes_below}
use Rattle.hv_kernel.proofs.LaneLemmas.{sum_of_bytes}
use Rattle.hv_kernel.proofs.lanes.sums_of_fours.Goals as goal

pub dot4 : goal.dot4
dot4 c = (dot4_Fits c.args.lanes (replicate 16 1) c.fits-lanes.1 tt, tt)

pub returns-clause-value : goal.returns-clause-value
returns-clause-value c = λ j below.
    rw (products_by_ones c.args.lanes 16 c.fits-lanes.0)
    (sum_of_four_at j c.args.lanes (omega (arith, c.fits-lanes.0)) ∙ sum_l_is_sum (take 4 (drop (4 * j) c.args.lanes)))

pub returns-clause-most : goal.returns-clause-most
returns-clause-most c = λ j below.
    let inside : 4 * j + 4 ≤ length c.args.lanes = omega (arith, c.fits-lanes.0) in
    rw (products_by_ones c.args.lanes 16 c.fits-lanes.0, sum_of_four_at j c.args.lanes inside)
    (four_bytes_below (4 * j) c.args.lanes inside (bytes_below c.args.lanes c.fits-lanes.1))

pub returns-clause-whole : goal.returns-clause-whole
returns-clause-whole c =
    let whole = sum_dots 4 c.args.lanes (replicate 16 1) c.fits-lanes.0 refl in
    let same : sum_l (products c.args.lanes (replicate 16 1)) ≡ sum_l c.args.lanes = ap sum_l (products_by_ones c.args.lanes 16 c.fits-lanes.0) in
    omega (arith, whole.0, same, sum_of_bytes c.args.lanes 16 c.fits-lanes.0 c.fits-lanes.1)
