use Rattle.std.proofs.Common.{map, arith}
use Rattle.std.proofs.lemmas.Simd.{bytes_below, fold-sum, sum_bound, sum_fits}
use mir.Syntax.{w16}
use Rattle.hv_intra.proofs.LaneLemmas.{wide}
use Rattle.hv_intra.proofs.DcLemmas.{sum_wide}
use Rattle.hv_intra.proofs.dc.total.Goals as goal

pub overflow_add-result : goal.overflow_add-result
overflow_add-result g c =
    let small = sum_bound 255 c.args.samples (bytes_below c.args.samples c.fits-samples.1) in
    sum_fits w16 0 (map wide c.args.samples)
    (omega (arith, small, c.fits-samples.0, c.requires, sum_wide c.args.samples))

pub returns-clause-value : goal.returns-clause-value
returns-clause-value g c =
    omega (arith, fold-sum 0 (map wide c.args.samples), sum_wide c.args.samples)

pub returns-clause-most : goal.returns-clause-most
returns-clause-most g c =
    let small = sum_bound 255 c.args.samples (bytes_below c.args.samples c.fits-samples.1) in
    let folded = fold-sum 0 (map wide c.args.samples) in
    omega (arith, small, c.fits-samples.0, folded, sum_wide c.args.samples)
