use Rattle.hv_intra.proofs.SmoothingLaneLemmas.{means_are, means_fit}
use Rattle.hv_intra.proofs.smoothing.weighted.Goals as goal

pub overflow_cast-result-2 : goal.overflow_cast-result-2
overflow_cast-result-2 c =
    means_fit 16 c.args.before c.args.samples c.args.next c.fits-before.1 c.fits-samples.1 c.fits-next.1

pub returns : goal.returns
returns c =
    means_are 16 c.args.before c.args.samples c.args.next c.fits-before.0 c.fits-samples.0 c.fits-next.0
    c.fits-before.1 c.fits-samples.1 c.fits-next.1
