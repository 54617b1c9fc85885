use Rattle.hv_sao.proofs.BandLemmas.{raised_lowered_are, length-raised_lowered}
use Rattle.hv_sao.proofs.bands.raised_lowered.Goals as goal

pub returns-clause-count : goal.returns-clause-count
returns-clause-count c =
    length-raised_lowered c.args.samples c.args.up c.args.down c.fits-samples.0 c.fits-up.0 c.fits-down.0

pub returns-clause-lanes : goal.returns-clause-lanes
returns-clause-lanes c =
    raised_lowered_are c.args.samples c.args.up c.args.down c.fits-samples.0 c.fits-up.0 c.fits-down.0 c.fits-samples.1 c.fits-down.1
