use Rattle.hv_intra.proofs.LaneLemmas.{bases_are}
use Rattle.hv_intra.proofs.lanes.bases_of.Goals as goal

pub returns : goal.returns
returns c = bases_are 8 c.args.samples c.fits-samples.0 c.fits-samples.1
