use Rattle.hv_intra.proofs.LaneLemmas.{steps_are}
use Rattle.hv_intra.proofs.lanes.steps_of.Goals as goal

pub returns : goal.returns
returns c = steps_are c.args.samples c.args.next c.fits-samples.1 c.fits-next.1
