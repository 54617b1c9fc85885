use Rattle.hv_intra.proofs.LaneLemmas.{copied}
use Rattle.hv_intra.proofs.lanes.copy_run.Goals as goal

pub returns : goal.returns
returns g c = copied g.row.N c.args.from.now c.args.to.now c.requires.from c.requires.to
