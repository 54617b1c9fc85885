use Rattle.hv_intra.proofs.PlanarLemmas.{firsts_are}
use Rattle.hv_intra.proofs.planar.first_sums.Goals as goal

pub returns : goal.returns
returns g c = firsts_are g.row.N c.args.right c.args.above c.args.rising c.fits-above.0 c.fits-rising.0 c.fits-above.1
