use Rattle.hv_intra.proofs.PlanarLemmas.{row_steps_are}
use Rattle.hv_intra.proofs.planar.row_steps.Goals as goal

pub returns : goal.returns
returns g c = row_steps_are g.row.N c.args.scale c.args.lower c.args.above c.fits-above.0
