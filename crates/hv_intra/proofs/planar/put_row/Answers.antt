use Rattle.std.proofs.Common.{arith, refl}
use Rattle.hv_intra.proofs.PlanarLemmas.{row_put}
use Rattle.hv_intra.proofs.planar.put_row.Goals as goal

pub returns : goal.returns
returns g c =
    row_put g.row.N c.args.left c.args.row.now c.between.result c.args.sums c.args.falling (omega (arith, c.requires)) c.fits-sums.0 c.fits-falling.0 (c.between.ensures c.args.left refl)
