use Rattle.std.proofs.Common.{arith}
use Rattle.std.proofs.lemmas.Simd.{shifts_fit_splat}
use Rattle.hv_intra.proofs.DcLemmas.{edges_are, edges_fit}
use Rattle.hv_intra.proofs.dc.edges.Goals as goal

pub overflow_shr-result : goal.overflow_shr-result
overflow_shr-result g c = shifts_fit_splat 16 _ g.row.N 2 (omega arith)

pub overflow_cast-result-2 : goal.overflow_cast-result-2
overflow_cast-result-2 g c =
    edges_fit g.row.N c.args.more c.args.neighbours c.requires c.fits-neighbours.1

pub returns : goal.returns
returns g c =
    edges_are g.row.N c.args.more c.args.neighbours c.requires
    c.fits-neighbours.0 c.fits-neighbours.1
