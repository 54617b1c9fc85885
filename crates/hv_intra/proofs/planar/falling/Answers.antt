use Rattle.hv_intra.proofs.PlanarLemmas.{falling_long, falling_is}
use Rattle.hv_intra.proofs.planar.falling.Goals as goal

pub returns-clause-count : goal.returns-clause-count
returns-clause-count g c = falling_long g.row.N c.rising.result c.rising.ensures.count

pub returns-clause-each : goal.returns-clause-each
returns-clause-each g c = falling_is g.row.N c.rising.result c.requires c.rising.ensures.count c.rising.ensures.each
