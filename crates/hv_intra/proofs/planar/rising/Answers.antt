use Rattle.hv_intra.proofs.PlanarLemmas.{rising_long, rising_is}
use Rattle.hv_intra.proofs.planar.rising.Goals as goal

pub returns-clause-count : goal.returns-clause-count
returns-clause-count g c = rising_long g.row.N c.requires

pub returns-clause-each : goal.returns-clause-each
returns-clause-each g c = rising_is g.row.N c.requires
