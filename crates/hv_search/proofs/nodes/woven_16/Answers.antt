use Rattle.hv_search.proofs.WeaveLemmas.{woven}
use Rattle.hv_search.proofs.nodes.woven_16.Goals as goal

pub returns : goal.returns
returns c = woven c.args.a c.args.b 16 c.fits-a.0 c.fits-b.0
