use Rattle.std.proofs.Common.{[]}
use Rattle.hv_tables.specs.declared.bins.SliceKind.TheVariants.{P}
use Rattle.hv_cabac.proofs.tests.three_counted.Goals as goal

pub returns : goal.returns
returns c = c.count.ensures P 0 _ (c.put_three.ensures P 0 [] (c.new-counter.ensures P 0))
