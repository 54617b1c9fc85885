use Rattle.hv_interp.proofs.PairLemmas.{high_in_order, low_in_order}
use Rattle.hv_interp.proofs.pairs.in_order.Goals as goal

pub returns-clause-low : goal.returns-clause-low
returns-clause-low c = low_in_order c.args.low c.args.high c.requires.low_eight c.requires.low_numbers

pub returns-clause-high : goal.returns-clause-high
returns-clause-high c = high_in_order c.args.low c.args.high c.requires.low_eight c.requires.high_eight c.requires.high_numbers
