use Rattle.hv_interp.proofs.PairLemmas.{always, products_at, products_small}
use Rattle.hv_interp.proofs.pairs.products.Goals as goal

pub overflow_cast-first-2 : goal.overflow_cast-first-2
overflow_cast-first-2 c = (always _, (always _, (always _, (always _, (always _, (always _, (always _, (always _, tt))))))))

pub overflow_cast-second-2 : goal.overflow_cast-second-2
overflow_cast-second-2 c = (always _, (always _, (always _, (always _, (always _, (always _, (always _, (always _, tt))))))))

pub returns-clause-each : goal.returns-clause-each
returns-clause-each c j =
    products_at j c.args.taps.now c.args.samples.now c.requires.taps c.requires.samples c.requires.light c.type_inv.samples

pub returns-clause-range : goal.returns-clause-range
returns-clause-range c =
    products_small c.args.taps.now c.args.samples.now c.requires.taps c.requires.samples c.requires.light c.type_inv.samples
