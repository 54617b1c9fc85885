use Rattle.hv_interp.proofs.ColumnLemmas.{woven_even, woven_odd}
use Rattle.hv_interp.proofs.columns.weave_16.Goals as goal

pub returns-clause-even : goal.returns-clause-even
returns-clause-even c = woven_even c.args.out.now c.args.samples.now c.args.others.now c.requires.room c.requires.samples

pub returns-clause-odd : goal.returns-clause-odd
returns-clause-odd c = woven_odd c.args.out.now c.args.samples.now c.args.others.now c.requires.room c.requires.samples c.requires.others
