use Rattle.hv_interp.proofs.PairLemmas.{even_in_turn, odd_in_turn}
use Rattle.hv_interp.proofs.pairs.in_turn.Goals as goal

pub returns-clause-even : goal.returns-clause-even
returns-clause-even c = even_in_turn c.args.even c.args.odd c.requires.even_eight c.requires.even_numbers

pub returns-clause-odd : goal.returns-clause-odd
returns-clause-odd c = odd_in_turn c.args.even c.args.odd c.requires.even_eight c.requires.odd_eight c.requires.odd_numbers
