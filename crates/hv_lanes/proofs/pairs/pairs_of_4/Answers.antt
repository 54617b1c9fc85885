use Rattle.hv_lanes.proofs.PartLemmas.{Numbers-part}
use Rattle.hv_lanes.proofs.WeaveLemmas.{four_rows}
use Rattle.hv_lanes.proofs.pairs.pairs_of_4.Goals as goal

pub halves_in_turn-requires-clause-numbers : goal.halves_in_turn-requires-clause-numbers
halves_in_turn-requires-clause-numbers c = Numbers-part 0 8 c.args.block.now c.requires.numbers

pub halves_in_turn-requires-2-clause-numbers : goal.halves_in_turn-requires-2-clause-numbers
halves_in_turn-requires-2-clause-numbers c = Numbers-part 8 8 c.args.block.now c.requires.numbers

pub returns : goal.returns
returns c = four_rows c.args.block.now c.halves_in_turn.result c.halves_in_turn-2.result c.halves_in_turn.ensures c.halves_in_turn-2.ensures
