use Rattle.hv_lanes.proofs.PartLemmas.{two_rows_are}
use Rattle.hv_lanes.proofs.pairs.halves_in_turn.Goals as goal

pub returns : goal.returns
returns c = λ i h p q. two_rows_are c.args.two.now c.requires.eight c.requires.numbers i h p q
