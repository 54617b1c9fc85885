use Rattle.hv_intra.proofs.TurnLemmas.{four_turned}
use Rattle.hv_intra.proofs.turn.turn_4.Goals as goal

pub returns : goal.returns
returns c = four_turned c.args.out.now c.args.columns.now c.requires.columns c.requires.room
