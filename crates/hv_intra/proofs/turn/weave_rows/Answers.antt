use Rattle.hv_intra.proofs.TurnLemmas.{rows_woven}
use Rattle.hv_intra.proofs.turn.weave_rows.Goals as goal

pub returns : goal.returns
returns c =
    rows_woven c.args.out.now c.args.first.now c.args.second.now c.requires.first
    c.requires.second c.requires.room
