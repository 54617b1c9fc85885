use Rattle.std.proofs.Common.{arith}
use Rattle.hv_intra.proofs.TurnLemmas.{rows_joined}
use Rattle.hv_intra.proofs.turn.turn_32.Goals as goal

pub returns : goal.returns
returns c =
    rows_joined 512 512 c.args.columns.now c.args.out.now c.turn_rows.new.out c.turn_rows-2.new.out c.requires.room (omega arith) (omega arith)
    c.turn_rows.ensures c.turn_rows-2.ensures
