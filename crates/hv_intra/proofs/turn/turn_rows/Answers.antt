use Rattle.hv_intra.proofs.TurnLemmas.{tiles_joined}
use Rattle.hv_intra.proofs.turn.turn_rows.Goals as goal

pub returns : goal.returns
returns c =
    tiles_joined c.args.row c.args.columns.now c.turn_tile.new.out c.turn_tile-2.new.out c.join_tiles.new.out
    c.turn_tile.ensures c.turn_tile-2.ensures c.join_tiles.ensures
