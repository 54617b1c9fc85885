use Rattle.std.proofs.Common.{◌≡◌, ◌*◌, length}
use Rattle.hv_intra.specs.Blocks.{IsRow}
use Rattle.hv_intra.specs.Turns.{of_tile}
use Rattle.hv_intra.proofs.turn.take_tile.Given as goal

abbrev pub invariant-loop-i : goal.invariant-loop-i
invariant-loop-i l = record {
  taken : IsRow (16 * l.i) (of_tile l.columns l.column l.row) l.tile;
  all : length l.tile ≡ 256;
}
