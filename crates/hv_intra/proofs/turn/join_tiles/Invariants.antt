use Rattle.std.proofs.Common.{◌*◌}
use Rattle.hv_intra.specs.Blocks.{IsRow}
use Rattle.hv_intra.specs.Turns.{of_tiles}
use Rattle.hv_intra.proofs.turn.join_tiles.Given as goal

abbrev pub invariant-loop-i : goal.invariant-loop-i
invariant-loop-i l = IsRow (32 * l.i) (of_tiles l.first l.second) l.out
