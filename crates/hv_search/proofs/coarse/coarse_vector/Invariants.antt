use Rattle.std.proofs.Common.{◌+◌, ◌*◌}
use Rattle.hv_search.specs.Windows.{plane_of_grid}
use Rattle.hv_search.specs.Coarse.{block_score, IsBest}
use Rattle.hv_search.proofs.coarse.coarse_vector.Given as goal

abbrev pub invariant-loop-right : goal.invariant-loop-right
invariant-loop-right l =
    IsBest (block_score (plane_of_grid l.input) (plane_of_grid l.reference) l.fn.left l.fn.top) (33 * l.down + l.right) l.best

abbrev pub invariant-loop-down : goal.invariant-loop-down
invariant-loop-down l =
    IsBest (block_score (plane_of_grid l.input) (plane_of_grid l.reference) l.fn.left l.fn.top) (33 * l.down) l.best
