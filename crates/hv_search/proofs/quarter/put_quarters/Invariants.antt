use Rattle.std.proofs.Common.{◌*◌, ◌/◌, ◌%◌}
use Rattle.hv_interp.specs.Filters.{HasFirst}
use Rattle.hv_search_model.specs.MotionSearch.{mean_of_square}
use Rattle.hv_search.specs.Windows.{plane_of_grid}
use Rattle.hv_search.proofs.quarter.put_quarters.Given as goal

abbrev pub invariant-loop-y : goal.invariant-loop-y
invariant-loop-y l =
    HasFirst 0 (l.y * l.columns) (λ k. mean_of_square (plane_of_grid l.luma) (k % l.columns) (k / l.columns)) l.out
