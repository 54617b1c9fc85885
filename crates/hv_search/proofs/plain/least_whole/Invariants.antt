use Rattle.hv_search.specs.Windows.{plane_of_grid}
use Rattle.hv_search.specs.Fraction.{IsBestOf}
use Rattle.hv_search.specs.Plain.{area_score, whole_place}
use Rattle.hv_search.proofs.plain.least_whole.Given as goal

abbrev pub invariant-loop-t : goal.invariant-loop-t
invariant-loop-t l =
    IsBestOf (area_score (plane_of_grid l.input) (plane_of_grid l.reference) l.x l.y l.columns l.rows)
    l.centre (whole_place l.reach l.centre) l.t l.best
