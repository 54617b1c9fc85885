use Rattle.std.proofs.Common.{◌≡◌, map, length}
use Rattle.hv_group_model.specs.Structure.{rising}
use Rattle.hv_decision.specs.Coding.{coded_as}
use Rattle.hv_decision.specs.Sets.{row_in, row_as}
use Rattle.hv_decision.proofs.sets.rows.Given as goal

abbrev pub invariant-loop-picture : goal.invariant-loop-picture
invariant-loop-picture l =
    map row_as l.rows.items ≡ map (row_in (map coded_as l.order) (length l.order)) (rising l.picture 0)
