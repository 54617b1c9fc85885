use Rattle.std.proofs.Common.{◌≡◌, ◌≤◌, ◌+◌, ◌*◌}
use Rattle.hv_sample_model.specs.Blocks.{total_of}
use Rattle.hv_search.specs.Windows.{plane_of_grid}
use Rattle.hv_search.specs.Plain.{gap_of}
use Rattle.hv_search.proofs.plain.row_score.Given as goal

abbrev pub invariant-loop-i : goal.invariant-loop-i
invariant-loop-i l =
    (l.sum ≡ total_of l.i (λ i. gap_of (plane_of_grid l.input) (plane_of_grid l.reference) l.mv (l.x + i) l.y)) ×
    (l.sum ≤ 255 * l.i)
