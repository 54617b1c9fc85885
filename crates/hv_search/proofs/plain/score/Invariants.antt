use Rattle.std.proofs.Common.{◌≡◌, ◌≤◌, ◌+◌, ◌*◌}
use Rattle.hv_sample_model.specs.Blocks.{total_of}
use Rattle.hv_search.specs.Windows.{plane_of_grid}
use Rattle.hv_search.specs.Plain.{gap_of}
use Rattle.hv_search.proofs.plain.score.Given as goal

abbrev pub invariant-loop-j : goal.invariant-loop-j
invariant-loop-j l =
    (l.sum ≡ total_of l.j (λ j. total_of l.columns (λ i. gap_of (plane_of_grid l.input) (plane_of_grid l.reference) l.mv (l.x + i) (l.y + j)))) ×
    (l.sum ≤ 16320 * l.j)
