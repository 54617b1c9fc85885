use Rattle.std.proofs.Common.{◌≡◌, ◌+◌, ◌*◌, ℕ, replicate}
use Rattle.hv_intra.specs.Blocks.{IsRow}
use Rattle.hv_intra.specs.Lanes.{stepped_at}
use Rattle.hv_intra.proofs.lanes.fill_row_in_lanes.Given as goal

abbrev pub invariant-loop-g : goal.invariant-loop-g
invariant-loop-g l =
    (w : ℕ) → l.weights ≡ replicate 16 w → IsRow (16 * l.g) (λ x. stepped_at l.bases l.steps w (l.first + x)) l.row
