use Rattle.std.proofs.Common.{◌≡◌, ◌*◌, ◌≤◌}
use Rattle.std.specs.Simd.Lanes.{sum_l}
use Rattle.hv_kernel.specs.Blocks.{sad_of_rows}
use Rattle.hv_kernel.proofs.rows.add_gaps_of_four_rows.Given as goal

abbrev pub invariant-loop-row : goal.invariant-loop-row
invariant-loop-row g l =
    (sum_l l.sums ≡ sad_of_rows l.blocks l.row) × (sum_l l.sums ≤ 16320 * l.row)
