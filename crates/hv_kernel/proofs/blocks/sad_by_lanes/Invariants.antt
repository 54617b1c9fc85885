use Rattle.std.proofs.Common.{◌≡◌, ◌*◌, ◌≤◌}
use Rattle.std.specs.Simd.Lanes.{sum_l}
use Rattle.hv_kernel.specs.Blocks.{sad_of_rows}
use Rattle.hv_kernel.proofs.blocks.sad_by_lanes.Given as goal

abbrev pub invariant-loop-group : goal.invariant-loop-group
invariant-loop-group l =
    (sum_l l.sums ≡ sad_of_rows l.blocks (4 * l.group)) × (sum_l l.sums ≤ 16320 * (4 * l.group))
