use Rattle.std.proofs.Common.{◌≡◌, ◌*◌, ◌≤◌}
use Rattle.hv_kernel.specs.Blocks.{sad_of_rows}
use Rattle.hv_kernel.proofs.rows.add_sad_of_rows.Given as goal

abbrev pub invariant-loop-y : goal.invariant-loop-y
invariant-loop-y g l =
    (l.sum ≡ sad_of_rows l.blocks l.y) × (l.sum ≤ 16320 * l.y)
