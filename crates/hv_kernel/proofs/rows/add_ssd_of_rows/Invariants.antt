use Rattle.std.proofs.Common.{◌≡◌, ◌*◌, ◌≤◌}
use Rattle.hv_kernel.specs.Blocks.{ssd_of_rows}
use Rattle.hv_kernel.proofs.rows.add_ssd_of_rows.Given as goal

abbrev pub invariant-loop-y : goal.invariant-loop-y
invariant-loop-y g l =
    (l.sum ≡ ssd_of_rows l.blocks l.y) × (l.sum ≤ 4161600 * l.y)
