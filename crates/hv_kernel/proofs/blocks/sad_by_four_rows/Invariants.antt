use Rattle.std.proofs.Common.{◌≡◌, ◌*◌, ◌≤◌}
use Rattle.hv_kernel.specs.Blocks.{sad_of_rows}
use Rattle.hv_kernel.proofs.blocks.sad_by_four_rows.Given as goal

abbrev pub invariant-loop-group : goal.invariant-loop-group
invariant-loop-group l = (l.sum ≡ sad_of_rows l.blocks (4 * l.group)) × (l.sum ≤ 16320 * l.group)
