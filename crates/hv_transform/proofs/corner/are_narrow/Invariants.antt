use Rattle.std.proofs.Common.{◌≡◌, ◌≤◌, ◌+◌, ℕ, ◌<◌, ◌*◌, pos}
use Rattle.hv_lanes.specs.Lanes.{at}
use Rattle.hv_transform.proofs.corner.are_narrow.Given as goal

abbrev pub invariant-loop-y : goal.invariant-loop-y
invariant-loop-y g l = (y x : ℕ) → y < l.y → 8 ≤ x → x < g.row.N → at l.block (y * g.row.N + x) ≡ pos 0
