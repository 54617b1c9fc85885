use Rattle.std.proofs.Common.{◌≡◌, ◌*◌, ◌-◌, ◌≤◌, length, take}
use Rattle.hv_kernel.specs.Differences.{ssd_of}
use Rattle.hv_kernel.proofs.sums.add_ssd_of_runs.Given as goal

abbrev pub invariant-loop-at : goal.invariant-loop-at
invariant-loop-at g l =
    (l.sum ≡ ssd_of (take l.at l.a) (take l.at l.b)) × (l.sum ≤ 4161600 * l.at) × (l.at ≤ length l.a)

abbrev pub decreases-loop-at : goal.decreases-loop-at
decreases-loop-at g l = length l.a - l.at
