use Rattle.std.proofs.Common.{◌≡◌, ◌*◌, ◌-◌, ◌≤◌, length, take}
use Rattle.hv_kernel.specs.Differences.{sad_of}
use Rattle.hv_kernel.proofs.sums.add_sad_of_runs.Given as goal

abbrev pub invariant-loop-at : goal.invariant-loop-at
invariant-loop-at g l =
    (l.sum ≡ sad_of (take l.at l.a) (take l.at l.b)) × (l.sum ≤ 16320 * l.at) × (l.at ≤ length l.a)

abbrev pub decreases-loop-at : goal.decreases-loop-at
decreases-loop-at g l = length l.a - l.at
