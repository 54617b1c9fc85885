use Rattle.std.proofs.Common.{◌≡◌, ℕ, ◌+◌, ◌*◌, ◌<◌, ◌≤◌, get_or}
use Rattle.hv_search.specs.Nodes.{woven_sad, there_of}
use Rattle.hv_search.proofs.nodes.sums_of_row.Given as goal

abbrev pub invariant-loop-place : goal.invariant-loop-place
invariant-loop-place l =
    ((p dx : ℕ) → p < l.place → dx < 17 → get_or l.sums (64 * dx + p) 0 ≡ woven_sad l.packed (64 * p) l.window (there_of p dx l.dy)) ×
    ((p dx : ℕ) → p < l.place → dx < 17 → get_or l.sums (64 * dx + p) 0 ≤ 16320)

abbrev pub invariant-loop-dx : goal.invariant-loop-dx
invariant-loop-dx l =
    ((p dx : ℕ) → p < l.place → dx < 17 → get_or l.sums (64 * dx + p) 0 ≡ woven_sad l.packed (64 * p) l.window (there_of p dx l.dy)) ×
    ((p dx : ℕ) → p < l.place → dx < 17 → get_or l.sums (64 * dx + p) 0 ≤ 16320) ×
    ((dx : ℕ) → dx < l.dx → get_or l.sums (64 * dx + l.place) 0 ≡ woven_sad l.packed (64 * l.place) l.window (there_of l.place dx l.dy)) ×
    ((dx : ℕ) → dx < l.dx → get_or l.sums (64 * dx + l.place) 0 ≤ 16320)
