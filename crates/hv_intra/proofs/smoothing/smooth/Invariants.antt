use Rattle.std.proofs.Common.{ℕ, ◌≡◌, ◌<◌, ◌≤◌, ◌+◌, ◌*◌, get_or}
use Rattle.hv_intra.specs.Lines.{weighted_at}
use Rattle.hv_intra.proofs.smoothing.smooth.Given as goal

-- so many between the ends
abbrev pub invariant-loop-k : goal.invariant-loop-k
invariant-loop-k l = (i : ℕ) → 1 ≤ i → i < 16 * l.k + 1 → get_or l.out i 0 ≡ weighted_at l.line i
