use Rattle.std.proofs.Common.{ℕ, ◌≡◌, ◌+◌, ◌*◌, ◌/◌, ◌%◌, ◌<◌, length}
use Rattle.hv_interp.specs.Lanes.{lane}
use Rattle.hv_interp.proofs.pairs.spread.Given as goal

abbrev pub invariant-loop-k : goal.invariant-loop-k
invariant-loop-k g l = (length l.spread ≡ 64) × ((i : ℕ) → i < l.k → lane l.spread i ≡ lane l.taps (i / 16 * 2 + i % 2))
