use Rattle.std.proofs.Common.{ℕ, ◌<◌, ◌≤◌, pos, slice_index_or}
use Rattle.std.specs.Int.RustNames.{unsigned_abs}
use Rattle.hv_speed.proofs.transforms.put_noise.Given as goal

abbrev pub invariant-loop-i : goal.invariant-loop-i
invariant-loop-i l = (k : ℕ) → k < l.i → unsigned_abs (slice_index_or l.out k (pos 0)) ≤ 255
