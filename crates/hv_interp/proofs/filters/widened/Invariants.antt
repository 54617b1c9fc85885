use Rattle.std.proofs.Common.{◌≡◌, ◌<◌, ℕ, length, pos, slice_index_or}
use Rattle.hv_interp.proofs.filters.widened.Given as goal

abbrev pub invariant-loop-k : goal.invariant-loop-k
invariant-loop-k g l =
    (length l.wide ≡ g.row.T) ×
    ((i : ℕ) → i < l.k → slice_index_or l.wide i (pos 0) ≡ slice_index_or l.taps i (pos 0))
