use Rattle.std.proofs.Common.{◌≡◌, ℕ, ◌<◌, ◌≤◌, ◌*◌, length}
use Rattle.hv_lanes.specs.Passes.{table_row}
use Rattle.hv_lanes.specs.Lanes.{in_pairs, of_pairs}
use Rattle.hv_lanes.proofs.pairs.weave.Given as goal

abbrev pub invariant-loop-p : goal.invariant-loop-p
invariant-loop-p g l =
    ((i r : ℕ) → i < l.columns → r < 2 * l.p → in_pairs l.out i r ≡ of_pairs g.row.N l.block l.order i r) ×
    ((q : ℕ) → l.p ≤ q → table_row l.out q ≡ table_row l.initial.out q) × (length l.out ≡ g.row.P)
