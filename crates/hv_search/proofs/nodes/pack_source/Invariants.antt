use Rattle.std.proofs.Common.{◌≡◌, ◌+◌, ◌*◌, ◌<◌, ℕ, take, drop}
use Rattle.hv_search.specs.Nodes.{woven_rows}
use Rattle.hv_search.proofs.nodes.pack_source.Given as goal

abbrev pub invariant-loop-place : goal.invariant-loop-place
invariant-loop-place l = (p q : ℕ) → p < l.place → q < 4 → take 16 (drop (64 * p + 16 * q) l.packed) ≡ woven_rows l.source l.stride p q

abbrev pub invariant-loop-pair : goal.invariant-loop-pair
invariant-loop-pair l =
    ((p q : ℕ) → p < l.place → q < 4 → take 16 (drop (64 * p + 16 * q) l.packed) ≡ woven_rows l.source l.stride p q) ×
    ((q : ℕ) → q < l.pair → take 16 (drop (64 * l.place + 16 * q) l.packed) ≡ woven_rows l.source l.stride l.place q)
