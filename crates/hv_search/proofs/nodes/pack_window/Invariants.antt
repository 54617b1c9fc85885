use Rattle.std.proofs.Common.{◌≡◌, ◌+◌, ◌*◌, ◌<◌, ℕ, take, drop}
use Rattle.hv_search.specs.Nodes.{weave, piece}
use Rattle.hv_search.proofs.nodes.pack_window.Given as goal

abbrev pub invariant-loop-y : goal.invariant-loop-y
invariant-loop-y l = (y : ℕ) → y < l.y → take 160 (drop (160 * y) l.window) ≡ weave (piece l.reference l.stride 0 y 80) (piece l.reference l.stride 0 (y + 1) 80)

abbrev pub invariant-loop-c : goal.invariant-loop-c
invariant-loop-c l =
    ((y : ℕ) → y < l.y → take 160 (drop (160 * y) l.window) ≡ weave (piece l.reference l.stride 0 y 80) (piece l.reference l.stride 0 (y + 1) 80)) ×
    (take (32 * l.c) (drop (160 * l.y) l.window) ≡ weave (piece l.reference l.stride 0 l.y (16 * l.c)) (piece l.reference l.stride 0 (l.y + 1) (16 * l.c)))
