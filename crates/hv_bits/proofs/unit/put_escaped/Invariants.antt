use Rattle.std.proofs.Common.{◌≡◌, ◌-◌, ◌<◌, ◌≤◌, ◌++◌, drop, length, take}
use Rattle.hv_stream_model.specs.Units.{escape}
use Rattle.hv_stream_model.specs.ZeroRuns.{escape_after}
use Rattle.hv_bits.proofs.unit.put_escaped.Given as goal

abbrev pub invariant-loop-at : goal.invariant-loop-at
invariant-loop-at l =
    (l.zeros ≤ l.at) × (l.from ≤ l.at) × (l.at ≤ length l.payload) ×
    (l.bytes.items ++ take (l.at - l.from) (drop l.from l.payload) ++ escape_after l.zeros (drop l.at
    l.payload) ≡
    l.initial.bytes.items ++ escape l.payload)

abbrev pub decreases-loop-at : goal.decreases-loop-at
decreases-loop-at l = length l.payload - l.at

abbrev pub invariant-loop-at-2 : goal.invariant-loop-at-2
invariant-loop-at-2 l =
    (l.zeros ≤ l.at) × (l.from ≤ l.at) × (l.at < length l.payload) × (l.initial.at ≤ l.at) ×
    (l.bytes.items ++ take (l.at - l.from) (drop l.from l.payload) ++ escape_after l.zeros (drop l.at
    l.payload) ≡
    l.fn.bytes.items ++ escape l.payload)

abbrev pub decreases-loop-at-2 : goal.decreases-loop-at-2
decreases-loop-at-2 l = length l.payload - l.at
