use Rattle.std.proofs.Common.{◌≡◌, ◌-◌, ◌<◌, ◌≤◌, ◌++◌, drop, length, take}
use Rattle.hv_stream_model.specs.Units.{strip}
use Rattle.hv_stream_model.specs.ZeroRuns.{strip_after}
use Rattle.hv_bits.proofs.unit.put_stripped.Given as goal

abbrev pub invariant-loop-at : goal.invariant-loop-at
invariant-loop-at l =
    (l.run ≤ l.at) × (l.from ≤ l.at) × (l.at ≤ length l.escaped) ×
    (l.bytes.items ++ take (l.at - l.from) (drop l.from l.escaped) ++ strip_after l.run (drop l.at
    l.escaped) ≡
    l.initial.bytes.items ++ strip l.escaped)

abbrev pub decreases-loop-at : goal.decreases-loop-at
decreases-loop-at l = length l.escaped - l.at

abbrev pub invariant-loop-at-2 : goal.invariant-loop-at-2
invariant-loop-at-2 l =
    (l.run ≤ l.at) × (l.from ≤ l.at) × (l.at < length l.escaped) × (l.initial.at ≤ l.at) ×
    (l.bytes.items ++ take (l.at - l.from) (drop l.from l.escaped) ++ strip_after l.run (drop l.at
    l.escaped) ≡
    l.fn.bytes.items ++ strip l.escaped)

abbrev pub decreases-loop-at-2 : goal.decreases-loop-at-2
decreases-loop-at-2 l = length l.escaped - l.at
