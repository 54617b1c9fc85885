use Rattle.std.proofs.Common.{◌≡◌, ◌≤◌, ◌++◌, drop}
use Rattle.hv_stream_model.specs.ZeroRuns.{escape_after}
use Rattle.hv_plain.proofs.escaping.escape.Given as goal

abbrev pub invariant-loop-byte : goal.invariant-loop-byte
invariant-loop-byte l =
    (l.run ≤ l.byte-index) ×
    (l.escaped.items ++ escape_after l.run (drop l.byte-index l.bytes) ≡ escape_after 0 l.bytes)
