-- The used ones so far, and those that follow, are all.
use Rattle.std.proofs.Common.{◌≡◌, ◌+◌, ◌≤◌, drop}
use Rattle.hv_stream_model.specs.Headers.{used_in}
use Rattle.hv_slice.specs.Entries.{side_of}
use Rattle.hv_slice.proofs.references.used_count.Given as goal

abbrev pub invariant-loop-entry : goal.invariant-loop-entry
invariant-loop-entry l =
    (l.used + used_in (side_of (drop l.entry-index l.side)) ≡ used_in (side_of l.side)) ×
    (l.used ≤ l.entry-index)
