-- So many places are appended.
use Rattle.std.proofs.Common.{◌≡◌, ◌++◌, []}
use Rattle.std.specs.Prelude.{replicate}
use Rattle.hv_serial.proofs.pictures.push_places.Given as goal

abbrev pub invariant-loop-index : goal.invariant-loop-index
invariant-loop-index l =
    (l.output.slices ≡ l.initial.output.slices) ×
    (l.output.shown ≡ l.initial.output.shown ++ replicate l._index [])
