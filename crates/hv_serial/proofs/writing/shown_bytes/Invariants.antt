-- The first pictures are appended.
use Rattle.std.proofs.Common.{◌≡◌}
use Rattle.std.specs.Prelude.{flat_map, take}
use Rattle.hv_serial.proofs.writing.shown_bytes.Given as goal

abbrev pub invariant-loop-picture : goal.invariant-loop-picture
invariant-loop-picture l =
    l.bytes.items ≡ flat_map (λ picture. picture) (take l.picture-index l.output.shown)
