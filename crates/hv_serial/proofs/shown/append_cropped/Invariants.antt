-- So many rows are appended.
use Rattle.std.proofs.Common.{◌≡◌, ◌++◌}
use Rattle.hv_types.specs.Samples.{crop_plane}
use Rattle.hv_serial.proofs.shown.append_cropped.Given as goal

abbrev pub invariant-loop-y : goal.invariant-loop-y
invariant-loop-y l =
    l.bytes.items ≡ l.initial.bytes.items ++ (crop_plane l.plane l.width l.y).samples
