-- So many of them are padded.
use Rattle.std.proofs.Common.{◌≡◌, ℕ, ◌<◌}
use Rattle.std.specs.Prelude.{slice_get, Some}
use Rattle.hv_types.specs.declared.picture.Picture.{Picture}
use Rattle.hv_types.specs.Video.{IsPadded}
use Rattle.hv_serial.proofs.group.pictures_are_padded.Given as goal

abbrev pub invariant-loop-picture : goal.invariant-loop-picture
invariant-loop-picture l =
    (k : ℕ) (p : Picture) → k < l.picture → slice_get l.group.input.pictures k ≡ Some p →
    IsPadded l.group.input.config p
