-- So many frames are there.
use Rattle.std.proofs.Common.{◌≡◌, ℕ, length}
use Rattle.std.specs.Prelude.{slice_get, Some}
use Rattle.hv_block.specs.declared.frame.Frame.{Frame}
use Rattle.hv_serial.specs.Workspaces.{IsFrame}
use Rattle.hv_serial.proofs.workspace.frames_of_group.Given as goal

abbrev pub invariant-loop-index : goal.invariant-loop-index
invariant-loop-index l =
    (length l.frames.items ≡ l._index) ×
    ((slot : ℕ) (frame : Frame) → slice_get l.frames.items slot ≡ Some frame →
    IsFrame l.config frame)
