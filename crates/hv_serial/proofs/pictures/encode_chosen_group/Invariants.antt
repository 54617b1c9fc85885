-- So many places of the coding order are coded.
use Rattle.hv_serial.specs.GroupPictures.{HoldsAt, OutputTo}
use Rattle.hv_serial.specs.Workspaces.{IsSpace}
use Rattle.hv_serial.proofs.pictures.encode_chosen_group.Given as goal

abbrev pub invariant-loop-place : goal.invariant-loop-place
invariant-loop-place l =
    IsSpace l.group.input.config l.space ×
    HoldsAt l.group.input l.place l.space.frames.items ×
    OutputTo l.group.input l.place l.output
