-- The units of the first pictures in coding order are there.
use Rattle.std.proofs.Common.{◌≡◌, [], length, map, take}
use Rattle.hv_group_model.specs.Structure.{coding}
use Rattle.hv_serial.specs.BlankGroups.{blank_unit}
use Rattle.hv_serial.proofs.group.code_blank_pictures.Given as goal

abbrev pub invariant-loop-place : goal.invariant-loop-place
invariant-loop-place l =
    (l.output.slices ≡
    map
    (λ coded. blank_unit l.group.input.config (length l.group.input.pictures) coded.picture)
    (take l.place (coding (length l.group.input.pictures) l.group.input.config.levels))) ×
    (l.output.shown ≡ [])
