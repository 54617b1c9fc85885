-- What is given for the choice of a picture of a group.
use Rattle.std.specs.Prelude.{◌≡◌, ℕ, List, length, slice_get, Option, Some, None, ℤ, pos, ◌-ℤ◌}
use Rattle.std.specs.Option.{option_and_then, option_copied}
use Rattle.hv_types.specs.Configuration.{padded_width, padded_height}
use Rattle.hv_types.specs.GroupInput.{GroupInput}
use Rattle.hv_block.specs.declared.frame.Frame.{Frame}
use Rattle.hv_group_model.specs.Structure.{qp_at, coded_of}
use Rattle.hv_search_model.specs.MotionSearch.{reference_of}
use Rattle.hv_search.specs.Motion.{Motion}
use Rattle.hv_stream_model.specs.Headers.{used_count}
use Rattle.hv_mode.specs.declared.picture_task.PictureTask.{PictureTask}
use Rattle.hv_serial.specs.Slots.{slot_of}
use Rattle.hv_serial.specs.GroupPictures.{source_in}

-- the picture order count of a picture less that of another one, 0 where there is none
abbrev pub distance_from : ℕ → Option ℕ → ℤ
distance_from picture None = pos 0
distance_from picture (Some other) = pos picture -ℤ pos other

-- the frame of a picture, in a group of so many
abbrev pub frame_of : List Frame → ℕ → ℕ → ℕ → Option Frame
frame_of frames count levels picture = slice_get frames (slot_of count levels picture)

abbrev pub frame_of_entry : GroupInput → ℕ → List Frame → ℕ → Option Frame
frame_of_entry group number frames entry =
    option_and_then (frame_of frames (length group.pictures) group.config.levels)
    (reference_of group number entry)

-- a picture's task: its slice, and of each entry of list 0 the distance and the frame
pub record IsGiven
    (group : GroupInput) (number : ℕ) (searched : Option Motion) (frames : List Frame)
    (t : PictureTask) : Type 0 where
  pub effort : t.effort ≡ group.config.effort
  pub qp :
      t.qp ≡
      qp_at group.config.qp
      (coded_of (length group.pictures) group.config.levels number).depth
  pub input : slice_get group.pictures number ≡ Some t.input.now
  pub kind : t.kind ≡ (source_in group number).header.slice_type
  pub references : t.references ≡ used_count (source_in group number).header.references
  pub width : t.width ≡ padded_width group.config
  pub height : t.height ≡ padded_height group.config
  pub first_distance : t.distances.first ≡ distance_from number (reference_of group number 0)
  pub second_distance : t.distances.second ≡ distance_from number (reference_of group number 1)
  pub found : option_copied t.motion ≡ searched
  pub first : option_copied t.first ≡ frame_of_entry group number frames 0
  pub second : option_copied t.second ≡ frame_of_entry group number frames 1
