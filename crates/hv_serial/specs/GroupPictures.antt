-- The pictures of a group whose coding tree blocks are chosen: what each is coded from, and what
-- was coded of the group when so many places of its coding order were. All speaks of padded
-- pictures, which padding keeps as they are.
use Rattle.std.specs.Prelude.{◌≡◌, ℕ, ◌<◌, List, [], length, map, take, slice_get, Option, Some, None, All}
use Rattle.hv_types.specs.declared.settings.Emit.{Emit}
use Rattle.hv_types.specs.declared.settings.Emit.TheVariants.{Stream, Recon}
use Rattle.hv_types.specs.declared.picture.Picture.{Picture}
use Rattle.hv_types.specs.Video.{pad, raw}
use Rattle.hv_types.specs.GroupInput.{GroupInput}
use Rattle.hv_block.specs.declared.frame.Frame.{Frame}
use Rattle.hv_group_model.specs.Structure.{coding, coded_of, place_in}
use Rattle.hv_decision.specs.Groups.{GroupOutput}
use Rattle.hv_search.specs.Motion.{Motion, IsMotionOf}
use Rattle.hv_model.specs.InterPictures.{PictureSource, source_at, recon_at, picture_unit, picture_shown}
use Rattle.hv_serial.specs.Slots.{slot_of, held_in}
use Rattle.hv_serial.specs.Workspaces.{Shows}

-- ---- what a picture is coded from

-- the pictures of the group are padded already
abbrev pub ArePadded : GroupInput → Type 0
ArePadded group = map pad group.pictures ≡ group.pictures

abbrev pub source_in : GroupInput → ℕ → PictureSource
source_in group number = source_at group.config group.pictures number

-- as it is shown, before it is cropped
abbrev pub recon_in : GroupInput → ℕ → Picture
recon_in group number = recon_at group.config group.pictures number

-- list 0
abbrev pub reference_pictures : PictureSource → List Picture
reference_pictures source = map (λ reference. reference.picture) source.references

-- what was found for it: nothing is searched for the first one
abbrev pub IsFound : GroupInput → ℕ → Option Motion → Type 0
IsFound group number None = number ≡ 0
IsFound group number (Some m) = IsMotionOf group number m

-- ---- a group, where so many places of the coding order are coded

-- each frame shows the picture that it holds
abbrev pub HoldsAt : GroupInput → ℕ → List Frame → Type 0
HoldsAt group place frames =
    (slot number : ℕ) →
    held_in group.config.levels (coding (length group.pictures) group.config.levels) place slot ≡
    Some number →
    Shows frames slot (recon_in group number)

-- each reference of a picture is shown by its own frame
abbrev pub ShowReferences : GroupInput → ℕ → List Frame → Type 0
ShowReferences group number frames =
    All (λ r. Shows frames (slot_of (length group.pictures) group.config.levels r)
    (recon_in group r))
    (coded_of (length group.pictures) group.config.levels number).references

-- the units of the first so many places
abbrev pub units_to : GroupInput → ℕ → List (List ℕ)
units_to group place =
    map (λ coded. picture_unit group.config group.pictures coded.picture)
    (take place (coding (length group.pictures) group.config.levels))

-- the bytes of a picture that is shown
abbrev pub shown_bytes : GroupInput → ℕ → List ℕ
shown_bytes group number = raw (picture_shown group.config group.pictures number)

-- there is a place for each picture, and the coded ones stand there
pub record ShownTo (group : GroupInput) (place : ℕ) (shown : List (List ℕ)) : Type 0 where
  pub count : length shown ≡ length group.pictures
  pub each :
      (number : ℕ) → number < length group.pictures →
      place_in (coding (length group.pictures) group.config.levels) number < place →
      slice_get shown number ≡ Some (shown_bytes group number)

-- .. where pictures are emitted
abbrev pub EmittedTo : Emit → GroupInput → ℕ → List (List ℕ) → Type 0
EmittedTo Stream group place shown = shown ≡ []
EmittedTo Recon group place shown = ShownTo group place shown

pub record OutputTo (group : GroupInput) (place : ℕ) (output : GroupOutput) : Type 0 where
  pub slices : output.slices ≡ units_to group place
  pub shown : EmittedTo group.config.emit group place output.shown
