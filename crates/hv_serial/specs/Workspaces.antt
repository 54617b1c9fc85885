-- What the encoding of groups works in.
use Rattle.std.specs.Prelude.{◌≡◌, ℕ, ◌*◌, List, length, slice_get, Some}
use Rattle.hv_types.specs.declared.settings.Settings.{Settings}
use Rattle.hv_types.specs.declared.picture.Picture.{Picture}
use Rattle.hv_types.specs.Configuration.{columns, rows}
use Rattle.hv_types.specs.Video.{IsPadded}
use Rattle.hv_block.specs.declared.frame.Frame.{Frame}
use Rattle.hv_serial.specs.declared.workspace.GroupSpace.{GroupSpace}
use Rattle.hv_serial.specs.declared.workspace.Workspace.{Workspace}
use Rattle.hv_serial.specs.declared.workspace.Workspace.TheVariants.{Blank, Chosen}
use Rattle.hv_serial.specs.Slots.{frames_for}

-- it has padded pictures of these settings, with their offsets
pub record IsFrame (cfg : Settings) (frame : Frame) : Type 0 where
  pub shown : IsPadded cfg frame.shown
  pub working : IsPadded cfg frame.working
  pub sao : length frame.sao.items ≡ columns cfg * rows cfg

-- there are enough for a group of these settings
pub record AreFrames (cfg : Settings) (frames : List Frame) : Type 0 where
  pub count : length frames ≡ frames_for cfg.group cfg.levels
  pub each : (slot : ℕ) (frame : Frame) → slice_get frames slot ≡ Some frame → IsFrame cfg frame

-- it has the blocks of a picture of these settings, and frames
pub record IsSpace (cfg : Settings) (space : GroupSpace) : Type 0 where
  pub blocks : length space.blocks.items ≡ columns cfg * rows cfg
  pub frames : AreFrames cfg space.frames.items

-- it is for groups of these settings
abbrev pub IsWorkspace : Settings → Workspace → Type 0
IsWorkspace cfg Blank = cfg.effort ≡ 0
IsWorkspace cfg (Chosen space) = IsSpace cfg space

-- the frame of this number shows this picture
pub record Shows (frames : List Frame) (slot : ℕ) (picture : Picture) : Type 0 where
  pub frame : Frame
  pub there : slice_get frames slot ≡ Some frame
  pub shown : frame.shown ≡ picture

-- this frame alone is written, and shows this picture
pub record Rewrites (old : List Frame) (slot : ℕ) (picture : Picture) (new : List Frame) :
    Type 0 where
  pub shows : Shows new slot picture
  pub others : (other : ℕ) → (other ≡ slot → ⊥) → slice_get new other ≡ slice_get old other
