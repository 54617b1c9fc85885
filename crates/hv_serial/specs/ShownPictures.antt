-- The pictures of a group that are shown, each in its place.
use Rattle.std.specs.Prelude.{◌≡◌, ℕ, List, [], replicate, set}
use Rattle.hv_types.specs.declared.settings.Settings.{Settings}
use Rattle.hv_types.specs.declared.settings.Emit.{Emit}
use Rattle.hv_types.specs.declared.settings.Emit.TheVariants.{Stream, Recon}
use Rattle.hv_types.specs.declared.picture.Picture.{Picture}
use Rattle.hv_types.specs.Video.{raw, crop}
use Rattle.hv_decision.specs.Groups.{GroupOutput}

-- of so many pictures, none of which is there yet
abbrev pub empty_places : Emit → ℕ → List (List ℕ)
empty_places Stream count = []
empty_places Recon count = replicate count []

-- with these bytes in a place, where pictures are emitted
abbrev pub put_in : Emit → List (List ℕ) → ℕ → List ℕ → List (List ℕ)
put_in Stream shown number bytes = shown
put_in Recon shown number bytes = set shown number bytes

-- what is shown of a padded picture is in its place
pub record PutsShown
    (cfg : Settings) (number : ℕ) (picture : Picture) (old new : GroupOutput) : Type 0 where
  pub slices : new.slices ≡ old.slices
  pub shown :
      new.shown ≡ put_in cfg.emit old.shown number (raw (crop picture cfg.width cfg.height))
