-- The pictures of a group that is to be encoded.
use Rattle.std.specs.Prelude.{ℕ, ◌≤◌, List, [], ◌∷◌, ◌++◌, length, All}
use Rattle.hv_types.specs.declared.settings.Settings.{Settings}
use Rattle.hv_types.specs.declared.picture.Picture.{Picture}
use Rattle.hv_types.specs.Video.{picture_of, pad, IsPadded}

-- the settings, and the padded pictures in output order
pub record GroupInput : Type 0 where
  pub config : Settings
  pub pictures : List Picture

-- no more pictures than a group may have, which is 64 at most, each of the padded sides
pub record IsGroup (g : GroupInput) : Type 0 where
  pub most : g.config.group ≤ 64
  pub few : length g.pictures ≤ g.config.group
  pub padded : All (IsPadded g.config) g.pictures

-- the group with one picture more: that of these bytes, padded
abbrev pub with_picture : GroupInput → List ℕ → GroupInput
with_picture g raw =
    record g { pictures = g.pictures ++ pad (picture_of g.config.width g.config.height raw) ∷ [] }
