-- What holds when the top call has answered: of the bytes that a source had `before` the call and
-- has `now`, and of those that a sink had `old` and has `new`, where source and sink tell their
-- bytes.
use Rattle.std.specs.Prelude.{◌≡◌, ◌⊎◌, ℕ, ◌+◌, ◌-◌, ◌*◌, ◌/◌, ◌<◌, ◌≤◌, List, [], length, take, drop, Option, Some}
use Rattle.hv_types.specs.declared.settings.Settings.{Settings}
use Rattle.hv_types.specs.declared.picture.Picture.{Picture}
use Rattle.hv_types.specs.Configuration.{most_pictures, picture_bytes}
use Rattle.hv_types.specs.Video.{pictures, rest}
use Rattle.hv_model.specs.InterPictures.{output}
use Rattle.hv_serial.specs.Transfers.{Grows, PutsPart}

-- ---- what was read

abbrev pub pictures_in : Settings → List ℕ → List Picture
pictures_in cfg bytes = pictures cfg.width cfg.height bytes

abbrev pub rest_in : Settings → List ℕ → List ℕ
rest_in cfg bytes = rest cfg.width cfg.height bytes

-- the pictures in the bytes by which what is left fell
abbrev pub pictures_read : Settings → List ℕ → List ℕ → List Picture
pictures_read cfg bytes left = pictures_in cfg (take (length bytes - length left) bytes)

-- the input was read to its end, and is whole pictures, no more than a video may have
pub record IsReadToEnd (cfg : Settings) (bytes : List ℕ) (now : Option (List ℕ)) : Type 0 where
  pub left : now ≡ Some []
  pub no_rest : rest_in cfg bytes ≡ []
  pub few : length (pictures_in cfg bytes) ≤ most_pictures

-- the input ended within a picture, of which it has so many bytes
pub record EndsWithin (cfg : Settings) (have : ℕ) (bytes : List ℕ) (now : Option (List ℕ)) :
    Type 0 where
  pub left : now ≡ Some []
  pub part : have ≡ length (rest_in cfg bytes)
  pub some : 0 < have
  pub short : have < picture_bytes cfg
  pub few : length (pictures_in cfg bytes) < most_pictures

-- one byte more was read behind all the pictures that a video may have
pub record GoesOn (cfg : Settings) (bytes : List ℕ) (now : Option (List ℕ)) : Type 0 where
  pub more : most_pictures * picture_bytes cfg < length bytes
  pub left : now ≡ Some (drop (most_pictures * picture_bytes cfg + 1) bytes)

-- ---- what was written

-- the groups of n pictures, of which the last may be smaller
abbrev pub group_count : Settings → ℕ → ℕ
group_count cfg n = (n + (cfg.group - 1)) / cfg.group

-- the greatest multiple of the group's size that is at most n
abbrev pub whole_groups : Settings → ℕ → ℕ
whole_groups cfg n = n / cfg.group * cfg.group

-- all groups that were read whole are written
abbrev pub WroteGroups : Settings → List ℕ → List ℕ → Option (List ℕ) → Option (List ℕ) → Type 0
WroteGroups cfg bytes left old new =
    let v = pictures_read cfg bytes left in
    Grows old new (output cfg (take (whole_groups cfg (length v)) v))

-- m of the pictures read are whole groups, or all pictures of an input that was read to its end
pub record AreGroups (cfg : Settings) (bytes left : List ℕ) (m : ℕ) : Type 0 where
  pub few : m ≤ length (pictures_read cfg bytes left)
  pub whole :
      (m ≡ whole_groups cfg m) ⊎
      ((left ≡ []) × (rest_in cfg bytes ≡ []) × (m ≡ length (pictures_in cfg bytes)))

-- some groups are written
pub record WroteSome (cfg : Settings) (bytes left : List ℕ) (old new : Option (List ℕ)) :
    Type 0 where
  pub m : ℕ
  pub groups : AreGroups cfg bytes left m
  pub wrote : Grows old new (output cfg (take m (pictures_read cfg bytes left)))

-- a part of some groups is written, from their first byte on
pub record WrotePart (cfg : Settings) (bytes left : List ℕ) (old new : Option (List ℕ)) :
    Type 0 where
  pub m : ℕ
  pub groups : AreGroups cfg bytes left m
  pub wrote : PutsPart old new (output cfg (take m (pictures_read cfg bytes left)))
