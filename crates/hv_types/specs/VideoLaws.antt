-- What holds of padding, of cropping, and of pictures in a row of bytes.
use Rattle.std.specs.Prelude.{◌≡◌, ℕ, ◌<◌, ◌≤◌, List, ◌++◌, length, take, All}
use Rattle.std.specs.List.{flat_map}
use Rattle.hv_types.specs.Configuration.{picture_bytes_of}
use Rattle.hv_lemmas.specs.Lists.{tabulate}
use Rattle.hv_types.specs.Video.{IsPicture, HasBytes, raw, picture_of, pictures, rest, padded_side, pad, crop}
use Rattle.hv_types.specs.declared.picture.Picture.{Picture}

-- as many values as are asked
abbrev pub TabulateCounts : Type 0 → Type 0
TabulateCounts A = (n : ℕ) (f : ℕ → A) → length (tabulate n f) ≡ n

-- what is shown of a padded picture is the picture
abbrev pub CropUndoesPad : Type 0
CropUndoesPad = (w h : ℕ) (p : Picture) → IsPicture w h p → crop (pad p) w h ≡ p

-- a padded picture is whole, and has the padded sides
abbrev pub PadGivesPicture : Type 0
PadGivesPicture =
    (w h : ℕ) (p : Picture) → IsPicture w h p → IsPicture (padded_side w) (padded_side h) (pad p)

-- a whole picture has so many bytes
abbrev pub CountsRaw : Type 0
CountsRaw = (w h : ℕ) (p : Picture) → IsPicture w h p → length (raw p) ≡ picture_bytes_of w h

-- the picture at the front of the bytes is whole, and its bytes are those at the front
pub record IsFront (w h : ℕ) (bytes : List ℕ) : Type 0 where
  pub whole : IsPicture w h (picture_of w h bytes)
  pub bytes_again : raw (picture_of w h bytes) ≡ take (picture_bytes_of w h) bytes

abbrev pub FrontIsPicture : Type 0
FrontIsPicture =
    (w h : ℕ) (bytes : List ℕ) →
    2 ≤ w → 2 ≤ h → picture_bytes_of w h ≤ length bytes → IsFront w h bytes

-- whole pictures one after another, and then too few bytes for one more, read as they are
pub record ReadAs (w h : ℕ) (ps : List Picture) (bs bytes : List ℕ) : Type 0 where
  pub pictures_again : pictures w h bytes ≡ ps
  pub rest_again : rest w h bytes ≡ bs

abbrev pub PicturesReadBack : Type 0
PicturesReadBack =
    (w h : ℕ) (ps : List Picture) (bs : List ℕ) →
    All (IsPicture w h) ps → length bs < picture_bytes_of w h →
    ReadAs w h ps bs (flat_map raw ps ++ bs)

-- bytes are their whole pictures and the rest, which is too short for a picture
pub record IsSplit (w h : ℕ) (bytes : List ℕ) : Type 0 where
  pub whole : All (IsPicture w h) (pictures w h bytes)
  pub short : length (rest w h bytes) < picture_bytes_of w h
  pub joined : flat_map raw (pictures w h bytes) ++ rest w h bytes ≡ bytes

abbrev pub BytesAreSplit : Type 0
BytesAreSplit = (w h : ℕ) (bytes : List ℕ) → 2 ≤ w → 2 ≤ h → IsSplit w h bytes

-- no sample leaves 0 to 255
pub record KeepBytes : Type 0 where
  pub of_front :
      (w h : ℕ) (bytes : List ℕ) → All (λ b. b < 256) bytes → HasBytes (picture_of w h bytes)
  pub of_pad : (p : Picture) → HasBytes p → HasBytes (pad p)
  pub of_crop : (w h : ℕ) (p : Picture) → HasBytes p → HasBytes (crop p w h)
  pub of_raw : (p : Picture) → HasBytes p → All (λ b. b < 256) (raw p)
