-- Video: pictures, their bytes, and how they are padded and cropped.
use Rattle.std.specs.Prelude.{ℕ, ◌+◌, ◌*◌, ◌/◌, List, ◌++◌, length, take, drop}
use Rattle.hv_types.specs.Configuration.{next_multiple, padded_width, padded_height, picture_bytes_of}
use Rattle.hv_lemmas.specs.Lists.{tabulate}
use Rattle.hv_types.specs.Samples.{Plane, IsPlane, HasByteSamples, plane_by_rows, pad_plane, crop_plane}
use Rattle.hv_types.specs.declared.settings.Settings.{Settings}
use Rattle.hv_types.specs.declared.picture.Picture.{Picture}

-- three whole planes: luma of these sides, and Cb and Cr of half of each
pub record IsPicture (width height : ℕ) (p : Picture) : Type 0 where
  pub luma : IsPlane width height p.luma
  pub cb : IsPlane (width / 2) (height / 2) p.cb
  pub cr : IsPlane (width / 2) (height / 2) p.cr

-- each sample of each plane is a byte
pub record HasBytes (p : Picture) : Type 0 where
  pub luma : HasByteSamples p.luma
  pub cb : HasByteSamples p.cb
  pub cr : HasByteSamples p.cr

-- the bytes of a picture: luma, then Cb, then Cr
abbrev pub raw : Picture → List ℕ
raw p = p.luma.samples ++ (p.cb.samples ++ p.cr.samples)

-- the plane whose samples stand at the front of a list
abbrev pub front_plane : ℕ → ℕ → List ℕ → Plane
front_plane w h bytes = plane_by_rows w h (take (w * h) bytes)

-- the picture whose bytes stand at the front of a list
abbrev pub picture_of : ℕ → ℕ → List ℕ → Picture
picture_of w h bytes = record {
  luma = front_plane w h bytes;
  cb = front_plane (w / 2) (h / 2) (drop (w * h) bytes);
  cr = front_plane (w / 2) (h / 2) (drop (w * h + w / 2 * (h / 2)) bytes);
}

-- how many whole pictures stand at the front of a list of bytes
abbrev pub picture_count : ℕ → ℕ → List ℕ → ℕ
picture_count w h bytes = length bytes / picture_bytes_of w h

-- the whole pictures at the front of a list of bytes
abbrev pub pictures : ℕ → ℕ → List ℕ → List Picture
pictures w h bytes =
    tabulate (picture_count w h bytes) (λ i. picture_of w h (drop (i * picture_bytes_of w h) bytes))

-- the bytes after them
abbrev pub rest : ℕ → ℕ → List ℕ → List ℕ
rest w h bytes = drop (picture_count w h bytes * picture_bytes_of w h) bytes

-- a side in luma samples, padded
abbrev pub padded_side : ℕ → ℕ
padded_side n = next_multiple 8 n

-- each side of luma is padded to the next multiple of 8, and those of Cb and Cr to half of it
abbrev pub pad : Picture → Picture
pad p = record {
  luma = pad_plane p.luma (padded_side p.luma.width) (padded_side p.luma.height);
  cb = pad_plane p.cb (padded_side p.luma.width / 2) (padded_side p.luma.height / 2);
  cr = pad_plane p.cr (padded_side p.luma.width / 2) (padded_side p.luma.height / 2);
}

-- a whole picture of the padded sides
abbrev pub IsPadded : Settings → Picture → Type 0
IsPadded config p = IsPicture (padded_width config) (padded_height config) p

-- what is shown of a padded picture
abbrev pub crop : Picture → ℕ → ℕ → Picture
crop p w h = record {
  luma = crop_plane p.luma w h;
  cb = crop_plane p.cb (w / 2) (h / 2);
  cr = crop_plane p.cr (w / 2) (h / 2);
}
