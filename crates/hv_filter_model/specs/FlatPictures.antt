-- Pictures whose planes have one value each.
use Rattle.std.specs.Prelude.{ℕ, ◌/◌}
use Rattle.hv_types.specs.declared.picture.Picture.{Picture}
use Rattle.hv_types.specs.Samples.{filled_plane}

-- of these luma sides, with one value for each component
abbrev pub flat_picture : ℕ → ℕ → ℕ → ℕ → ℕ → Picture
flat_picture width height luma cb cr = record {
  luma = filled_plane width height luma;
  cb = filled_plane (width / 2) (height / 2) cb;
  cr = filled_plane (width / 2) (height / 2) cr;
}
