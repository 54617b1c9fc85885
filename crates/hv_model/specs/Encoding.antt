-- The one-thread encoder: the bytes that are written for a list of pictures, and the pictures that
-- a decoder shows. So far at effort 0, which chooses nothing.
use Rattle.std.specs.Prelude.{ℕ, zero, suc, ◌-◌, List, [], ◌∷◌, ◌++◌, length, map, flat_map, take, drop}
use Rattle.hv_types.specs.declared.settings.Settings.{Settings}
use Rattle.hv_types.specs.declared.settings.Emit.{Emit}
use Rattle.hv_types.specs.declared.settings.Emit.TheVariants.{Stream, Recon}
use Rattle.hv_types.specs.Configuration.{padded_width, padded_height}
use Rattle.hv_types.specs.declared.picture.Picture.{Picture}
use Rattle.hv_types.specs.Video.{raw, crop}
use Rattle.hv_stream_model.specs.Units.{unit_bytes}
use Rattle.hv_stream_model.specs.Headers.{parameter_sets}
use Rattle.hv_group_model.specs.Structure.{coding}
use Rattle.hv_tree_model.specs.Trees.{CodingTreeUnit}
use Rattle.hv_tree_model.specs.Sites.{Site}
use Rattle.hv_slice_model.specs.BlankUnits.{blank_units}
use Rattle.hv_slice_model.specs.Slices.{picture_sites, header_in, unit_of_slice}
use Rattle.hv_recon_model.specs.BlankLaws.{grey}

-- ---- a picture of a group

-- the coding tree units of these blocks, of which the last one ends the slice
abbrev pub coded_units : List Site → List CodingTreeUnit
coded_units sites = blank_units sites

-- the unit of a picture of a group of so many
abbrev pub picture_unit : Settings → ℕ → ℕ → List ℕ
picture_unit cfg count picture =
    unit_bytes
    (unit_of_slice (header_in cfg count picture) (picture_sites cfg)
    (coded_units (picture_sites cfg)))

-- the reconstruction of a picture before it is cropped: where nothing is chosen, every sample is
-- the middle one, before the in-loop filters and behind them
abbrev pub recon_picture : Settings → Picture
recon_picture cfg = grey (padded_width cfg) (padded_height cfg)

-- ---- a group

pub record EncodedGroup : Type 0 where
  -- in coding order
  pub units : List (List ℕ)
  -- the reconstructed pictures, cropped, in output order
  pub shown : List Picture

-- of pictures in output order
abbrev pub encode_group : Settings → List Picture → EncodedGroup
encode_group cfg pictures = record {
  units =
      map (λ coded. picture_unit cfg (length pictures) coded.picture)
      (coding (length pictures) cfg.levels);
  shown = map (λ picture. crop (recon_picture cfg) cfg.width cfg.height) pictures;
}

-- the bytes of a group
abbrev pub group_bytes : Settings → List Picture → List ℕ
group_bytes cfg pictures = flat_map (λ unit. unit) (encode_group cfg pictures).units

-- ---- a video

-- at most so many groups: a picture and those behind it that its group has room for, and so on
abbrev pub groups_within : ℕ → ℕ → List Picture → List (List Picture)
groups_within most size [] = []
groups_within zero size (picture ∷ pictures) = []
groups_within (suc most) size (picture ∷ pictures) =
    (picture ∷ take (size - 1) pictures) ∷ groups_within most size (drop (size - 1) pictures)

-- its groups, of which the last one may have fewer pictures
abbrev pub groups_of : Settings → List Picture → List (List Picture)
groups_of cfg pictures = groups_within (length pictures) cfg.group pictures

-- the byte stream: nothing for no pictures
abbrev pub encode_of : Settings → List Picture → List ℕ
encode_of cfg [] = []
encode_of cfg (picture ∷ pictures) =
    parameter_sets cfg ++ flat_map (group_bytes cfg) (groups_of cfg (picture ∷ pictures))

-- the reconstructed pictures, cropped, in output order
abbrev pub recon_of : Settings → List Picture → List Picture
recon_of cfg pictures = flat_map (λ group. (encode_group cfg group).shown) (groups_of cfg pictures)

abbrev pub output_as : Emit → Settings → List Picture → List ℕ
output_as Stream cfg pictures = encode_of cfg pictures
output_as Recon cfg pictures = flat_map raw (recon_of cfg pictures)

-- what is written out
abbrev pub output : Settings → List Picture → List ℕ
output cfg pictures = output_as cfg.emit cfg pictures
