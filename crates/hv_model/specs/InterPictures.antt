-- The one-thread encoder where coding units are predicted from other pictures too: what a picture
-- is coded as, behind the pictures of its group that were coded before it, the picture that a
-- decoder shows of it, and the stream of a video.
use Rattle.std.specs.Prelude.{ℕ, zero, suc, List, [], ◌∷◌, ◌++◌, length, map, flat_map}
use Rattle.hv_types.specs.declared.settings.Settings.{Settings}
use Rattle.hv_types.specs.declared.settings.Emit.{Emit}
use Rattle.hv_types.specs.declared.settings.Emit.TheVariants.{Stream, Recon}
use Rattle.hv_types.specs.declared.picture.Picture.{Picture}
use Rattle.hv_types.specs.Configuration.{padded_width, padded_height}
use Rattle.hv_types.specs.GroupInput.{GroupInput}
use Rattle.hv_types.specs.Video.{raw, pad, crop}
use Rattle.hv_plan.specs.declared.offsets.SaoParam.{SaoParam}
use Rattle.hv_group_model.specs.Structure.{coding, place_in, rising}
use Rattle.hv_search_model.specs.MotionSearch.{motion}
use Rattle.hv_stream_model.specs.Units.{unit_bytes}
use Rattle.hv_stream_model.specs.Headers.{SliceHeader, used_count, parameter_sets}
use Rattle.hv_tree_model.specs.Trees.{Tree, CodingTreeUnit}
use Rattle.hv_recon_model.specs.Reconstruction.{Decoded, nothing_decoded, picture_of}
use Rattle.hv_filter_model.specs.FlatPictures.{flat_picture}
use Rattle.hv_deblock_model.specs.EdgeStrength.{Squares}
use Rattle.hv_deblock_model.specs.TreeSquares.{squares_of_trees}
use Rattle.hv_deblock_model.specs.InLoopFilters.{made_offsets, shown_picture}
use Rattle.hv_mode_model.specs.ModeDecision.{FoundVectors, Task, best_trees, best_decoded, coded_trees}
use Rattle.hv_slice_model.specs.Slices.{list_0, picture_sites, header_in, unit_of_slice}
use Rattle.hv_model.specs.Reconstruction.{DecodedPicture, distances_of, vectors_of}
use Rattle.hv_model.specs.Encoding.{EncodedGroup, groups_of}
use Rattle.hv_model.specs.IntraPictures.{tree_units, input_picture}

-- ---- a picture

-- what a picture is coded from
pub record PictureSource : Type 0 where
  pub header : SliceHeader
  -- list 0
  pub references : List DecodedPicture
  -- what motion search found
  pub vectors : FoundVectors
  -- padded
  pub input : Picture

abbrev pub picture_task : Settings → PictureSource → Task
picture_task cfg source = record {
  effort = cfg.effort;
  qp = source.header.qp;
  input = source.input;
  slice_type = source.header.slice_type;
  references = used_count source.header.references;
  distances = distances_of source.header source.references;
  vectors = source.vectors;
}

abbrev pub before_first : PictureSource → Decoded
before_first source = nothing_decoded (map (λ reference. reference.picture) source.references)

-- the trees of its blocks, in raster order, with vectors
abbrev pub chosen_trees : Settings → PictureSource → List Tree
chosen_trees cfg source =
    best_trees (picture_task cfg source) (picture_sites cfg) [] (before_first source)

-- what they are decoded to, before the in-loop filters
abbrev pub unfiltered : Settings → PictureSource → Picture
unfiltered cfg source =
    picture_of (padded_width cfg) (padded_height cfg)
    (best_decoded (picture_task cfg source) (picture_sites cfg) [] (before_first source))

-- how its squares are coded
abbrev pub picture_squares : Settings → PictureSource → Squares
picture_squares cfg source =
    squares_of_trees (padded_width cfg)
    (vectors_of (padded_width cfg) (chosen_trees cfg source)) (chosen_trees cfg source)

-- the sample adaptive offsets of its blocks, from the input and the deblocked picture
abbrev pub picture_sao : Settings → PictureSource → List SaoParam
picture_sao cfg source =
    made_offsets cfg.effort source.header.qp (picture_squares cfg source) source.input
    (unfiltered cfg source)

-- the picture behind both filters, before it is cropped
abbrev pub recon_picture : Settings → PictureSource → Picture
recon_picture cfg source =
    shown_picture cfg.effort source.header.qp (picture_squares cfg source) source.input
    (unfiltered cfg source)

-- its coding tree units, in which differences are coded
abbrev pub coded_units : Settings → PictureSource → List CodingTreeUnit
coded_units cfg source =
    tree_units (picture_sites cfg)
    (coded_trees (picture_task cfg source) (picture_sites cfg) [] (before_first source))
    (picture_sao cfg source)

-- ---- a picture of a group

-- the group of padded pictures, in which motion search looks
abbrev pub group_input : Settings → List Picture → GroupInput
group_input cfg pictures = record { config = cfg; pictures = map pad pictures }

-- where the pictures of these numbers were decoded so
abbrev pub source_behind : Settings → List Picture → (ℕ → Picture) → ℕ → PictureSource
source_behind cfg pictures decoded number =
    let header = header_in cfg (length pictures) number in record {
      header = header;
      references =
          map (λ count. record { PicOrderCntVal = count; picture = decoded count })
          (list_0 header);
      vectors = motion (group_input cfg pictures) number;
      input = input_picture pictures number;
    }

-- the picture of a number, before it is cropped, where so many are decoded with it
unfoldable pub recon_within : Settings → List Picture → ℕ → ℕ → Picture
recon_within cfg pictures zero number = flat_picture 0 0 0 0 0
recon_within cfg pictures (suc places) number =
    recon_picture cfg (source_behind cfg pictures (recon_within cfg pictures places) number)

-- all that come before it in coding order, and itself
abbrev pub recon_at : Settings → List Picture → ℕ → Picture
recon_at cfg pictures number =
    recon_within cfg pictures (suc (place_in (coding (length pictures) cfg.levels) number)) number

abbrev pub source_at : Settings → List Picture → ℕ → PictureSource
source_at cfg pictures number = source_behind cfg pictures (recon_at cfg pictures) number

-- its unit
abbrev pub picture_unit : Settings → List Picture → ℕ → List ℕ
picture_unit cfg pictures number =
    unit_bytes
    (unit_of_slice (header_in cfg (length pictures) number) (picture_sites cfg)
    (coded_units cfg (source_at cfg pictures number)))

-- what is shown of it
abbrev pub picture_shown : Settings → List Picture → ℕ → Picture
picture_shown cfg pictures number = crop (recon_at cfg pictures number) cfg.width cfg.height

-- ---- a group

-- of pictures in output order
abbrev pub encode_group : Settings → List Picture → EncodedGroup
encode_group cfg pictures = record {
  units =
      map (λ coded. picture_unit cfg pictures coded.picture)
      (coding (length pictures) cfg.levels);
  shown = map (picture_shown cfg pictures) (rising (length pictures) 0);
}

-- the bytes of a group
abbrev pub group_bytes : Settings → List Picture → List ℕ
group_bytes cfg pictures = flat_map (λ unit. unit) (encode_group cfg pictures).units

-- ---- a video

-- the byte stream: nothing for no pictures
abbrev pub encode_of : Settings → List Picture → List ℕ
encode_of cfg [] = []
encode_of cfg (picture ∷ pictures) =
    parameter_sets cfg ++ flat_map (group_bytes cfg) (groups_of cfg (picture ∷ pictures))

-- the reconstructed pictures, cropped, in output order
abbrev pub recon_of : Settings → List Picture → List Picture
recon_of cfg pictures = flat_map (λ group. (encode_group cfg group).shown) (groups_of cfg pictures)

abbrev pub output_as : Emit → Settings → List Picture → List ℕ
output_as Stream cfg pictures = encode_of cfg pictures
output_as Recon cfg pictures = flat_map raw (recon_of cfg pictures)

-- what is written out
abbrev pub output : Settings → List Picture → List ℕ
output cfg pictures = output_as cfg.emit cfg pictures
