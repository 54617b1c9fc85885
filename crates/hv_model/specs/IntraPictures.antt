-- The one-thread encoder where each coding unit is predicted within its picture, at any effort:
-- what a picture is coded as, the picture that a decoder shows of it, and the stream of a video. In
-- groups of one picture, where each is an IDR picture, there is nothing else to predict from. In
-- larger groups the units of P pictures are predicted within them too.
use Rattle.std.specs.Prelude.{ℕ, List, [], ◌∷◌, ◌++◌, length, map, flat_map, slice_index_or}
use Rattle.hv_types.specs.declared.settings.Settings.{Settings}
use Rattle.hv_types.specs.declared.settings.Emit.{Emit}
use Rattle.hv_types.specs.declared.settings.Emit.TheVariants.{Stream, Recon}
use Rattle.hv_types.specs.declared.picture.Picture.{Picture}
use Rattle.hv_types.specs.Configuration.{padded_width, padded_height}
use Rattle.hv_types.specs.Video.{raw, pad, crop}
use Rattle.hv_plan.specs.declared.offsets.SaoParam.{SaoParam}
use Rattle.hv_group_model.specs.Structure.{coding, rising}
use Rattle.hv_stream_model.specs.Units.{unit_bytes}
use Rattle.hv_stream_model.specs.Headers.{SliceHeader, used_count, parameter_sets}
use Rattle.hv_tree_model.specs.Trees.{Tree, CodingTreeUnit}
use Rattle.hv_tree_model.specs.Sites.{Site}
use Rattle.hv_tree_model.specs.Validity.{is_empty}
use Rattle.hv_recon_model.specs.Reconstruction.{nothing_decoded, picture_of}
use Rattle.hv_filter_model.specs.FlatPictures.{flat_picture}
use Rattle.hv_deblock_model.specs.EdgeStrength.{Squares}
use Rattle.hv_deblock_model.specs.Deblocking.{deblocked_picture}
use Rattle.hv_deblock_model.specs.TreeSquares.{squares_of_trees}
use Rattle.hv_deblock_model.specs.InLoopFilters.{made_offsets, shown_picture}
use Rattle.hv_mode_model.specs.ModeDecision.{Task, nothing_found, best_trees, best_decoded}
use Rattle.hv_slice_model.specs.Slices.{picture_sites, header_in, unit_of_slice}
use Rattle.hv_model.specs.Reconstruction.{no_vectors}
use Rattle.hv_model.specs.Encoding.{EncodedGroup, groups_of}

-- ---- a picture with this slice header, from its padded input

abbrev pub picture_task : Settings → SliceHeader → Picture → Task
picture_task cfg header input = record {
  effort = cfg.effort;
  qp = header.qp;
  input = input;
  slice_type = header.slice_type;
  references = used_count header.references;
  distances = [];
  vectors = nothing_found;
}

-- the trees of its blocks, in raster order
abbrev pub chosen_trees : Settings → SliceHeader → Picture → List Tree
chosen_trees cfg header input =
    best_trees (picture_task cfg header input) (picture_sites cfg) [] (nothing_decoded [])

-- what they are decoded to, before the in-loop filters
abbrev pub unfiltered : Settings → SliceHeader → Picture → Picture
unfiltered cfg header input =
    picture_of (padded_width cfg) (padded_height cfg)
    (best_decoded (picture_task cfg header input) (picture_sites cfg) [] (nothing_decoded []))

-- how its squares are coded
abbrev pub picture_squares : Settings → SliceHeader → Picture → Squares
picture_squares cfg header input =
    squares_of_trees (padded_width cfg) no_vectors (chosen_trees cfg header input)

-- the picture between the in-loop filters (8.7.2)
abbrev pub working_picture : Settings → SliceHeader → Picture → Picture
working_picture cfg header input =
    deblocked_picture header.qp (picture_squares cfg header input) (unfiltered cfg header input)

-- the sample adaptive offsets of its blocks, from the input and the deblocked picture
abbrev pub picture_sao : Settings → SliceHeader → Picture → List SaoParam
picture_sao cfg header input =
    made_offsets cfg.effort header.qp (picture_squares cfg header input) input
    (unfiltered cfg header input)

-- the picture behind both filters, before it is cropped
abbrev pub recon_picture : Settings → SliceHeader → Picture → Picture
recon_picture cfg header input =
    shown_picture cfg.effort header.qp (picture_squares cfg header input) input
    (unfiltered cfg header input)

-- ---- its coding tree units

-- those of these blocks, as far as there are trees and offsets: the last one ends the slice
abbrev pub tree_units : List Site → List Tree → List SaoParam → List CodingTreeUnit
tree_units [] trees offsets = []
tree_units (site ∷ sites) [] offsets = []
tree_units (site ∷ sites) (tree ∷ trees) [] = []
tree_units (site ∷ sites) (tree ∷ trees) (sao ∷ offsets) =
    record { sao = sao; tree = tree; end_of_slice_segment_flag = is_empty sites } ∷
    tree_units sites trees offsets

abbrev pub coded_units : Settings → SliceHeader → Picture → List CodingTreeUnit
coded_units cfg header input =
    tree_units (picture_sites cfg) (chosen_trees cfg header input) (picture_sao cfg header input)

-- ---- a group

-- the padded picture of this number
abbrev pub input_picture : List Picture → ℕ → Picture
input_picture pictures number = pad (slice_index_or pictures number (flat_picture 0 0 0 0 0))

-- the unit of the picture of this number
abbrev pub picture_unit : Settings → List Picture → ℕ → List ℕ
picture_unit cfg pictures number =
    let header = header_in cfg (length pictures) number in
    unit_bytes
    (unit_of_slice header (picture_sites cfg)
    (coded_units cfg header (input_picture pictures number)))

-- the picture of this number that is shown
abbrev pub picture_shown : Settings → List Picture → ℕ → Picture
picture_shown cfg pictures number =
    crop
    (recon_picture cfg (header_in cfg (length pictures) number) (input_picture pictures number))
    cfg.width cfg.height

-- of pictures in output order
abbrev pub encode_group : Settings → List Picture → EncodedGroup
encode_group cfg pictures = record {
  units =
      map (λ coded. picture_unit cfg pictures coded.picture)
      (coding (length pictures) cfg.levels);
  shown = map (picture_shown cfg pictures) (rising (length pictures) 0);
}

-- the bytes of a group
abbrev pub group_bytes : Settings → List Picture → List ℕ
group_bytes cfg pictures = flat_map (λ unit. unit) (encode_group cfg pictures).units

-- ---- a video

-- the byte stream: nothing for no pictures
abbrev pub encode_of : Settings → List Picture → List ℕ
encode_of cfg [] = []
encode_of cfg (picture ∷ pictures) =
    parameter_sets cfg ++ flat_map (group_bytes cfg) (groups_of cfg (picture ∷ pictures))

-- the reconstructed pictures, cropped, in output order
abbrev pub recon_of : Settings → List Picture → List Picture
recon_of cfg pictures = flat_map (λ group. (encode_group cfg group).shown) (groups_of cfg pictures)

abbrev pub output_as : Emit → Settings → List Picture → List ℕ
output_as Stream cfg pictures = encode_of cfg pictures
output_as Recon cfg pictures = flat_map raw (recon_of cfg pictures)

-- what is written out
abbrev pub output : Settings → List Picture → List ℕ
output cfg pictures = output_as cfg.emit cfg pictures
