-- The first picture of a group, which is an I slice without reference pictures, is coded as one
-- that is predicted within it; and so are groups and videos that have no others.
use Rattle.std.proofs.Common.{◌≡◌, ℕ, ◌≤◌, List, [], ◌∷◌, ◌++◌, length, refl, ap, ap₂, ◌∙◌, arith}
use Rattle.std.specs.Prelude.{flat_map}
use Rattle.hv_types.specs.declared.settings.Settings.{Settings}
use Rattle.hv_types.specs.declared.picture.Picture.{Picture}
use Rattle.hv_types.specs.Configuration.{padded_width, padded_height}
use Rattle.hv_types.specs.Video.{crop}
use Rattle.hv_stream_model.specs.Units.{unit_bytes}
use Rattle.hv_stream_model.specs.Headers.{SliceHeader, parameter_sets}
use Rattle.hv_tree_model.specs.Trees.{Tree, CodingTreeUnit}
use Rattle.hv_recon_model.specs.Reconstruction.{nothing_decoded, picture_of}
use Rattle.hv_deblock_model.specs.TreeSquares.{squares_of_trees}
use Rattle.hv_deblock_model.specs.InLoopFilters.{made_offsets, shown_picture}
use Rattle.hv_mode_model.specs.ModeDecision.{nothing_found, coded_trees}
use Rattle.hv_slice_model.specs.Slices.{picture_sites, header_in, unit_of_slice}
use Rattle.hv_model.specs.Reconstruction.{no_vectors, vectors_of}
use Rattle.hv_model.specs.Encoding.{groups_of}
use Rattle.hv_model.specs.IntraPictures.{tree_units, input_picture, chosen_trees as intra_trees, unfiltered as intra_unfiltered, picture_squares as intra_squares, coded_units as intra_units, recon_picture as intra_recon, encode_group as intra_group, group_bytes as intra_bytes, encode_of as intra_stream}
use Rattle.hv_model.specs.InterPictures.{PictureSource, picture_task, before_first, chosen_trees, unfiltered, picture_squares, coded_units, recon_picture, source_at, encode_group, group_bytes, encode_of}
use Rattle.hv_model.specs.InterStreamLaws.{AreGroups}
use Rattle.hv_model.specs.InterCases.{IsIntraVideo, FirstPicturesAreIntra, SingleGroupsAreIntra, SingleVideosAreIntra}
use Rattle.hv_model.proofs.GroupLemmas.{groups_are}
use Rattle.hv_model.proofs.IntraTreeLemmas.{any_vectors}
use Rattle.hv_model.proofs.IntraUnitLemmas.{are_intra}
use Rattle.hv_model.proofs.InterStreamLemmas.{pictures_follow}
use Rattle.hv_model.proofs.ISliceLemmas.{coded_as_chosen, same_trees, same_decoded}

-- ---- the first picture of a group

module _ (cfg : Settings) (group : List Picture) where
  abbrev header : SliceHeader
  header = header_in cfg (length group) 0

  abbrev input : Picture
  input = input_picture group 0

  abbrev source : PictureSource
  source = source_at cfg group 0

  trees_alike : chosen_trees cfg source ≡ intra_trees cfg header input
  trees_alike =
      same_trees (picture_task cfg source) refl nothing_found (picture_sites cfg) []
      (nothing_decoded [])

  coded_alike :
      coded_trees (picture_task cfg source) (picture_sites cfg) [] (before_first source) ≡
      intra_trees cfg header input
  coded_alike =
      coded_as_chosen (picture_task cfg source) refl (picture_sites cfg) [] (nothing_decoded []) ∙
      trees_alike

  decoded_alike : unfiltered cfg source ≡ intra_unfiltered cfg header input
  decoded_alike =
      ap (picture_of (padded_width cfg) (padded_height cfg))
      (same_decoded (picture_task cfg source) refl nothing_found (picture_sites cfg) []
      (nothing_decoded []))

  squares_alike : picture_squares cfg source ≡ intra_squares cfg header input
  squares_alike =
      let w : ℕ = padded_width cfg in
      let trees : List Tree = intra_trees cfg header input in
      ap (λ (list : List Tree). squares_of_trees w (vectors_of w list) list) trees_alike ∙
      any_vectors 0 (picture_sites cfg) trees w (vectors_of w trees) no_vectors
      (are_intra cfg header input)

  units_alike : coded_units cfg source ≡ intra_units cfg header input
  units_alike = λ i.
      tree_units (picture_sites cfg) (coded_alike i)
      (made_offsets cfg.effort header.qp (squares_alike i) input (decoded_alike i))

  recon_alike : recon_picture cfg source ≡ intra_recon cfg header input
  recon_alike = λ i.
      shown_picture cfg.effort header.qp (squares_alike i) input (decoded_alike i)

pub first_intra : FirstPicturesAreIntra
first_intra cfg group = record {
  unit =
      ap (λ (units : List CodingTreeUnit).
      unit_bytes (unit_of_slice (header_in cfg (length group) 0) (picture_sites cfg) units))
      (units_alike cfg group);
  shown =
      ap (λ picture. crop picture cfg.width cfg.height)
      (pictures_follow cfg group 0 ∙ recon_alike cfg group);
}

-- ---- groups that have no others

pub single_group_intra : SingleGroupsAreIntra
single_group_intra cfg picture =
    let first = first_intra cfg (picture ∷ []) in
    λ i. record { units = first.unit i ∷ []; shown = first.shown i ∷ [] }

-- or no picture at all
pub few_intra : (cfg : Settings) (group : List Picture) → length group ≤ 1 →
    encode_group cfg group ≡ intra_group cfg group
few_intra cfg [] few =
    let first = first_intra cfg [] in λ i. record { units = first.unit i ∷ []; shown = [] }
few_intra cfg (picture ∷ []) few = single_group_intra cfg picture
few_intra cfg (picture ∷ next ∷ pictures) few = absurd (omega (arith, few))

-- ---- videos whose groups are all such

groups_alike : {A : Type 0} (one other : List Picture → List A) (most : ℕ)
    (groups : List (List Picture)) →
    ((group : List Picture) → length group ≤ most → one group ≡ other group) →
    AreGroups most groups → flat_map one groups ≡ flat_map other groups
groups_alike one other most [] same are = refl
groups_alike one other most (group ∷ groups) same are =
    ap₂ (λ first others. first ++ others) (same group are.1)
    (groups_alike one other most groups same are.2)

module _ (cfg : Settings) (some : 1 ≤ cfg.group)
    (same : (group : List Picture) → length group ≤ cfg.group →
    encode_group cfg group ≡ intra_group cfg group) where
  stream_alike : (pictures : List Picture) → encode_of cfg pictures ≡ intra_stream cfg pictures
  stream_alike [] = refl
  stream_alike (picture ∷ pictures) =
      ap (λ bytes. parameter_sets cfg ++ bytes)
      (groups_alike (group_bytes cfg) (intra_bytes cfg) cfg.group
      (groups_of cfg (picture ∷ pictures))
      (λ group few. ap (λ coded. flat_map (λ unit. unit) coded.units) (same group few))
      (groups_are cfg (picture ∷ pictures) some))

  pub video_alike : (pictures : List Picture) → IsIntraVideo cfg pictures
  video_alike pictures = record {
    stream = stream_alike pictures;
    shown =
        groups_alike (λ group. (encode_group cfg group).shown)
        (λ group. (intra_group cfg group).shown) cfg.group (groups_of cfg pictures)
        (λ group few. ap (λ coded. coded.shown) (same group few))
        (groups_are cfg pictures some);
  }

pub single_video_intra : SingleVideosAreIntra
single_video_intra cfg pictures one =
    video_alike cfg (omega (arith, one))
    (λ group few. few_intra cfg group (omega (arith, few, one))) pictures
