-- With the settings that the program is built for so far, groups and videos are those of the
-- encoder that predicts units within their pictures.
use Rattle.std.proofs.Common.{◌≡◌, ℕ, List, length, map, inl, inr, sym, ap, ◌∙◌, arith}
use Rattle.std.specs.Prelude.{◌⊎◌, flat_map}
use Rattle.hv_types.specs.declared.settings.Settings.{Settings}
use Rattle.hv_types.specs.declared.settings.Emit.{Emit}
use Rattle.hv_types.specs.declared.settings.Emit.TheVariants.{Stream, Recon}
use Rattle.hv_types.specs.declared.picture.Picture.{Picture}
use Rattle.hv_types.specs.Configuration.{IsValid}
use Rattle.hv_types.specs.Video.{raw, crop}
use Rattle.hv_group_model.specs.Structure.{coding, rising}
use Rattle.hv_group_model.proofs.NumberListLemmas.{length-rising}
use Rattle.hv_stream_model.specs.Units.{unit_bytes}
use Rattle.hv_tree_model.specs.Trees.{CodingTreeUnit}
use Rattle.hv_slice_model.specs.Slices.{picture_sites, header_in, unit_of_slice}
use Rattle.hv_model.specs.Encoding.{recon_picture as grey_picture, picture_unit as blank_unit, encode_group as blank_group}
use Rattle.hv_model.specs.IntraPictures.{input_picture, picture_unit as intra_unit, picture_shown as intra_shown, encode_group as intra_group, output_as as intra_output_as}
use Rattle.hv_model.specs.IntraLaws.{NothingIsChosenAtEffortZero}
use Rattle.hv_model.specs.InterPictures.{encode_group, output_as}
use Rattle.hv_model.specs.InterCases.{IsIntraVideo, GroupsAreBlankAtEffortZero, BuiltGroupsAreIntra, BuiltVideosAreIntra, BuiltOutputsAreIntra}
use Rattle.hv_model.proofs.GroupShownLemmas.{alike}
use Rattle.hv_model.proofs.InterCaseLemmas.{few_intra, video_alike}

-- ---- a group of pictures that are predicted within them, at effort 0

module _ (law : NothingIsChosenAtEffortZero) (cfg : Settings) (valid : IsValid cfg)
    (none : cfg.effort ≡ 0) (group : List Picture) where
  unit_blank : (number : ℕ) → intra_unit cfg group number ≡ blank_unit cfg (length group) number
  unit_blank number =
      ap (λ (units : List CodingTreeUnit).
      unit_bytes (unit_of_slice (header_in cfg (length group) number) (picture_sites cfg) units))
      (law cfg (header_in cfg (length group) number) (input_picture group number) valid none).units

  number_grey : (number : ℕ) →
      intra_shown cfg group number ≡ crop (grey_picture cfg) cfg.width cfg.height
  number_grey number =
      ap (λ picture. crop picture cfg.width cfg.height)
      (law cfg (header_in cfg (length group) number) (input_picture group number) valid none).shown

  all_grey : map (intra_shown cfg group) (rising (length group) 0) ≡
      map (λ picture. crop (grey_picture cfg) cfg.width cfg.height) group
  all_grey =
      (λ i. map (λ number. number_grey number i) (rising (length group) 0)) ∙
      alike (crop (grey_picture cfg) cfg.width cfg.height) (rising (length group) 0) group
      (length-rising (length group) 0)

  group_blank : intra_group cfg group ≡ blank_group cfg group
  group_blank = λ i. record {
    units = map (λ coded. unit_blank coded.picture i) (coding (length group) cfg.levels);
    shown = all_grey i;
  }

-- ---- at effort 0, or in groups of one picture

pub built_groups : NothingIsChosenAtEffortZero → GroupsAreBlankAtEffortZero → BuiltGroupsAreIntra
built_groups intra blank cfg group built few = by_case built.predicted
  where
    by_case : (cfg.effort ≡ 0) ⊎ (cfg.group ≡ 1) →
        encode_group cfg group ≡ intra_group cfg group
    by_case (inl none) =
        blank cfg group built.valid none ∙ sym (group_blank intra cfg built.valid none group)
    by_case (inr one) = few_intra cfg group (omega (arith, few, one))

pub built_videos : BuiltGroupsAreIntra → BuiltVideosAreIntra
built_videos law cfg pictures built =
    video_alike cfg built.valid.group_least (λ group few. law cfg group built few) pictures

outputs_alike : (cfg : Settings) (pictures : List Picture) → IsIntraVideo cfg pictures →
    (emit : Emit) → output_as emit cfg pictures ≡ intra_output_as emit cfg pictures
outputs_alike cfg pictures video Stream = video.stream
outputs_alike cfg pictures video Recon = ap (flat_map raw) video.shown

pub built_outputs : BuiltVideosAreIntra → BuiltOutputsAreIntra
built_outputs law cfg pictures built =
    outputs_alike cfg pictures (law cfg pictures built) cfg.emit
