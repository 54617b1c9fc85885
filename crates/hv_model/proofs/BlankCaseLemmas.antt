-- At effort 0 every picture of a group is blank units and shown grey, whatever it is coded from: so
-- groups and videos are those of the encoder that chooses nothing.
use Rattle.std.proofs.Common.{◌≡◌, ℕ, List, [], ◌∷◌, ◌++◌, length, map, refl, sym, ap, ap₂, ◌∙◌}
use Rattle.std.specs.Prelude.{flat_map}
use Rattle.hv_lemmas.specs.Lists.{tabulate}
use Rattle.hv_lemmas.proofs.OptionLemmas.{some_same}
use Rattle.hv_tables.specs.declared.bins.SliceKind.TheVariants.{I}
use Rattle.hv_types.specs.declared.settings.Settings.{Settings}
use Rattle.hv_types.specs.declared.picture.Picture.{Picture}
use Rattle.hv_types.specs.Configuration.{IsValid, padded_width, padded_height}
use Rattle.hv_types.specs.Video.{crop}
use Rattle.hv_group_model.specs.Structure.{coding, rising}
use Rattle.hv_group_model.proofs.NumberListLemmas.{length-rising}
use Rattle.hv_stream_model.specs.Units.{unit_bytes}
use Rattle.hv_stream_model.specs.Headers.{parameter_sets}
use Rattle.hv_tree_model.specs.Trees.{CodingTreeUnit}
use Rattle.hv_recon_model.specs.BlankLaws.{BlankPicturesAreGrey}
use Rattle.hv_filter_model.specs.SampleAdaptiveOffset.{off_param}
use Rattle.hv_deblock_model.specs.Deblocking.{deblocked_picture}
use Rattle.hv_deblock_model.specs.FlatPictures.{FlatPicturesAreShown}
use Rattle.hv_mode_model.specs.Differences.{trees_with_differences}
use Rattle.hv_mode_model.specs.ModeDecision.{Task, coded_trees}
use Rattle.hv_slice_model.specs.BlankUnits.{blank_tree}
use Rattle.hv_slice_model.specs.Slices.{picture_sites, header_in, unit_of_slice}
use Rattle.hv_model.specs.Reconstruction.{reconstructed}
use Rattle.hv_model.specs.Encoding.{coded_units as blank_units, recon_picture as grey_picture, picture_unit as blank_unit, encode_of as blank_stream, groups_of}
use Rattle.hv_model.specs.IntraPictures.{tree_units}
use Rattle.hv_model.specs.InterPictures.{PictureSource, picture_task, before_first, unfiltered, picture_squares, picture_sao, coded_units, recon_picture, source_at, picture_unit, picture_shown, encode_of}
use Rattle.hv_model.specs.InterCases.{SourcesAreBlankAtEffortZero, GroupsAreBlankAtEffortZero, VideosAreBlankAtEffortZero}
use Rattle.hv_model.proofs.CodedUnitLemmas.{coded_units_grey}
use Rattle.hv_model.proofs.BlankChoiceLemmas.{trees_blank, offsets_off, units_blank}
use Rattle.hv_model.proofs.GroupShownLemmas.{alike}
use Rattle.hv_model.proofs.IntraUnitLemmas.{length-sites}
use Rattle.hv_model.proofs.InterUnitLemmas.{inter_decoded}
use Rattle.hv_model.proofs.InterStreamLemmas.{pictures_follow}
use Rattle.hv_model.proofs.ISliceLemmas.{coded_as_chosen}

-- ---- a picture

module _ (cfg : Settings) (none : cfg.effort ≡ 0) (source : PictureSource) where
  abbrev task : Task
  task = picture_task cfg source

  -- in an I slice
  abbrev still : Task
  still = record task { slice_type = I }

  -- in a slice of any kind, since the trees are the same
  trees_coded_blank :
      coded_trees task (picture_sites cfg) [] (before_first source) ≡
      map blank_tree (picture_sites cfg)
  trees_coded_blank =
      let blank = trees_blank still none (picture_sites cfg) [] (before_first source) in
      ap (trees_with_differences task.distances (picture_sites cfg) [])
      (trees_blank task none (picture_sites cfg) [] (before_first source) ∙ sym blank) ∙
      coded_as_chosen still refl (picture_sites cfg) [] (before_first source) ∙ blank

  sao_off : picture_sao cfg source ≡ tabulate (length (picture_sites cfg)) (λ i. off_param)
  sao_off =
      offsets_off cfg.effort source.header.qp
      (deblocked_picture source.header.qp (picture_squares cfg source) (unfiltered cfg source))
      source.input none ∙
      ap (λ n. tabulate n (λ i. off_param))
      (sym (length-sites (padded_width cfg) (padded_height cfg)))

  coded_blank : coded_units cfg source ≡ blank_units (picture_sites cfg)
  coded_blank =
      ap₂ (tree_units (picture_sites cfg)) trees_coded_blank sao_off ∙
      units_blank (picture_sites cfg)

module _ (grey : BlankPicturesAreGrey) (flat : FlatPicturesAreShown) where
  shown_grey : (cfg : Settings) (source : PictureSource) → IsValid cfg → cfg.effort ≡ 0 →
      recon_picture cfg source ≡ grey_picture cfg
  shown_grey cfg source valid none =
      some_same (recon_picture cfg source) (grey_picture cfg)
      (sym (inter_decoded cfg source) ∙
      ap (reconstructed (padded_width cfg) (padded_height cfg) source.header source.references)
      (coded_blank cfg none source) ∙
      coded_units_grey grey flat cfg valid source.header source.references)

  pub sources_blank : SourcesAreBlankAtEffortZero
  sources_blank cfg source valid none = record {
    units = coded_blank cfg none source;
    shown = shown_grey cfg source valid none;
  }

-- ---- a group

module _ (law : SourcesAreBlankAtEffortZero) (cfg : Settings) (valid : IsValid cfg)
    (none : cfg.effort ≡ 0) (group : List Picture) where
  unit_blank : (number : ℕ) →
      picture_unit cfg group number ≡ blank_unit cfg (length group) number
  unit_blank number =
      ap (λ (units : List CodingTreeUnit).
      unit_bytes (unit_of_slice (header_in cfg (length group) number) (picture_sites cfg) units))
      (law cfg (source_at cfg group number) valid none).units

  number_grey : (number : ℕ) →
      picture_shown cfg group number ≡ crop (grey_picture cfg) cfg.width cfg.height
  number_grey number =
      ap (λ picture. crop picture cfg.width cfg.height)
      (pictures_follow cfg group number ∙
      (law cfg (source_at cfg group number) valid none).shown)

  all_grey : map (picture_shown cfg group) (rising (length group) 0) ≡
      map (λ picture. crop (grey_picture cfg) cfg.width cfg.height) group
  all_grey =
      (λ i. map (λ number. number_grey number i) (rising (length group) 0)) ∙
      alike (crop (grey_picture cfg) cfg.width cfg.height) (rising (length group) 0) group
      (length-rising (length group) 0)

pub groups_blank : SourcesAreBlankAtEffortZero → GroupsAreBlankAtEffortZero
groups_blank law cfg group valid none = λ i. record {
  units =
      map (λ coded. unit_blank law cfg valid none group coded.picture i)
      (coding (length group) cfg.levels);
  shown = all_grey law cfg valid none group i;
}

-- ---- a video

module _ (law : GroupsAreBlankAtEffortZero) where
  stream_blank : (cfg : Settings) (pictures : List Picture) → IsValid cfg → cfg.effort ≡ 0 →
      encode_of cfg pictures ≡ blank_stream cfg pictures
  stream_blank cfg [] valid none = refl
  stream_blank cfg (picture ∷ pictures) valid none = λ i.
      parameter_sets cfg ++
      flat_map (λ group. flat_map (λ unit. unit) (law cfg group valid none i).units)
      (groups_of cfg (picture ∷ pictures))

  pub videos_blank : VideosAreBlankAtEffortZero
  videos_blank cfg pictures valid none = record {
    stream = stream_blank cfg pictures valid none;
    shown = λ i. flat_map (λ group. (law cfg group valid none i).shown) (groups_of cfg pictures);
  }
