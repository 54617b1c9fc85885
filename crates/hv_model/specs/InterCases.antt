-- The encoders of `IntraPictures` and of `Encoding` are cases of that of `InterPictures`: the first
-- where pictures are predicted within them, and the second at effort 0.
use Rattle.std.specs.Prelude.{◌≡◌, ℕ, ◌≤◌, List, [], ◌∷◌, length}
use Rattle.hv_types.specs.declared.settings.Settings.{Settings}
use Rattle.hv_types.specs.declared.picture.Picture.{Picture}
use Rattle.hv_types.specs.Configuration.{IsValid}
use Rattle.hv_slice_model.specs.Slices.{picture_sites}
use Rattle.hv_model.specs.Encoding.{coded_units as blank_units, recon_picture as grey_picture, encode_group as blank_group, encode_of as blank_stream, recon_of as grey_pictures}
use Rattle.hv_model.specs.Built.{IsBuilt}
use Rattle.hv_model.specs.IntraPictures.{picture_unit as intra_unit, picture_shown as intra_shown, encode_group as intra_group, encode_of as intra_stream, recon_of as intra_pictures, output as intra_output}
use Rattle.hv_model.specs.InterPictures.{PictureSource, coded_units, recon_picture, picture_unit, picture_shown, encode_group, encode_of, recon_of, output}

-- ---- pictures that are predicted within them

-- a picture of a group that is written and shown so
pub record IsIntraPicture (cfg : Settings) (group : List Picture) (number : ℕ) : Type 0 where
  pub unit : picture_unit cfg group number ≡ intra_unit cfg group number
  pub shown : picture_shown cfg group number ≡ intra_shown cfg group number

-- The first picture of each group is such ..
abbrev pub FirstPicturesAreIntra : Type 0
FirstPicturesAreIntra = (cfg : Settings) (group : List Picture) → IsIntraPicture cfg group 0

-- .. so a group of one picture is ..
abbrev pub SingleGroupsAreIntra : Type 0
SingleGroupsAreIntra =
    (cfg : Settings) (picture : Picture) →
    encode_group cfg (picture ∷ []) ≡ intra_group cfg (picture ∷ [])

-- .. and a video of such groups.
pub record IsIntraVideo (cfg : Settings) (pictures : List Picture) : Type 0 where
  pub stream : encode_of cfg pictures ≡ intra_stream cfg pictures
  pub shown : recon_of cfg pictures ≡ intra_pictures cfg pictures

abbrev pub SingleVideosAreIntra : Type 0
SingleVideosAreIntra =
    (cfg : Settings) (pictures : List Picture) → cfg.group ≡ 1 → IsIntraVideo cfg pictures

-- ---- effort 0

-- a picture whose units are blank, and which is shown grey
pub record IsBlankPicture (cfg : Settings) (source : PictureSource) : Type 0 where
  pub units : coded_units cfg source ≡ blank_units (picture_sites cfg)
  pub shown : recon_picture cfg source ≡ grey_picture cfg

-- Where nothing is chosen, every picture is such, from whatever it is coded ..
abbrev pub SourcesAreBlankAtEffortZero : Type 0
SourcesAreBlankAtEffortZero =
    (cfg : Settings) (source : PictureSource) → IsValid cfg → cfg.effort ≡ 0 →
    IsBlankPicture cfg source

-- .. so a group is that of `Encoding` ..
abbrev pub GroupsAreBlankAtEffortZero : Type 0
GroupsAreBlankAtEffortZero =
    (cfg : Settings) (group : List Picture) → IsValid cfg → cfg.effort ≡ 0 →
    encode_group cfg group ≡ blank_group cfg group

-- .. and a video.
pub record IsBlankVideo (cfg : Settings) (pictures : List Picture) : Type 0 where
  pub stream : encode_of cfg pictures ≡ blank_stream cfg pictures
  pub shown : recon_of cfg pictures ≡ grey_pictures cfg pictures

abbrev pub VideosAreBlankAtEffortZero : Type 0
VideosAreBlankAtEffortZero =
    (cfg : Settings) (pictures : List Picture) → IsValid cfg → cfg.effort ≡ 0 →
    IsBlankVideo cfg pictures

-- ---- the settings that the program is built for so far

-- With these, which have one or the other, each group is that of `IntraPictures` ..
abbrev pub BuiltGroupsAreIntra : Type 0
BuiltGroupsAreIntra =
    (cfg : Settings) (group : List Picture) → IsBuilt cfg → length group ≤ cfg.group →
    encode_group cfg group ≡ intra_group cfg group

-- .. and so is a video ..
abbrev pub BuiltVideosAreIntra : Type 0
BuiltVideosAreIntra =
    (cfg : Settings) (pictures : List Picture) → IsBuilt cfg → IsIntraVideo cfg pictures

-- .. and what is written out of it.
abbrev pub BuiltOutputsAreIntra : Type 0
BuiltOutputsAreIntra =
    (cfg : Settings) (pictures : List Picture) → IsBuilt cfg →
    output cfg pictures ≡ intra_output cfg pictures
