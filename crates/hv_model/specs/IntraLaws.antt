-- What is written of pictures whose units are predicted within them decodes to what is shown.
use Rattle.std.specs.Prelude.{◌≡◌, List, length, Some}
use Rattle.hv_types.specs.declared.settings.Settings.{Settings}
use Rattle.hv_types.specs.declared.picture.Picture.{Picture}
use Rattle.hv_types.specs.Configuration.{IsValid, padded_width, padded_height}
use Rattle.hv_stream_model.specs.Headers.{SliceHeader, used_count}
use Rattle.hv_tree_model.specs.Validity.{AreValid}
use Rattle.hv_slice_model.specs.Slices.{picture_sites}
use Rattle.hv_model.specs.Reconstruction.{DecodedPicture, reconstructed}
use Rattle.hv_model.specs.Decoding.{decode_of}
use Rattle.hv_model.specs.Encoding.{coded_units as blank_units, recon_picture as grey_picture, encode_of as blank_stream, recon_of as grey_pictures}
use Rattle.hv_model.specs.IntraPictures.{coded_units, recon_picture, encode_of, recon_of}

-- of a slice of any kind, for any input
abbrev pub IntraUnitsMayBeCoded : Type 0
IntraUnitsMayBeCoded =
    (cfg : Settings) (header : SliceHeader) (input : Picture) →
    AreValid header.slice_type (used_count header.references) (picture_sites cfg)
    (coded_units cfg header input)

-- whatever pictures list 0 has
abbrev pub IntraPicturesAreDecoded : Type 0
IntraPicturesAreDecoded =
    (cfg : Settings) (header : SliceHeader) (references : List DecodedPicture) (input : Picture) →
    reconstructed (padded_width cfg) (padded_height cfg) header references
    (coded_units cfg header input) ≡
    Some (recon_picture cfg header input)

-- The pictures that the stream shows are the reconstructed ones, at any effort.
abbrev pub IntraStreamsAreDecoded : Type 0
IntraStreamsAreDecoded =
    (cfg : Settings) (pictures : List Picture) → IsValid cfg →
    decode_of (encode_of cfg pictures) ≡ Some (recon_of cfg pictures)

-- There is a reconstructed picture for each picture.
abbrev pub EachIntraPictureIsShown : Type 0
EachIntraPictureIsShown =
    (cfg : Settings) (pictures : List Picture) → length (recon_of cfg pictures) ≡ length pictures

-- ---- effort 0

-- a picture whose units are blank, and which is shown grey
pub record IsBlank (cfg : Settings) (header : SliceHeader) (input : Picture) : Type 0 where
  pub units : coded_units cfg header input ≡ blank_units (picture_sites cfg)
  pub shown : recon_picture cfg header input ≡ grey_picture cfg

-- Where nothing is chosen, every picture is such ..
abbrev pub NothingIsChosenAtEffortZero : Type 0
NothingIsChosenAtEffortZero =
    (cfg : Settings) (header : SliceHeader) (input : Picture) → IsValid cfg → cfg.effort ≡ 0 →
    IsBlank cfg header input

-- .. so what is written and shown of a video is that of `Encoding`.
pub record IsBlankVideo (cfg : Settings) (pictures : List Picture) : Type 0 where
  pub stream : encode_of cfg pictures ≡ blank_stream cfg pictures
  pub shown : recon_of cfg pictures ≡ grey_pictures cfg pictures

abbrev pub VideosAreBlankAtEffortZero : Type 0
VideosAreBlankAtEffortZero =
    (cfg : Settings) (pictures : List Picture) → IsValid cfg → cfg.effort ≡ 0 →
    IsBlankVideo cfg pictures
