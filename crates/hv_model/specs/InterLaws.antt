-- What is written of pictures whose units are predicted from other pictures too decodes to what is
-- shown.
use Rattle.std.specs.Prelude.{◌≡◌, ℕ, List, length, Some}
use Rattle.hv_types.specs.declared.settings.Settings.{Settings}
use Rattle.hv_types.specs.declared.picture.Picture.{Picture}
use Rattle.hv_types.specs.Configuration.{IsValid, padded_width, padded_height}
use Rattle.hv_stream_model.specs.Headers.{used_count}
use Rattle.hv_tree_model.specs.Validity.{AreValid}
use Rattle.hv_slice_model.specs.Slices.{picture_sites}
use Rattle.hv_model.specs.Reconstruction.{reconstructed}
use Rattle.hv_model.specs.Decoding.{decode_of}
use Rattle.hv_model.specs.InterPictures.{PictureSource, coded_units, recon_picture, source_at, recon_at, encode_of, recon_of}

-- of a slice of any kind, from any reference pictures, vectors and input
abbrev pub InterUnitsMayBeCoded : Type 0
InterUnitsMayBeCoded =
    (cfg : Settings) (source : PictureSource) →
    AreValid source.header.slice_type (used_count source.header.references) (picture_sites cfg)
    (coded_units cfg source)

abbrev pub InterPicturesAreDecoded : Type 0
InterPicturesAreDecoded =
    (cfg : Settings) (source : PictureSource) →
    reconstructed (padded_width cfg) (padded_height cfg) source.header source.references
    (coded_units cfg source) ≡
    Some (recon_picture cfg source)

-- Each picture of a group is coded from the reconstructed pictures of its list 0.
abbrev pub PicturesFollowTheirReferences : Type 0
PicturesFollowTheirReferences =
    (cfg : Settings) (group : List Picture) (number : ℕ) →
    recon_at cfg group number ≡ recon_picture cfg (source_at cfg group number)

-- The pictures that the stream shows are the reconstructed ones, at any effort, in groups of any
-- size.
abbrev pub InterStreamsAreDecoded : Type 0
InterStreamsAreDecoded =
    (cfg : Settings) (pictures : List Picture) → IsValid cfg →
    decode_of (encode_of cfg pictures) ≡ Some (recon_of cfg pictures)

-- There is a reconstructed picture for each picture.
abbrev pub EachInterPictureIsShown : Type 0
EachInterPictureIsShown =
    (cfg : Settings) (pictures : List Picture) → length (recon_of cfg pictures) ≡ length pictures
