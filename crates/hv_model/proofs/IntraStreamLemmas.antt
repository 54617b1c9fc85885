-- The stream of a video whose units are predicted within their pictures decodes to what is shown.
use Rattle.std.proofs.Common.{◌≡◌, ℕ, List, [], ◌∷◌, length, map, refl, ap, ◌∙◌}
use Rattle.std.proofs.lemmas.List.{length-map}
use Rattle.hv_types.specs.declared.settings.Settings.{Settings}
use Rattle.hv_types.specs.declared.picture.Picture.{Picture}
use Rattle.hv_stream_model.specs.HeaderLaws.{OtherSlicesAreRead, OtherSlicesAreCodable, SlicesOfGroupsAreAllowed}
use Rattle.hv_stream_model.specs.Headers.{SliceHeader, size_of}
use Rattle.hv_group_model.specs.Structure.{rising}
use Rattle.hv_group_model.proofs.NumberListLemmas.{length-rising}
use Rattle.hv_tree_model.specs.Trees.{CodingTreeUnit}
use Rattle.hv_slice_model.specs.Slices.{list_0, header_in}
use Rattle.hv_model.specs.Decoding.{decode_of}
use Rattle.hv_model.specs.IntraPictures.{coded_units, recon_picture, input_picture, picture_shown, encode_group, encode_of}
use Rattle.hv_model.specs.IntraLaws.{IntraStreamsAreDecoded, EachIntraPictureIsShown}
use Rattle.hv_model.proofs.GroupLemmas.{groups_reconstructed}
use Rattle.hv_model.proofs.KeepingLemmas.{shown_at, AreDecodedTo}
use Rattle.hv_model.proofs.WrittenUnitLemmas.{written}
use Rattle.hv_model.proofs.DecodedStreamLemmas.{stream_decoded}
use Rattle.hv_model.proofs.IntraUnitLemmas.{intra_units_valid, intra_decoded}

-- of the picture of a number in a group
abbrev units_of : Settings → List Picture → ℕ → List CodingTreeUnit
units_of cfg group number =
    coded_units cfg (header_in cfg (length group) number) (input_picture group number)

abbrev shown_as : Settings → List Picture → ℕ → Picture
shown_as cfg group number =
    recon_picture cfg (header_in cfg (length group) number) (input_picture group number)

all_decoded : (cfg : Settings) (group : List Picture) →
    AreDecodedTo (size_of cfg) (shown_as cfg group) cfg (length group) (units_of cfg group)
all_decoded cfg group k =
    let header : SliceHeader = header_in cfg (length group) k in
    intra_decoded cfg header (map (shown_at (shown_as cfg group)) (list_0 header))
    (input_picture group k)

stream_is : (cfg : Settings) (pictures : List Picture) →
    encode_of cfg pictures ≡ written cfg (units_of cfg) pictures
stream_is cfg [] = refl
stream_is cfg (picture ∷ pictures) = refl

module _
    (reads_other : OtherSlicesAreRead) (codable_other : OtherSlicesAreCodable)
    (allowed : SlicesOfGroupsAreAllowed) where
  pub intra_stream_decoded : IntraStreamsAreDecoded
  intra_stream_decoded cfg pictures valid =
      ap decode_of (stream_is cfg pictures) ∙
      stream_decoded reads_other codable_other allowed cfg valid (units_of cfg)
      (λ group k.
      intra_units_valid cfg (header_in cfg (length group) k) (input_picture group k))
      (shown_as cfg) (all_decoded cfg) pictures

pub each_shown : EachIntraPictureIsShown
each_shown cfg pictures =
    groups_reconstructed (λ group. (encode_group cfg group).shown)
    (λ group. length-map (rising (length group) 0) (picture_shown cfg group) ∙
    length-rising (length group) 0)
    cfg pictures
