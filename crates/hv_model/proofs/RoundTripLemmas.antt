-- What is written where nothing is chosen decodes to what is shown.
use Rattle.std.proofs.Common.{◌≡◌, ◌⊎◌, inl, inr, ℕ, Bool, true, false, List, [], ◌∷◌, ◌++◌, length, map, refl, ap, ap₂, ◌∙◌, eq-eqb}
use Rattle.std.proofs.lemmas.Bool.{eqb-true}
use Rattle.std.specs.Prelude.{◌||◌, nat_eq, flat_map, Some}
use Rattle.hv_types.specs.declared.settings.Settings.{Settings}
use Rattle.hv_types.specs.declared.picture.Picture.{Picture}
use Rattle.hv_types.specs.Configuration.{IsValid}
use Rattle.hv_types.specs.Video.{crop}
use Rattle.hv_stream_model.specs.Headers.{SliceHeader, used_count, size_of}
use Rattle.hv_stream_model.specs.HeaderLaws.{OtherSlicesAreRead, OtherSlicesAreCodable, SlicesOfGroupsAreAllowed}
use Rattle.hv_group_model.specs.Structure.{rising}
use Rattle.hv_group_model.proofs.NumberListLemmas.{length-rising}
use Rattle.hv_tree_model.specs.Trees.{CodingTreeUnit}
use Rattle.hv_recon_model.specs.BlankLaws.{BlankPicturesAreGrey}
use Rattle.hv_deblock_model.specs.FlatPictures.{FlatPicturesAreShown}
use Rattle.hv_slice_model.specs.Slices.{list_0, picture_sites, header_in}
use Rattle.hv_slice_model.proofs.BlankUnitLemmas.{blank_units_valid}
use Rattle.hv_model.specs.Decoding.{decode_of}
use Rattle.hv_model.specs.Encoding.{coded_units, recon_picture, encode_group, groups_of, encode_of}
use Rattle.hv_model.specs.Built.{IsBuilt, is_built, BuiltIsDecided}
use Rattle.hv_model.specs.RoundTrip.{DecodingGivesReconstruction}
use Rattle.hv_model.proofs.CodedUnitLemmas.{coded_units_grey}
use Rattle.hv_model.proofs.GroupShownLemmas.{alike}
use Rattle.hv_model.proofs.KeepingLemmas.{shown_at, AreDecodedTo}
use Rattle.hv_model.proofs.WrittenUnitLemmas.{written}
use Rattle.hv_model.proofs.DecodedStreamLemmas.{stream_decoded}

-- each picture has these units, and is shown so
abbrev units_of : Settings → List Picture → ℕ → List CodingTreeUnit
units_of cfg group number = coded_units (picture_sites cfg)

abbrev shown_as : Settings → List Picture → ℕ → Picture
shown_as cfg group number = recon_picture cfg

stream_is : (cfg : Settings) (pictures : List Picture) →
    encode_of cfg pictures ≡ written cfg (units_of cfg) pictures
stream_is cfg [] = refl
stream_is cfg (picture ∷ pictures) = refl

all_shown : (cfg : Settings) (groups : List (List Picture)) →
    flat_map
    (λ group. map (λ n. crop (recon_picture cfg) cfg.width cfg.height) (rising (length group) 0))
    groups ≡
    flat_map (λ group. (encode_group cfg group).shown) groups
all_shown cfg [] = refl
all_shown cfg (group ∷ groups) =
    ap₂ (λ first others. first ++ others)
    (alike (crop (recon_picture cfg) cfg.width cfg.height) (rising (length group) 0) group
    (length-rising (length group) 0))
    (all_shown cfg groups)

module _
    (reads_other : OtherSlicesAreRead) (codable_other : OtherSlicesAreCodable)
    (allowed : SlicesOfGroupsAreAllowed) (grey : BlankPicturesAreGrey)
    (flat : FlatPicturesAreShown) where
  all_decoded : (cfg : Settings) → IsValid cfg → (group : List Picture) →
      AreDecodedTo (size_of cfg) (shown_as cfg group) cfg (length group) (units_of cfg group)
  all_decoded cfg valid group k =
      let header : SliceHeader = header_in cfg (length group) k in
      coded_units_grey grey flat cfg valid header
      (map (shown_at (shown_as cfg group)) (list_0 header))

  pub decoding_gives : DecodingGivesReconstruction
  decoding_gives cfg pictures valid effort =
      ap decode_of (stream_is cfg pictures) ∙
      stream_decoded reads_other codable_other allowed cfg valid (units_of cfg)
      (λ group k.
      let header = header_in cfg (length group) k in
      blank_units_valid header.slice_type (used_count header.references) (picture_sites cfg))
      (shown_as cfg) (all_decoded cfg valid) pictures ∙
      ap (λ shown. Some shown) (all_shown cfg (groups_of cfg pictures))

-- ---- the test of the settings built

either_is : (a b : ℕ) → nat_eq a 0 || nat_eq b 1 ≡ true → (a ≡ 0) ⊎ (b ≡ 1)
either_is a b e = by (nat_eq a 0) refl e
  where
    by : (test : Bool) → nat_eq a 0 ≡ test → test || nat_eq b 1 ≡ true → (a ≡ 0) ⊎ (b ≡ 1)
    by true is e = inl (eqb-true a 0 is)
    by false is e = inr (eqb-true b 1 e)

is_either : (a b : ℕ) → (a ≡ 0) ⊎ (b ≡ 1) → nat_eq a 0 || nat_eq b 1 ≡ true
is_either a b (inl e) = rw (eq-eqb a 0 e) refl
is_either a b (inr e) = by (nat_eq a 0)
  where
    by : (test : Bool) → test || nat_eq b 1 ≡ true
    by true = refl
    by false = eq-eqb b 1 e

from_test : (s : Settings) → IsValid s → is_built s ≡ true → IsBuilt s
from_test s valid e = record { valid = valid; predicted = either_is s.effort s.group e }

to_test : (s : Settings) → IsBuilt s → is_built s ≡ true
to_test s h = is_either s.effort s.group h.predicted

pub built_decided : BuiltIsDecided
built_decided s valid = (from_test s valid, to_test s)
