-- The stream of a video whose units are predicted from other pictures too decodes to what is shown:
-- each picture comes behind those of its list 0 in coding order, so these are decoded before it.
use Rattle.std.proofs.Common.{◌≡◌, ℕ, zero, suc, ◌<◌, ◌≤◌, Bool, true, false, List, [], ◌∷◌, length, map, take, drop, refl, sym, ap, ap₂, ◌∙◌, arith}
use Rattle.std.specs.Prelude.{nat_eq, cond, Some}
use Rattle.std.specs.List.{list_any}
use Rattle.std.proofs.lemmas.Bool.{and_parts, ltb-true, false≢true}
use Rattle.std.proofs.lemmas.List.{length-map}
use Rattle.hv_types.specs.declared.settings.Settings.{Settings}
use Rattle.hv_types.specs.declared.picture.Picture.{Picture}
use Rattle.hv_stream_model.specs.HeaderLaws.{OtherSlicesAreRead, OtherSlicesAreCodable, SlicesOfGroupsAreAllowed}
use Rattle.hv_stream_model.specs.Headers.{size_of}
use Rattle.hv_group_model.specs.Structure.{Coded, coding, place_in, is_among, is_referred, is_kept, rising}
use Rattle.hv_group_model.proofs.LifeLemmas.{is_among-take}
use Rattle.hv_group_model.proofs.NumberListLemmas.{length-rising}
use Rattle.hv_tree_model.specs.Trees.{CodingTreeUnit}
use Rattle.hv_slice_model.specs.Slices.{list_0, set_counts, header_in}
use Rattle.hv_model.specs.Reconstruction.{DecodedPicture}
use Rattle.hv_model.specs.Decoding.{decode_of}
use Rattle.hv_model.specs.InterPictures.{coded_units, recon_picture, source_behind, recon_within, recon_at, source_at, picture_shown, encode_group, encode_of}
use Rattle.hv_model.specs.InterLaws.{PicturesFollowTheirReferences, InterStreamsAreDecoded, EachInterPictureIsShown}
use Rattle.hv_model.specs.InterStreamLaws.{InterGroupsAreDecoded}
use Rattle.hv_model.proofs.GroupLemmas.{groups_reconstructed}
use Rattle.hv_model.proofs.MembershipLemmas.{Among, among_first, among_behind, among_passes}
use Rattle.hv_model.proofs.ReferenceLemmas.{list_named, others_of, set_of_kept}
use Rattle.hv_model.proofs.KeepingLemmas.{AreDecodedTo}
use Rattle.hv_model.proofs.WrittenUnitLemmas.{written}
use Rattle.hv_model.proofs.DecodedStreamLemmas.{groups_decoded, stream_decoded}
use Rattle.hv_model.proofs.InterUnitLemmas.{inter_units_valid, inter_decoded}

-- ---- list 0 comes before a picture in coding order

place_most : (order : List Coded) (k : ℕ) → place_in order k ≤ length order
place_most [] k = omega arith
place_most (c ∷ order) k = by_test (nat_eq c.picture k) (place_most order k)
  where
    by_test : (test : Bool) → place_in order k ≤ length order →
        cond test 0 (suc (place_in order k)) ≤ suc (length order)
    by_test true most = omega arith
    by_test false most = omega (arith, most)

comes_before : (cfg : Settings) (count k other : ℕ) →
    Among other (list_0 (header_in cfg count k)) →
    place_in (coding count cfg.levels) other < place_in (coding count cfg.levels) k
comes_before cfg count zero other among = absurd (false≢true among)
comes_before cfg count (suc k) other among =
    let order : List Coded = coding count cfg.levels in
    let place : ℕ = place_in order (suc k) in
    let in_set : Among other (set_counts (header_in cfg count (suc k))) =
    list_named (header_in cfg count (suc k)) other among in
    let kept : is_kept order place other ≡ true =
    among_passes (is_kept order place) other (others_of count (suc k))
    (ap (λ set. list_any (nat_eq other) set) (sym (set_of_kept count cfg.levels cfg.qp k)) ∙
    in_set) in
    let both = and_parts (is_among (take place order) other) (is_referred (drop place order) other)
    kept in
    ltb-true (place_in order other) place
    (sym (is_among-take order place other (place_most order (suc k))) ∙ both.0)

-- ---- so it doesn't matter how many more are decoded

same_map : {B : Type 0} (f g : ℕ → B) (numbers : List ℕ) →
    ((n : ℕ) → Among n numbers → f n ≡ g n) → map f numbers ≡ map g numbers
same_map f g [] same = refl
same_map f g (n ∷ numbers) same =
    ap₂ (λ x xs. x ∷ xs) (same n (among_first n numbers))
    (same_map f g numbers (λ m there. same m (among_behind m n numbers there)))

module _ (cfg : Settings) (group : List Picture) where
  abbrev place : ℕ → ℕ
  place number = place_in (coding (length group) cfg.levels) number

  abbrev listed : (ℕ → Picture) → ℕ → DecodedPicture
  listed decoded count = record { PicOrderCntVal = count; picture = decoded count }

  -- a picture from two that decode its references alike
  same_picture : (some others : ℕ → Picture) (number : ℕ) →
      ((n : ℕ) → Among n (list_0 (header_in cfg (length group) number)) →
      some n ≡ others n) →
      recon_picture cfg (source_behind cfg group some number) ≡
      recon_picture cfg (source_behind cfg group others number)
  same_picture some others number same =
      ap (λ list.
      recon_picture cfg (record (source_behind cfg group some number) { references = list }))
      (same_map (listed some) (listed others) (list_0 (header_in cfg (length group) number))
      (λ n there. ap (λ picture. record { PicOrderCntVal = n; picture = picture }) (same n there)))

  same_within : (m n number : ℕ) → place number < m → place number < n →
      recon_within cfg group m number ≡ recon_within cfg group n number
  unfolding recon_within
  same_within zero n number few more = absurd (omega (arith, few))
  same_within (suc m) zero number few more = absurd (omega (arith, more))
  same_within (suc m) (suc n) number few more =
      same_picture (recon_within cfg group m) (recon_within cfg group n) number
      (λ other among.
      let earlier = comes_before cfg (length group) number other among in
      same_within m n other (omega (arith, few, earlier)) (omega (arith, more, earlier)))

  follows : (number : ℕ) →
      recon_at cfg group number ≡ recon_picture cfg (source_at cfg group number)
  unfolding recon_within
  follows number =
      same_picture (recon_within cfg group (place number)) (recon_at cfg group) number
      (λ other among.
      let earlier = comes_before cfg (length group) number other among in
      same_within (place number) (suc (place other)) other earlier (omega arith))

pub pictures_follow : PicturesFollowTheirReferences
pictures_follow cfg group number = follows cfg group number

-- ---- a video

-- of the picture of a number in a group
abbrev units_of : Settings → List Picture → ℕ → List CodingTreeUnit
units_of cfg group number = coded_units cfg (source_at cfg group number)

all_decoded : (cfg : Settings) (group : List Picture) →
    AreDecodedTo (size_of cfg) (recon_at cfg group) cfg (length group) (units_of cfg group)
all_decoded cfg group k =
    inter_decoded cfg (source_at cfg group k) ∙
    ap (λ picture. Some picture) (sym (pictures_follow cfg group k))

stream_is : (cfg : Settings) (pictures : List Picture) →
    encode_of cfg pictures ≡ written cfg (units_of cfg) pictures
stream_is cfg [] = refl
stream_is cfg (picture ∷ pictures) = refl

module _
    (reads_other : OtherSlicesAreRead) (codable_other : OtherSlicesAreCodable)
    (allowed : SlicesOfGroupsAreAllowed) where
  pub inter_stream_decoded : InterStreamsAreDecoded
  inter_stream_decoded cfg pictures valid =
      ap decode_of (stream_is cfg pictures) ∙
      stream_decoded reads_other codable_other allowed cfg valid (units_of cfg)
      (λ group k. inter_units_valid cfg (source_at cfg group k))
      (recon_at cfg) (all_decoded cfg) pictures

  -- whichever groups it has
  pub inter_groups_decoded : InterGroupsAreDecoded
  inter_groups_decoded cfg groups valid are =
      groups_decoded reads_other codable_other allowed cfg valid (units_of cfg)
      (λ group k. inter_units_valid cfg (source_at cfg group k))
      (recon_at cfg) (all_decoded cfg) groups are

pub each_shown : EachInterPictureIsShown
each_shown cfg pictures =
    groups_reconstructed (λ group. (encode_group cfg group).shown)
    (λ group. length-map (rising (length group) 0) (picture_shown cfg group) ∙
    length-rising (length group) 0)
    cfg pictures
