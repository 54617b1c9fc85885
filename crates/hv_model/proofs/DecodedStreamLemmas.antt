-- The stream of a video decodes to its pictures, whatever units they have: where the units of each
-- picture may be coded in its slice, and are decoded to its picture.
use Rattle.std.proofs.Common.{◌≡◌, ◌≢◌, ℕ, zero, suc, ◌-◌, ◌*◌, ◌/◌, ◌%◌, ◌<◌, ◌≤◌, true, List, [], ◌∷◌, ◌++◌, length, map, refl, ap, ap₂, ◌∙◌, arith, eq-eqb}
use Rattle.std.proofs.lemmas.Bool.{and_parts, ltb-true, not-true}
use Rattle.std.specs.Prelude.{not, nat_lt, flat_map, Option, Some, option_and_then, option_map}
use Rattle.std.specs.List.{list_all}
use Rattle.hv_types.specs.declared.settings.Settings.{Settings}
use Rattle.hv_types.specs.declared.picture.Picture.{Picture}
use Rattle.hv_types.specs.Configuration.{IsValid, padded_width, padded_height}
use Rattle.hv_types.specs.Video.{crop}
use Rattle.hv_stream_model.specs.Units.{NalUnit}
use Rattle.hv_stream_model.specs.Headers.{Size, vps, sps, pps, used_count, read_vps, read_sps, read_pps, size_of}
use Rattle.hv_stream_model.specs.HeaderLaws.{IsAllowed, OtherSlicesAreRead, OtherSlicesAreCodable, SlicesOfGroupsAreAllowed, header_of}
use Rattle.hv_stream_model.specs.UnitLaws.{stream_of}
use Rattle.hv_group_model.specs.Structure.{Coded, coding, blocks, anchors, qp_at, rising}
use Rattle.hv_tree_model.specs.Trees.{CodingTreeUnit}
use Rattle.hv_tree_model.specs.Validity.{AreValid}
use Rattle.hv_model.specs.PayloadLaws.{IsHeader, of_idr, of_other}
use Rattle.hv_model.specs.Parsing.{CodedPicture, Sequence, begins_with_idr, in_front, cut_at_idrs, sequences_of, picture_of_unit, picture_then, pictures_of_units, parameters, with_parameters, sequences_after_sets, parsed_units}
use Rattle.hv_model.specs.Decoding.{shown_sequence, shown_then, shown_of, decode_of}
use Rattle.hv_slice_model.specs.Slices.{picture_sites, header_in}
use Rattle.hv_model.specs.Encoding.{groups_of}
use Rattle.hv_model.specs.InterStreamLaws.{AreGroups}
use Rattle.hv_stream_model.proofs.HeaderLemmas.{reads_vps, reads_sps, reads_pps, codable_vps, codable_sps, codable_pps, sizes_allowed}
use Rattle.hv_stream_model.proofs.UnitLemmas.{streams_read, stream_of_units}
use Rattle.hv_unit_model.proofs.UnitLemmas.{sites_there}
use Rattle.hv_model.proofs.KeepingLemmas.{AreDecodedTo}
use Rattle.hv_model.proofs.PayloadLemmas.{parameters-back}
use Rattle.hv_model.proofs.SliceLemmas.{slices_back}
use Rattle.hv_model.proofs.GroupLemmas.{groups_are}
use Rattle.hv_model.proofs.OrderLemmas.{IsGood, orders_good}
use Rattle.hv_model.proofs.GroupShownLemmas.{group_shown}
use Rattle.hv_model.proofs.WrittenUnitLemmas.{set_unit, slice_unit, group_units, units_with, written_with, written, units_joined, all_units, groups_kept}
use Rattle.hv_lemmas.proofs.ComparisonLemmas.{suc_other_than_0}

-- ---- pictures and sequences in general

blocks_there : (cfg : Settings) → IsValid cfg → picture_sites cfg ≢ []
blocks_there cfg valid =
    let wide : 8 ≤ cfg.width = valid.width_least in
    let high : 8 ≤ cfg.height = valid.height_least in
    sites_there (padded_width cfg) (padded_height cfg) (omega arith) (omega arith)

good_order : (cfg : Settings) → IsValid cfg → (count : ℕ) → 1 ≤ count → count ≤ cfg.group →
    IsGood count (coding count cfg.levels)
good_order cfg valid count some few =
    orders_good count cfg.levels some (omega (arith, few, valid.group_most)) valid.levels

parsed_then : (picture : Option CodedPicture) (pictures : Option (List CodedPicture))
    (first : CodedPicture) (others : List CodedPicture) → picture ≡ Some first →
    pictures ≡ Some others → picture_then picture pictures ≡ Some (first ∷ others)
parsed_then picture pictures first others e f = rw (e, f) refl

-- ends, or begins a sequence
abbrev StartsAnew : List CodedPicture → Type 0
StartsAnew [] = Unit {0}
StartsAnew (picture ∷ pictures) = begins_with_idr (picture ∷ []) ≡ true

cut_first : (first : CodedPicture) (others behind : List CodedPicture) →
    list_all (λ p. not (begins_with_idr (p ∷ []))) others ≡ true → StartsAnew behind →
    cut_at_idrs (first ∷ others ++ behind) ≡ (first ∷ others) ∷ cut_at_idrs behind
cut_first first [] [] later anew = refl
cut_first first [] (next ∷ behind) later anew = rw anew refl
cut_first first (next ∷ others) behind later anew =
    let both = and_parts (not (begins_with_idr (next ∷ [])))
    (list_all (λ p. not (begins_with_idr (p ∷ []))) others) later in
    rw (not-true (begins_with_idr (next ∷ [])) both.0)
    (ap (in_front first) (cut_first next others behind both.1 anew))

header_later : (cfg : Settings) (count k : ℕ) (units : List CodingTreeUnit) → 0 < k →
    not (begins_with_idr (record { header = header_in cfg count k; units = units } ∷ [])) ≡ true
header_later cfg count zero units some = absurd (omega arith)
header_later cfg count (suc k) units some = ap not (suc_other_than_0 k)

-- ---- parameter sets

parameters_given : (levels : ℕ) (size : Size) (vps_read : Option ℕ)
    (sps_read : Option (ℕ × Size)) (pps_read : Option (Unit {0})) (after : List NalUnit) →
    vps_read ≡ Some levels → sps_read ≡ Some (levels, size) → pps_read ≡ Some tt →
    with_parameters vps_read sps_read pps_read after ≡
    option_map (sequences_of size) (pictures_of_units levels size after)
parameters_given levels size vps_read sps_read pps_read after p q r =
    rw (p, q, r, eq-eqb levels levels refl) refl

sets_read : (cfg : Settings) → cfg.levels ≤ 3 → IsAllowed (size_of cfg) → (after : List NalUnit) →
    sequences_after_sets
    (set_unit 32 (vps cfg.levels) ∷ set_unit 33 (sps cfg.levels (size_of cfg)) ∷
    set_unit 34 pps ∷ after) ≡
    option_map (sequences_of (size_of cfg)) (pictures_of_units cfg.levels (size_of cfg) after)
sets_read cfg few fits after =
    let size : Size = size_of cfg in
    let video : NalUnit = set_unit 32 (vps cfg.levels) in
    let sequence : NalUnit = set_unit 33 (sps cfg.levels size) in
    let picture : NalUnit = set_unit 34 pps in
    parameters_given cfg.levels size (parameters read_vps video) (parameters read_sps sequence)
    (parameters read_pps picture) after
    (parameters-back ℕ read_vps (vps cfg.levels) cfg.levels video
    (reads_vps cfg.levels few) (codable_vps cfg.levels few) refl)
    (parameters-back (ℕ × Size) read_sps (sps cfg.levels size) (cfg.levels, size) sequence
    (reads_sps cfg.levels size few fits) (codable_sps cfg.levels size few fits) refl)
    (parameters-back (Unit {0}) read_pps pps tt picture reads_pps codable_pps refl)

-- ---- of a video whose pictures have these units, by group and number in it

module _
    (cfg : Settings) (valid : IsValid cfg)
    (units_of : List Picture → ℕ → List CodingTreeUnit) where
  -- what is parsed of a picture and of a group
  abbrev coded_in : List Picture → Coded → CodedPicture
  coded_in group c =
      record { header = header_in cfg (length group) c.picture; units = units_of group c.picture }

  abbrev coded_group : List Picture → List CodedPicture
  coded_group group = map (coded_in group) (coding (length group) cfg.levels)

  -- each group is a coded video sequence
  abbrev sequence_of : List Picture → Sequence
  sequence_of group = record { size = size_of cfg; pictures = coded_group group }

  later_coded : (group : List Picture) (order : List Coded) →
      list_all (λ c. nat_lt 0 c.picture) order ≡ true →
      list_all (λ p. not (begins_with_idr (p ∷ []))) (map (coded_in group) order) ≡ true
  later_coded group [] later = refl
  later_coded group (c ∷ order) later =
      let both = and_parts (nat_lt 0 c.picture) (list_all (λ d. nat_lt 0 d.picture) order) later in
      rw
      (header_later cfg (length group) c.picture (units_of group c.picture)
      (ltb-true 0 c.picture both.0))
      (later_coded group order both.1)

  groups_anew : (groups : List (List Picture)) → StartsAnew (flat_map coded_group groups)
  groups_anew [] = tt
  groups_anew (group ∷ groups) = refl

  cut_apart : (groups : List (List Picture)) → AreGroups cfg.group groups →
      cut_at_idrs (flat_map coded_group groups) ≡ map coded_group groups
  cut_apart [] h = refl
  cut_apart (group ∷ groups) h =
      let rest : List Coded = blocks cfg.levels 0 (anchors (length group) cfg.levels) in
      cut_first (coded_in group (record { picture = 0; depth = 0; references = [] }))
      (map (coded_in group) rest) (flat_map coded_group groups)
      (later_coded group rest (good_order cfg valid (length group) h.0 h.1).later)
      (groups_anew groups) ∙
      ap (λ others. coded_group group ∷ others) (cut_apart groups h.2)

  sequences_with : (groups : List (List Picture)) →
      map (λ (sequence : List CodedPicture). record { size = size_of cfg; pictures = sequence })
      (map coded_group groups) ≡ map sequence_of groups
  sequences_with [] = refl
  sequences_with (group ∷ groups) =
      ap (λ others. sequence_of group ∷ others) (sequences_with groups)

  sequences_apart : (groups : List (List Picture)) → AreGroups cfg.group groups →
      sequences_of (size_of cfg) (flat_map coded_group groups) ≡ map sequence_of groups
  sequences_apart groups h =
      ap
      (map (λ (sequence : List CodedPicture). record { size = size_of cfg; pictures = sequence }))
      (cut_apart groups h) ∙
      sequences_with groups

  -- ---- what is shown, where the units are decoded to these pictures

  module _
      (shown_as : List Picture → ℕ → Picture)
      (same : (group : List Picture) →
      AreDecodedTo (size_of cfg) (shown_as group) cfg (length group) (units_of group)) where
    abbrev pub group_pictures : List Picture → List Picture
    group_pictures group =
        map (λ n. crop (shown_as group n) cfg.width cfg.height) (rising (length group) 0)

    sequence_is_shown : (group : List Picture) → 1 ≤ length group → length group ≤ cfg.group →
        shown_sequence (sequence_of group) ≡ Some (group_pictures group)
    sequence_is_shown group some few =
        let even_width : cfg.width % 2 ≡ 0 = valid.even_width in
        let even_height : cfg.height % 2 ≡ 0 = valid.even_height in
        let right : padded_width cfg - 2 * ((padded_width cfg - cfg.width) / 2) ≡ cfg.width =
        omega arith in
        let bottom : padded_height cfg - 2 * ((padded_height cfg - cfg.height) / 2) ≡ cfg.height =
        omega arith in
        group_shown (size_of cfg) (shown_as group) cfg (length group)
        (good_order cfg valid (length group) some few) (units_of group) (same group) ∙
        ap₂ (λ w h. Some (map (λ n. crop (shown_as group n) w h) (rising (length group) 0)))
        right bottom

    sequences_are_shown : (groups : List (List Picture)) → AreGroups cfg.group groups →
        shown_of (map sequence_of groups) ≡ Some (flat_map group_pictures groups)
    sequences_are_shown [] h = refl
    sequences_are_shown (group ∷ groups) h =
        ap₂ (λ p ps. shown_then p ps) (sequence_is_shown group h.0 h.1)
        (sequences_are_shown groups h.2)

-- ---- by what headers of pictures but the first are

module _
    (reads_other : OtherSlicesAreRead) (codable_other : OtherSlicesAreCodable)
    (allowed : SlicesOfGroupsAreAllowed) (cfg : Settings) (valid : IsValid cfg) where
  header_allowed : (count k : ℕ) → count ≤ 64 → k < count →
      IsHeader cfg.levels (header_in cfg count k)
  header_allowed count zero few below = of_idr (qp_at cfg.qp 0) (omega arith)
  header_allowed count (suc k) few below =
      of_other (header_of count cfg.levels cfg.qp (suc k))
      (allowed count cfg.levels cfg.qp k few valid.levels below).1

  module _
      (units_of : List Picture → ℕ → List CodingTreeUnit)
      (fitting : (group : List Picture) (k : ℕ) →
      let header = header_in cfg (length group) k in
      AreValid header.slice_type (used_count header.references) (picture_sites cfg)
      (units_of group k)) where
    picture_is_parsed : (group : List Picture) (c : Coded) → length group ≤ 64 →
        c.picture < length group →
        picture_of_unit cfg.levels (size_of cfg) (slice_unit cfg units_of group c) ≡
        Some (coded_in cfg valid units_of group c)
    picture_is_parsed group c few below =
        slices_back reads_other codable_other cfg.levels (size_of cfg)
        (header_in cfg (length group) c.picture) (units_of group c.picture) valid.levels
        (blocks_there cfg valid) (header_allowed (length group) c.picture few below)
        (fitting group c.picture)

    group_is_parsed : (group : List Picture) (order : List Coded) (behind : List NalUnit)
        (others : List CodedPicture) → length group ≤ 64 →
        list_all (λ c. nat_lt c.picture (length group)) order ≡ true →
        pictures_of_units cfg.levels (size_of cfg) behind ≡ Some others →
        pictures_of_units cfg.levels (size_of cfg)
        (map (slice_unit cfg units_of group) order ++ behind) ≡
        Some (map (coded_in cfg valid units_of group) order ++ others)
    group_is_parsed group [] behind others few below e = e
    group_is_parsed group (c ∷ order) behind others few below e =
        let both = and_parts (nat_lt c.picture (length group))
        (list_all (λ d. nat_lt d.picture (length group)) order) below in
        parsed_then
        (picture_of_unit cfg.levels (size_of cfg) (slice_unit cfg units_of group c))
        (pictures_of_units cfg.levels (size_of cfg)
        (map (slice_unit cfg units_of group) order ++ behind))
        (coded_in cfg valid units_of group c)
        (map (coded_in cfg valid units_of group) order ++ others)
        (picture_is_parsed group c few (ltb-true c.picture (length group) both.0))
        (group_is_parsed group order behind others few both.1 e)

    groups_are_parsed : (groups : List (List Picture)) → AreGroups cfg.group groups →
        pictures_of_units cfg.levels (size_of cfg)
        (flat_map (group_units cfg units_of) groups) ≡
        Some (flat_map (coded_group cfg valid units_of) groups)
    groups_are_parsed [] h = refl
    groups_are_parsed (group ∷ groups) h =
        group_is_parsed group (coding (length group) cfg.levels)
        (flat_map (group_units cfg units_of) groups)
        (flat_map (coded_group cfg valid units_of) groups)
        (omega (arith, h.1, valid.group_most))
        (good_order cfg valid (length group) h.0 h.1).below (groups_are_parsed groups h.2)

    units_parsed : (groups : List (List Picture)) → AreGroups cfg.group groups →
        parsed_units (units_with cfg units_of groups) ≡
        Some (map (sequence_of cfg valid units_of) groups)
    units_parsed groups are =
        ap (λ us. sequences_after_sets
        (set_unit 32 (vps cfg.levels) ∷ set_unit 33 (sps cfg.levels (size_of cfg)) ∷
        set_unit 34 pps ∷ us))
        (groups_kept cfg units_of groups) ∙
        sets_read cfg valid.levels (sizes_allowed cfg valid)
        (flat_map (group_units cfg units_of) groups) ∙
        ap (option_map (sequences_of (size_of cfg))) (groups_are_parsed groups are) ∙
        ap (λ sequences. Some sequences) (sequences_apart cfg valid units_of groups are)

    -- what is written of groups decodes to their pictures
    module _
        (shown_as : List Picture → ℕ → Picture)
        (same : (group : List Picture) →
        AreDecodedTo (size_of cfg) (shown_as group) cfg (length group) (units_of group)) where
      pub groups_decoded : (groups : List (List Picture)) → AreGroups cfg.group groups →
          decode_of (written_with cfg units_of groups) ≡
          Some (flat_map (group_pictures cfg valid units_of shown_as same) groups)
      groups_decoded groups are =
          ap decode_of (units_joined cfg units_of groups) ∙
          ap (λ found. option_and_then shown_of (option_and_then parsed_units found))
          (streams_read (stream_of (units_with cfg units_of groups))
          (units_with cfg units_of groups)
          (stream_of_units (units_with cfg units_of groups) (all_units cfg units_of groups))) ∙
          ap (option_and_then shown_of) (units_parsed groups are) ∙
          sequences_are_shown cfg valid units_of shown_as same groups are

      -- so does the stream of a video
      pub stream_decoded : (pictures : List Picture) →
          decode_of (written cfg units_of pictures) ≡
          Some (flat_map (group_pictures cfg valid units_of shown_as same) (groups_of cfg pictures))
      stream_decoded [] = refl
      stream_decoded (picture ∷ pictures) =
          groups_decoded (groups_of cfg (picture ∷ pictures))
          (groups_are cfg (picture ∷ pictures) valid.group_least)
