-- The NAL units that an encoder writes for a video, one behind another: the stream is theirs.
use Rattle.std.proofs.Common.{◌≡◌, ℕ, ◌<◌, Bool, true, false, List, [], ◌∷◌, ◌++◌, length, map, refl, ap, ap₂, ◌∙◌, sym, arith, append_assoc}
use Rattle.std.specs.Prelude.{not, cond, nat_eq, nat_le, ◌||◌, flat_map, filter}
use Rattle.std.proofs.lemmas.List.Elements.{filter-append}
use Rattle.hv_types.specs.declared.settings.Settings.{Settings}
use Rattle.hv_types.specs.declared.picture.Picture.{Picture}
use Rattle.hv_stream_model.specs.Bits.{bytes_of}
use Rattle.hv_stream_model.specs.Fields.{Field, bits_of_fields, aligned}
use Rattle.hv_stream_model.specs.Units.{NalUnit, TRAIL_R, IDR_N_LP, IsUnit, unit_bytes}
use Rattle.hv_stream_model.specs.Headers.{SliceHeader, vps, sps, pps, parameter_sets, size_of}
use Rattle.hv_stream_model.specs.UnitLaws.{AreUnits, stream_of}
use Rattle.hv_stream_model.proofs.FieldLemmas.{last_of-aligned}
use Rattle.hv_group_model.specs.Structure.{Coded, coding}
use Rattle.hv_tree_model.specs.Sites.{Site}
use Rattle.hv_tree_model.specs.Trees.{CodingTreeUnit}
use Rattle.hv_slice_model.specs.Slices.{is_idr, unit_of_slice, picture_sites, header_in}
use Rattle.hv_model.specs.Parsing.{is_passed_over}
use Rattle.hv_model.specs.Encoding.{groups_of}
use Rattle.hv_slice_model.proofs.SliceEndLemmas.{slices_end}

-- ---- the units

abbrev pub unit_with : ℕ → List ℕ → NalUnit
unit_with nal_unit_type payload =
    record { nal_unit_type = nal_unit_type; nuh_layer_id = 0; TemporalId = 0; payload = payload }

abbrev pub set_unit : ℕ → List Field → NalUnit
set_unit nal_unit_type fields = unit_with nal_unit_type (bytes_of (aligned (bits_of_fields fields)))

-- ---- of a video whose pictures have these units, by group and number in it

module _ (cfg : Settings) (units_of : List Picture → ℕ → List CodingTreeUnit) where
  abbrev pub slice_unit : List Picture → Coded → NalUnit
  slice_unit group c =
      unit_of_slice (header_in cfg (length group) c.picture) (picture_sites cfg)
      (units_of group c.picture)

  abbrev pub group_units : List Picture → List NalUnit
  group_units group = map (slice_unit group) (coding (length group) cfg.levels)

  -- behind the parameter sets the units of these groups
  abbrev pub units_with : List (List Picture) → List NalUnit
  units_with groups =
      set_unit 32 (vps cfg.levels) ∷ set_unit 33 (sps cfg.levels (size_of cfg)) ∷
      set_unit 34 pps ∷ flat_map group_units groups

  -- what is written
  abbrev pub group_written : List Picture → List ℕ
  group_written group =
      flat_map (λ bytes. bytes)
      (map (λ c. unit_bytes (slice_unit group c)) (coding (length group) cfg.levels))

  abbrev pub written_with : List (List Picture) → List ℕ
  written_with groups = parameter_sets cfg ++ flat_map group_written groups

  abbrev pub written : List Picture → List ℕ
  written [] = []
  written (picture ∷ pictures) = written_with (groups_of cfg (picture ∷ pictures))

-- ---- the stream

stream-append : (a b : List NalUnit) → stream_of (a ++ b) ≡ stream_of a ++ stream_of b
stream-append [] b = refl
stream-append (unit ∷ a) b =
    ap (λ bytes. unit_bytes unit ++ bytes) (stream-append a b) ∙
    sym (append_assoc (unit_bytes unit) (stream_of a) (stream_of b))

slices_joined : (unit_of : Coded → NalUnit) (order : List Coded) →
    flat_map (λ bytes. bytes) (map (λ c. unit_bytes (unit_of c)) order) ≡
    stream_of (map unit_of order)
slices_joined unit_of [] = refl
slices_joined unit_of (c ∷ order) =
    ap (λ bytes. unit_bytes (unit_of c) ++ bytes) (slices_joined unit_of order)

three_and : (a b c d : List ℕ) → a ++ b ++ c ++ d ≡ a ++ (b ++ (c ++ d))
three_and a b c d = simp append_assoc

module _ (cfg : Settings) (units_of : List Picture → ℕ → List CodingTreeUnit) where
  groups_joined : (groups : List (List Picture)) →
      flat_map (group_written cfg units_of) groups ≡
      stream_of (flat_map (group_units cfg units_of) groups)
  groups_joined [] = refl
  groups_joined (group ∷ groups) =
      ap₂ (λ a b. a ++ b)
      (slices_joined (slice_unit cfg units_of group) (coding (length group) cfg.levels))
      (groups_joined groups) ∙
      sym
      (stream-append (group_units cfg units_of group) (flat_map (group_units cfg units_of) groups))

  pub units_joined : (groups : List (List Picture)) →
      written_with cfg units_of groups ≡ stream_of (units_with cfg units_of groups)
  units_joined groups =
      let video : List ℕ = unit_bytes (set_unit 32 (vps cfg.levels)) in
      let sequence : List ℕ = unit_bytes (set_unit 33 (sps cfg.levels (size_of cfg))) in
      let parameters : List ℕ = unit_bytes (set_unit 34 pps) in
      three_and video sequence parameters (flat_map (group_written cfg units_of) groups) ∙
      ap (λ bytes. video ++ (sequence ++ (parameters ++ bytes))) (groups_joined groups)

-- ---- they are units

set_is_unit : (kind : ℕ) (fields : List Field) → kind < 64 → IsUnit (set_unit kind fields)
set_is_unit kind fields h =
    record {
      kind = h;
      layer = omega arith;
      temporal = omega arith;
      ends = last_of-aligned (bits_of_fields fields);
    }

small_type : (t : Bool) → cond t IDR_N_LP TRAIL_R < 64
small_type true = omega arith
small_type false = omega arith

slice_is_unit : (header : SliceHeader) (sites : List Site) (units : List CodingTreeUnit) →
    IsUnit (unit_of_slice header sites units)
slice_is_unit header sites units =
    record {
      kind = small_type (is_idr header);
      layer = omega arith;
      temporal = omega arith;
      ends = slices_end header sites units;
    }

module _ (cfg : Settings) (units_of : List Picture → ℕ → List CodingTreeUnit) where
  group_are_units : (group : List Picture) (order : List Coded) (behind : List NalUnit) →
      AreUnits behind → AreUnits (map (slice_unit cfg units_of group) order ++ behind)
  group_are_units group [] behind h = h
  group_are_units group (c ∷ order) behind h = (
    slice_is_unit (header_in cfg (length group) c.picture) (picture_sites cfg)
        (units_of group c.picture),
    group_are_units group order behind h,
  )

  groups_are_units : (groups : List (List Picture)) →
      AreUnits (flat_map (group_units cfg units_of) groups)
  groups_are_units [] = tt
  groups_are_units (group ∷ groups) =
      group_are_units group (coding (length group) cfg.levels)
      (flat_map (group_units cfg units_of) groups) (groups_are_units groups)

  pub all_units : (groups : List (List Picture)) → AreUnits (units_with cfg units_of groups)
  all_units groups = (
    set_is_unit 32 (vps cfg.levels) (omega arith),
    (
      set_is_unit 33 (sps cfg.levels (size_of cfg)) (omega arith),
      (set_is_unit 34 pps (omega arith), groups_are_units groups),
    ),
  )

-- ---- none of them is passed over

kept_type : (t : Bool) →
    not (nat_eq (cond t IDR_N_LP TRAIL_R) 35 || nat_le 38 (cond t IDR_N_LP TRAIL_R)) ≡ true
kept_type true = refl
kept_type false = refl

kept_first : (t : Bool) (unit : NalUnit) (kept rest : List NalUnit) → t ≡ true → kept ≡ rest →
    cond t (unit ∷ kept) kept ≡ unit ∷ rest
kept_first t unit kept rest e f = rw (e, f) refl

module _ (cfg : Settings) (units_of : List Picture → ℕ → List CodingTreeUnit) where
  group_kept : (group : List Picture) (order : List Coded) →
      filter (λ unit. not (is_passed_over unit)) (map (slice_unit cfg units_of group) order) ≡
      map (slice_unit cfg units_of group) order
  group_kept group [] = refl
  group_kept group (c ∷ order) =
      kept_first (not (is_passed_over (slice_unit cfg units_of group c)))
      (slice_unit cfg units_of group c)
      (filter (λ unit. not (is_passed_over unit)) (map (slice_unit cfg units_of group) order))
      (map (slice_unit cfg units_of group) order)
      (kept_type (is_idr (header_in cfg (length group) c.picture))) (group_kept group order)

  pub groups_kept : (groups : List (List Picture)) →
      filter (λ unit. not (is_passed_over unit)) (flat_map (group_units cfg units_of) groups) ≡
      flat_map (group_units cfg units_of) groups
  groups_kept [] = refl
  groups_kept (group ∷ groups) =
      filter-append (λ unit. not (is_passed_over unit)) (group_units cfg units_of group)
      (flat_map (group_units cfg units_of) groups) ∙
      ap₂ (λ a b. a ++ b)
      (group_kept group (coding (length group) cfg.levels))
      (groups_kept groups)
