-- What is read of a payload is what it was made with.
use Rattle.std.specs.Prelude.{◌≡◌, ◌≢◌, ℕ, ◌%◌, ◌<◌, ◌≤◌, List, [], ◌++◌, length, replicate, Some}
use Rattle.hv_tables.specs.declared.bins.SliceKind.{SliceKind}
use Rattle.hv_types.specs.Configuration.{most_levels}
use Rattle.hv_stream_model.specs.Bits.{bytes_of}
use Rattle.hv_stream_model.specs.Scripts.{Reads}
use Rattle.hv_stream_model.specs.Fields.{Field, AllCodable, bits_of_fields, HeaderScript, padding_of, aligned}
use Rattle.hv_stream_model.specs.Units.{NalUnit}
use Rattle.hv_stream_model.specs.Headers.{Size, SliceHeader, used_count}
use Rattle.hv_stream_model.specs.HeaderLaws.{IsAllowedSlice}
use Rattle.hv_entropy_model.specs.CodeWord.{word}
use Rattle.hv_tree_model.specs.Trees.{CodingTreeUnit}
use Rattle.hv_tree_model.specs.Sites.{Site}
use Rattle.hv_tree_model.specs.Validity.{AreValid}
use Rattle.hv_unit_model.specs.Bins.{slice_bins}
use Rattle.hv_slice_model.specs.Slices.{idr_header, unit_of_slice}
use Rattle.hv_model.specs.Parsing.{parameters, behind_alignment, slice_data, sites_of, picture_of_unit}

-- a parameter set (7.3.2), from its fields and their trailing bits
abbrev pub ParametersAreRead : Type 0 → Type 0
ParametersAreRead A =
    (script : HeaderScript A) (fields : List Field) (value : A) (unit : NalUnit) →
    Reads script fields value → AllCodable fields →
    unit.payload ≡ bytes_of (aligned (bits_of_fields fields)) →
    parameters script unit ≡ Some value

-- byte_alignment (7.3.2.12) behind so many bits, and whole bytes behind it
abbrev pub AlignmentIsRead : Type 0
AlignmentIsRead =
    (before : ℕ) (bits : List ℕ) → length bits % 8 ≡ 0 →
    behind_alignment (padding_of before ++ bits) ≡ Some bits

-- slice_segment_data (7.3.8.1) of any kind, with any number of references, from its code word and
-- zeros to the byte
abbrev pub SliceDataIsRead : Type 0
SliceDataIsRead =
    (slice_type : SliceKind) (references qp : ℕ) (sites : List Site) (units : List CodingTreeUnit)
    (zeros : ℕ) →
    sites ≢ [] → AreValid slice_type references sites units → zeros < 8 →
    slice_data slice_type references qp sites
    (word slice_type qp (slice_bins slice_type references sites units) ++ replicate zeros 0) ≡
    Some units

-- the slice headers of this profile, by the number of temporal levels
pub data IsHeader (levels : ℕ) : SliceHeader → Type 0 where
  of_idr : (qp : ℕ) → qp ≤ 51 → IsHeader levels (idr_header qp)
  of_other : (header : SliceHeader) → IsAllowedSlice levels header → IsHeader levels header

-- the coded picture of a unit with such a header
abbrev pub SlicesAreRead : Type 0
SlicesAreRead =
    (levels : ℕ) (size : Size) (header : SliceHeader) (units : List CodingTreeUnit) →
    levels ≤ most_levels → sites_of size ≢ [] → IsHeader levels header →
    AreValid header.slice_type (used_count header.references) (sites_of size) units →
    picture_of_unit levels size (unit_of_slice header (sites_of size) units) ≡
    Some (record { header = header; units = units })
