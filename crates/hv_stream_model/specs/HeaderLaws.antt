-- What is read of a header is what its table was made with.
use Rattle.std.specs.Prelude.{◌≡◌, ℕ, suc, ◌+◌, ◌-◌, ◌%◌, ◌<◌, ◌≤◌, ℤ, List, [], ◌∷◌, ◌++◌}
use Rattle.hv_types.specs.Configuration.{most_levels}
use Rattle.hv_tables.specs.declared.bins.SliceKind.{SliceKind}
use Rattle.hv_tables.specs.declared.bins.SliceKind.TheVariants.{I, P}
use Rattle.hv_types.specs.declared.settings.Settings.{Settings}
use Rattle.hv_types.specs.Configuration as configuration
use Rattle.hv_stream_model.specs.Scripts.{Reads}
use Rattle.hv_stream_model.specs.Fields.{Field, AllCodable, bits_of_fields, code_num, signed_of, HeaderScript}
use Rattle.hv_group_model.specs.Structure.{Kept, set_size, reference_set, coded_of, qp_at}
use Rattle.hv_stream_model.specs.Headers.{Size, size_of, vps, sps, pps, idr_slice, read_vps, read_sps, read_pps, read_idr_slice, SliceHeader, most_count, used_count, slice, slice_header_of, read_slice}

-- the signed number of a codeNum, and the codeNum of a signed number (9.2.2)
abbrev pub SignedComesBack : Type 0
SignedComesBack = (value : ℤ) → signed_of (code_num value) ≡ value

-- the sizes of this profile
pub record IsAllowed (size : Size) : Type 0 where
  pub width_multiple : size.pic_width_in_luma_samples % 8 ≡ 0
  pub width_least : 8 ≤ size.pic_width_in_luma_samples
  pub width_most : size.pic_width_in_luma_samples ≤ 4096
  pub height_multiple : size.pic_height_in_luma_samples % 8 ≡ 0
  pub height_least : 8 ≤ size.pic_height_in_luma_samples
  pub height_most : size.pic_height_in_luma_samples ≤ 2176
  pub right : size.conf_win_right_offset ≤ 3
  pub bottom : size.conf_win_bottom_offset ≤ 3

-- the size of settings without a fault
abbrev pub SizesAreAllowed : Type 0
SizesAreAllowed = (cfg : Settings) → configuration.IsValid cfg → IsAllowed (size_of cfg)

abbrev pub VideoParametersAreRead : Type 0
VideoParametersAreRead = (levels : ℕ) → levels ≤ most_levels → Reads read_vps (vps levels) levels

abbrev pub SequenceParametersAreRead : Type 0
SequenceParametersAreRead =
    (levels : ℕ) (size : Size) → levels ≤ most_levels → IsAllowed size →
    Reads read_sps (sps levels size) (levels, size)

abbrev pub PictureParametersAreRead : Type 0
PictureParametersAreRead = Reads read_pps pps tt

abbrev pub SliceHeadersAreRead : Type 0
SliceHeadersAreRead = (qp : ℕ) → qp ≤ 51 → Reads read_idr_slice (idr_slice qp) qp

-- ---- every value of a header can be coded

abbrev pub VideoParametersAreCodable : Type 0
VideoParametersAreCodable = (levels : ℕ) → levels ≤ most_levels → AllCodable (vps levels)

abbrev pub SequenceParametersAreCodable : Type 0
SequenceParametersAreCodable =
    (levels : ℕ) (size : Size) → levels ≤ most_levels → IsAllowed size →
    AllCodable (sps levels size)

abbrev pub PictureParametersAreCodable : Type 0
PictureParametersAreCodable = AllCodable pps

abbrev pub SliceHeadersAreCodable : Type 0
SliceHeadersAreCodable = (qp : ℕ) → qp ≤ 51 → AllCodable (idr_slice qp)

-- ---- slice headers of other pictures than an IDR

-- the pictures of one side of a set stand farther and farther from one at this distance
abbrev pub Rise : ℕ → List Kept → Type 0
Rise from [] = Unit {0}
Rise from (kept ∷ rest) = (from < kept.distance) × Rise kept.distance rest

-- and none of them farther than this
abbrev pub AreWithin : ℕ → List Kept → Type 0
AreWithin most [] = Unit {0}
AreWithin most (kept ∷ rest) = (kept.distance ≤ most) × AreWithin most rest

-- a P slice refers to one picture or to two
abbrev pub AreReferred : SliceKind → ℕ → Type 0
AreReferred I used = Unit {0}
AreReferred P used = (1 ≤ used) × (used ≤ 2)

-- the slice headers of this profile, by the number of temporal levels
pub record IsAllowedSlice (levels : ℕ) (header : SliceHeader) : Type 0 where
  pub count_least : 1 ≤ header.slice_pic_order_cnt_lsb
  pub count_most : header.slice_pic_order_cnt_lsb ≤ most_count
  pub kept : set_size header.references ≤ levels + 1
  pub before : Rise 0 header.references.before
  pub after : Rise 0 header.references.after
  -- each picture of the set has a count from 0 to the greatest
  pub before_most : AreWithin header.slice_pic_order_cnt_lsb header.references.before
  pub after_most : AreWithin (most_count - header.slice_pic_order_cnt_lsb) header.references.after
  pub referred : AreReferred header.slice_type (used_count header.references)
  pub qp : header.qp ≤ 51

abbrev pub OtherSlicesAreRead : Type 0
OtherSlicesAreRead =
    (levels : ℕ) (header : SliceHeader) → IsAllowedSlice levels header →
    Reads (read_slice levels) (slice header) header

abbrev pub OtherSlicesAreCodable : Type 0
OtherSlicesAreCodable =
    (levels : ℕ) (header : SliceHeader) → levels ≤ most_levels → IsAllowedSlice levels header →
    AllCodable (slice header)

-- what is free of the header of a picture of a group, but of the first
abbrev pub header_of : ℕ → ℕ → ℕ → ℕ → SliceHeader
header_of count levels qp picture = record {
  slice_type = P;
  slice_pic_order_cnt_lsb = picture;
  references = reference_set count levels picture;
  qp = qp_at qp (coded_of count levels picture).depth;
}

-- the header of each picture of a group but the first is one of this profile
abbrev pub SlicesOfGroupsAreAllowed : Type 0
SlicesOfGroupsAreAllowed =
    (count levels qp k : ℕ) → count ≤ 64 → levels ≤ most_levels → suc k < count →
    (slice_header_of count levels qp (suc k) ≡ slice (header_of count levels qp (suc k))) ×
    IsAllowedSlice levels (header_of count levels qp (suc k))

-- ---- bits

-- Of fields that a script reads, with any bits behind theirs, all these bits tell which fields they
-- are, what the script reads, and what the bits behind are.
abbrev pub BitsDetermineFields : Type 0 → Type 0
BitsDetermineFields A =
    (script : HeaderScript A) (fields others : List Field) (a b : A) (rest more : List ℕ) →
    AllCodable fields → AllCodable others → Reads script fields a → Reads script others b →
    bits_of_fields fields ++ rest ≡ bits_of_fields others ++ more →
    (fields ≡ others) × (a ≡ b) × (rest ≡ more)
