-- The syntax of a byte stream (clause 7 and Annex B): the coded pictures that stand in it; none
-- where it isn't a stream of this profile.
use Rattle.std.specs.Prelude.{ℕ, ◌+◌, ◌-◌, ◌%◌, Bool, false, cond, not, nat_eq, nat_lt, nat_le, ◌&&◌, ◌||◌, List, [], ◌∷◌, length, take, drop, map, filter, replicate, Option, Some, None, option_and_then, option_map}
use Rattle.std.specs.List.{list_all}
use Rattle.hv_tables.specs.declared.bins.SliceKind.{SliceKind}
use Rattle.hv_stream_model.specs.Bits.{bits_of}
use Rattle.hv_stream_model.specs.Scripts.{Done, ◌>>=◌}
use Rattle.hv_stream_model.specs.Fields.{HeaderScript, read_header}
use Rattle.hv_stream_model.specs.Units.{NalUnit, TRAIL_R, IDR_N_LP, VPS_NUT, SPS_NUT, PPS_NUT, units_of, is_zero, same_bytes, last_of}
use Rattle.hv_stream_model.specs.Headers.{Size, SliceHeader, used_count, read_vps, read_sps, read_pps, read_idr_slice, read_slice}
use Rattle.hv_entropy_model.specs.Oracle.{Oracle, begin, read, bits_left}
use Rattle.hv_tree_model.specs.Trees.{CodingTreeUnit}
use Rattle.hv_tree_model.specs.Sites.{Site, sites}
use Rattle.hv_unit_model.specs.BlockSyntax.{slice_segment_data}
use Rattle.hv_slice_model.specs.Slices.{idr_header, is_idr}

-- ---- parameter sets

-- rbsp_trailing_bits (7.3.2.11): a one and at most seven zeros
abbrev pub is_trailing : List ℕ → Bool
is_trailing [] = false
is_trailing (bit ∷ bits) = nat_eq bit 1 && list_all is_zero bits && nat_lt (length bits) 8

abbrev pub if_trailing : {A : Type 0} → Option (A × List ℕ) → Option A
if_trailing None = None
if_trailing (Some r) = cond (is_trailing r.1) (Some r.0) None

abbrev pub parameters : {A : Type 0} → HeaderScript A → NalUnit → Option A
parameters script unit = if_trailing (read_header script (bits_of unit.payload))

-- a unit of this type, of the base layer and the lowest sub-layer
abbrev pub has_type : ℕ → NalUnit → Bool
has_type nal_unit_type unit =
    nat_eq unit.nal_unit_type nal_unit_type &&
    nat_eq unit.nuh_layer_id 0 &&
    nat_eq unit.TemporalId 0

-- ---- a slice

-- byte_alignment (7.3.2.12): the bits behind it
abbrev pub behind_alignment : List ℕ → Option (List ℕ)
behind_alignment bits =
    let n = (length bits + 7) % 8 + 1 in
    cond (same_bytes (take n bits) (1 ∷ replicate (n - 1) 0)) (Some (drop n bits)) None

-- the slice data ended with a bit 1, and with it the payload but for zeros to the byte
abbrev pub is_slice_end : List ℕ → List ℕ → Bool
is_slice_end bits left =
    nat_eq (last_of (take (length bits - length left) bits)) 1 &&
    list_all is_zero left &&
    nat_lt (length left) 8

abbrev pub if_ended : List ℕ → Option (List CodingTreeUnit × Oracle) → Option (List CodingTreeUnit)
if_ended bits None = None
if_ended bits (Some r) = cond (is_slice_end bits (bits_left r.1)) (Some r.0) None

-- slice_segment_data (7.3.8.1) of these blocks, in a slice of this kind with so many references
abbrev pub slice_data :
    SliceKind → ℕ → ℕ → List Site → List ℕ → Option (List CodingTreeUnit)
slice_data slice_type references qp sites bits =
    if_ended bits
    (option_and_then (λ oracle. read (slice_segment_data slice_type references sites) oracle)
    (begin bits slice_type qp))

-- .. behind this header: the number of active references is that of the used ones
abbrev pub data_behind : SliceHeader → List Site → List ℕ → Option (List CodingTreeUnit)
data_behind header sites bits =
    slice_data header.slice_type (used_count header.references) header.qp sites bits

-- the blocks of a picture
abbrev pub sites_of : Size → List Site
sites_of size = sites size.pic_width_in_luma_samples size.pic_height_in_luma_samples

-- a coded picture, which has one slice
pub record CodedPicture : Type 0 where
  pub header : SliceHeader
  pub units : List CodingTreeUnit

abbrev pub picture_behind : Size → Option (SliceHeader × List ℕ) → Option CodedPicture
picture_behind size None = None
picture_behind size (Some r) =
    option_map (λ units. record { header = r.0; units = units })
    (option_and_then (data_behind r.0 (sites_of size)) (behind_alignment r.1))

abbrev pub picture_with : HeaderScript SliceHeader → Size → NalUnit → Option CodedPicture
picture_with script size unit = picture_behind size (read_header script (bits_of unit.payload))

abbrev pub read_idr_header : HeaderScript SliceHeader
read_idr_header = read_idr_slice >>= λ qp. Done (idr_header qp)

-- a unit of a picture, of this size, with so many temporal levels
abbrev pub picture_of_unit : ℕ → Size → NalUnit → Option CodedPicture
picture_of_unit levels size unit =
    cond (has_type IDR_N_LP unit) (picture_with read_idr_header size unit)
    (cond (has_type TRAIL_R unit) (picture_with (read_slice levels) size unit) None)

-- ---- the stream

abbrev pub picture_then :
    Option CodedPicture → Option (List CodedPicture) → Option (List CodedPicture)
picture_then None pictures = None
picture_then (Some picture) None = None
picture_then (Some picture) (Some pictures) = Some (picture ∷ pictures)

abbrev pub pictures_of_units : ℕ → Size → List NalUnit → Option (List CodedPicture)
pictures_of_units levels size [] = Some []
pictures_of_units levels size (unit ∷ units) =
    picture_then (picture_of_unit levels size unit) (pictures_of_units levels size units)

-- a coded video sequence: the pictures from an IDR picture up to the next one, of one size
pub record Sequence : Type 0 where
  pub size : Size
  pub pictures : List CodedPicture

abbrev pub begins_with_idr : List CodedPicture → Bool
begins_with_idr [] = false
begins_with_idr (picture ∷ pictures) = is_idr picture.header

abbrev pub in_front : CodedPicture → List (List CodedPicture) → List (List CodedPicture)
in_front picture [] = (picture ∷ []) ∷ []
in_front picture (first ∷ others) = (picture ∷ first) ∷ others

abbrev pub cut_at_idrs : List CodedPicture → List (List CodedPicture)
cut_at_idrs [] = []
cut_at_idrs (picture ∷ pictures) =
    cond (begins_with_idr pictures)
    ((picture ∷ []) ∷ cut_at_idrs pictures)
    (in_front picture (cut_at_idrs pictures))

abbrev pub sequences_of : Size → List CodedPicture → List Sequence
sequences_of size pictures =
    map (λ sequence. record { size = size; pictures = sequence }) (cut_at_idrs pictures)

-- access unit delimiters, filler, SEI and reserved types say nothing of the pictures
abbrev pub is_passed_over : NalUnit → Bool
is_passed_over unit = nat_eq unit.nal_unit_type 35 || nat_le 38 unit.nal_unit_type

-- VPS and SPS tell the same number of temporal levels
abbrev pub with_parameters :
    Option ℕ → Option (ℕ × Size) → Option (Unit {0}) → List NalUnit → Option (List Sequence)
with_parameters None sps pps units = None
with_parameters (Some levels) None pps units = None
with_parameters (Some levels) (Some sps) None units = None
with_parameters (Some levels) (Some sps) (Some pps) units =
    cond (nat_eq levels sps.0)
    (option_map (sequences_of sps.1) (pictures_of_units levels sps.1 units))
    None

abbrev pub sequences_after_sets : List NalUnit → Option (List Sequence)
sequences_after_sets [] = Some []
sequences_after_sets (vps ∷ []) = None
sequences_after_sets (vps ∷ sps ∷ []) = None
sequences_after_sets (vps ∷ sps ∷ pps ∷ units) =
    cond (has_type VPS_NUT vps && has_type SPS_NUT sps && has_type PPS_NUT pps)
    (with_parameters
    (parameters read_vps vps) (parameters read_sps sps) (parameters read_pps pps) units)
    None

abbrev pub parsed_units : List NalUnit → Option (List Sequence)
parsed_units units = sequences_after_sets (filter (λ unit. not (is_passed_over unit)) units)

-- the coded video sequences of a byte stream
abbrev pub parsed_of : List ℕ → Option (List Sequence)
parsed_of bytes = option_and_then parsed_units (units_of bytes)
