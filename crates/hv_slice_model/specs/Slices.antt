-- The slice of a picture, IDR picture or not: its header by one record, the pictures that its
-- reference picture set names (8.3.2), list 0 (8.3.4), and its unit.
use Rattle.std.specs.Prelude.{ℕ, zero, suc, ◌+◌, ◌-◌, Bool, cond, nat_eq, List, [], ◌++◌, map, filter}
use Rattle.hv_tables.specs.declared.bins.SliceKind.TheVariants.{I}
use Rattle.hv_types.specs.declared.settings.Settings.{Settings}
use Rattle.hv_types.specs.Configuration.{padded_width, padded_height}
use Rattle.hv_group_model.specs.Structure.{Kept, ReferenceSet, qp_at}
use Rattle.hv_stream_model.specs.Bits.{bytes_of}
use Rattle.hv_stream_model.specs.Units.{NalUnit, TRAIL_R, IDR_N_LP}
use Rattle.hv_stream_model.specs.Fields.{Field, bits_of_fields, aligned}
use Rattle.hv_stream_model.specs.Headers.{SliceHeader, used_count, idr_slice, slice}
use Rattle.hv_stream_model.specs.HeaderLaws.{header_of}
use Rattle.hv_entropy_model.specs.CodeWord.{word}
use Rattle.hv_tree_model.specs.Trees.{CodingTreeUnit}
use Rattle.hv_tree_model.specs.Sites.{Site, sites}
use Rattle.hv_unit_model.specs.Bins.{slice_bins}

-- ---- headers

abbrev pub no_pictures : ReferenceSet
no_pictures = record { before = []; after = [] }

-- an IDR picture in the terms of the others: an I slice, the picture order count 0 (8.3.1), and a
-- reference picture set without pictures (8.3.2)
abbrev pub idr_header : ℕ → SliceHeader
idr_header qp = record {
  slice_type = I;
  slice_pic_order_cnt_lsb = 0;
  references = no_pictures;
  qp = qp;
}

-- PicOrderCntVal: in this profile what slice_pic_order_cnt_lsb says (8.3.1)
abbrev pub count_of : SliceHeader → ℕ
count_of header = header.slice_pic_order_cnt_lsb

-- the other pictures of a sequence have counts from 1 on
abbrev pub is_idr : SliceHeader → Bool
is_idr header = nat_eq (count_of header) 0

abbrev pub nal_unit_type_of : SliceHeader → ℕ
nal_unit_type_of header = cond (is_idr header) IDR_N_LP TRAIL_R

-- slice_segment_header (7.3.6.1)
abbrev pub header_fields : SliceHeader → List Field
header_fields header = cond (is_idr header) (idr_slice header.qp) (slice header)

-- ---- reference pictures, by their counts

-- of the picture of this count, those at these distances before it, and those behind it: no set is
-- read that names a picture before the first
abbrev pub counts_before : ℕ → List Kept → List ℕ
counts_before count side = map (λ kept. count - kept.distance) side

abbrev pub counts_after : ℕ → List Kept → List ℕ
counts_after count side = map (λ kept. count + kept.distance) side

-- the pictures that the set names (8.3.2)
abbrev pub set_counts : SliceHeader → List ℕ
set_counts header =
    counts_before (count_of header) header.references.before ++
    counts_after (count_of header) header.references.after

abbrev pub used : List Kept → List Kept
used side = filter (λ kept. kept.is_used) side

-- RefPicList0 (8.3.4): the used ones before the picture, the nearest first, which are
-- PocStCurrBefore, and then those behind it, the nearest first, which are PocStCurrAfter
abbrev pub list_0 : SliceHeader → List ℕ
list_0 header =
    counts_before (count_of header) (used header.references.before) ++
    counts_after (count_of header) (used header.references.after)

-- ---- the unit

-- the code word of slice data behind this header
abbrev pub word_behind : SliceHeader → List Site → List CodingTreeUnit → List ℕ
word_behind header sites units =
    word header.slice_type header.qp
    (slice_bins header.slice_type (used_count header.references) sites units)

-- the payload of a slice of these blocks
abbrev pub payload_of_slice : SliceHeader → List Site → List CodingTreeUnit → List ℕ
payload_of_slice header sites units =
    bytes_of
    (aligned (bits_of_fields (header_fields header)) ++ word_behind header sites units)

-- its unit, of the base layer and the lowest sub-layer
abbrev pub unit_of_slice : SliceHeader → List Site → List CodingTreeUnit → NalUnit
unit_of_slice header sites units = record {
  nal_unit_type = nal_unit_type_of header;
  nuh_layer_id = 0;
  TemporalId = 0;
  payload = payload_of_slice header sites units;
}

-- ---- a picture of a group

-- the blocks of a padded picture
abbrev pub picture_sites : Settings → List Site
picture_sites cfg = sites (padded_width cfg) (padded_height cfg)

-- the slice header of a picture of a group of so many: the first one is an IDR picture of depth 0,
-- the others are P pictures
abbrev pub header_in : Settings → ℕ → ℕ → SliceHeader
header_in cfg count zero = idr_header (qp_at cfg.qp 0)
header_in cfg count (suc k) = header_of count cfg.levels cfg.qp (suc k)
