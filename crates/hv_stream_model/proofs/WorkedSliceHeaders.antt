-- Worked slice headers (7.3.6.1) and reference sets (7.3.7): those of a picture in the middle of a
-- group, an I slice that isn't an IDR picture's, and refusals one beyond each limit, by hand.
use Rattle.std.proofs.Common.{◌≡◌, refl, ℕ, Bool, true, false, List, [], ◌∷◌}
use Rattle.std.specs.Prelude.{Some, None}
use Rattle.hv_tables.specs.declared.bins.SliceKind.{SliceKind}
use Rattle.hv_tables.specs.declared.bins.SliceKind.TheVariants.{I, P}
use Rattle.hv_group_model.specs.Structure.{Kept, ReferenceSet, reference_set}
use Rattle.hv_stream_model.specs.Bits.{bytes_of, first_bytes}
use Rattle.hv_stream_model.specs.Fields.{bits_of_fields, aligned, log2_of, read_header}
use Rattle.hv_stream_model.specs.Headers.{SliceHeader, set_fields, slice, slice_header_of, read_set, read_slice}

-- ---- the fourth of ten pictures, with three levels

fourth_set_bits :
    bits_of_fields (set_fields (reference_set 10 3 3)) ≡
    0 ∷ 1 ∷ 0 ∷ 0 ∷ 1 ∷ 1 ∷ 1 ∷ 1 ∷ 1 ∷ 1 ∷ 0 ∷ 0 ∷ 1 ∷ 0 ∷ 0 ∷ 0 ∷ []
unfolding log2_of
fourth_set_bits = refl

fourth_header :
    bytes_of (aligned (bits_of_fields (slice_header_of 10 3 32 3))) ≡
    0xD0 ∷ 0x19 ∷ 0x3F ∷ 0x23 ∷ 0xA2 ∷ 0x85 ∷ 0x20 ∷ []
unfolding log2_of first_bytes
fourth_header = refl

-- ---- whole headers

abbrev kept_at : ℕ → Bool → Kept
kept_at distance is_used = record { distance = distance; is_used = is_used }

abbrev set_of : List Kept → List Kept → ReferenceSet
set_of before after = record { before = before; after = after }

abbrev header_at : SliceKind → ℕ → ReferenceSet → ℕ → SliceHeader
header_at slice_type count references qp = record {
  slice_type = slice_type;
  slice_pic_order_cnt_lsb = count;
  references = references;
  qp = qp;
}

-- an I slice of picture 5, which keeps the picture before it
abbrev intra_header : SliceHeader
intra_header = header_at I 5 (set_of (kept_at 1 false ∷ []) []) 26

abbrev intra_bits : List ℕ
intra_bits =
    1 ∷ 1 ∷ 0 ∷ 1 ∷ 1 ∷ 0 ∷ 0 ∷ 0 ∷ 0 ∷ 0 ∷ 1 ∷ 0 ∷ 1 ∷ 0 ∷ 0 ∷ 1 ∷ 0 ∷ 1 ∷ 1 ∷ 0 ∷ 1 ∷ 1 ∷ 1 ∷
    []

intra_written : bits_of_fields (slice intra_header) ≡ intra_bits
unfolding log2_of
intra_written = refl

intra_read : read_header (read_slice 3) intra_bits ≡ Some (intra_header, [])
intra_read = refl

-- the same of slice_type 0 and of 3, which are B and none
type_0 :
    read_header (read_slice 3)
    (1 ∷ 1 ∷ 1 ∷ 0 ∷ 0 ∷ 0 ∷ 0 ∷ 0 ∷ 1 ∷ 0 ∷ 1 ∷ 0 ∷ 0 ∷ 1 ∷ 0 ∷ 1 ∷ 1 ∷ 0 ∷ 1 ∷ 1 ∷ 1 ∷ []) ≡
    None
type_0 = refl

type_3 :
    read_header (read_slice 3)
    (1 ∷ 1 ∷ 0 ∷ 0 ∷ 1 ∷ 0 ∷ 0 ∷ 0 ∷ 0 ∷ 0 ∷ 0 ∷ 0 ∷ 1 ∷ 0 ∷ 1 ∷ 0 ∷ 0 ∷ 1 ∷ 0 ∷ 1 ∷ 1 ∷ 0 ∷ 1 ∷
    1 ∷ 1 ∷ []) ≡
    None
type_3 = refl

-- the least and the greatest count, and those beyond them
count_1 :
    read_header (read_slice 3)
    (1 ∷ 1 ∷ 0 ∷ 1 ∷ 0 ∷ 0 ∷ 0 ∷ 0 ∷ 0 ∷ 0 ∷ 0 ∷ 0 ∷ 1 ∷ 0 ∷ 0 ∷ 1 ∷ 0 ∷ 1 ∷ 1 ∷ 1 ∷ 1 ∷ 1 ∷ 1 ∷
    1 ∷ 0 ∷ 0 ∷ 1 ∷ 0 ∷ 1 ∷ 1 ∷ []) ≡
    Some (header_at P 1 (set_of (kept_at 1 true ∷ []) ([])) 26, [])
count_1 = refl

count_127 :
    read_header (read_slice 3)
    (1 ∷ 1 ∷ 0 ∷ 1 ∷ 0 ∷ 0 ∷ 1 ∷ 1 ∷ 1 ∷ 1 ∷ 1 ∷ 1 ∷ 1 ∷ 0 ∷ 0 ∷ 1 ∷ 0 ∷ 1 ∷ 1 ∷ 1 ∷ 1 ∷ 1 ∷ 1 ∷
    1 ∷ 0 ∷ 0 ∷ 1 ∷ 0 ∷ 1 ∷ 1 ∷ []) ≡
    Some (header_at P 127 (set_of (kept_at 1 true ∷ []) ([])) 26, [])
count_127 = refl

count_0 :
    read_header (read_slice 3)
    (1 ∷ 1 ∷ 0 ∷ 1 ∷ 1 ∷ 0 ∷ 0 ∷ 0 ∷ 0 ∷ 0 ∷ 0 ∷ 0 ∷ 0 ∷ 0 ∷ 1 ∷ 1 ∷ 1 ∷ 1 ∷ 1 ∷ []) ≡
    None
count_0 = refl

count_128 :
    read_header (read_slice 3)
    (1 ∷ 1 ∷ 0 ∷ 1 ∷ 0 ∷ 1 ∷ 0 ∷ 0 ∷ 0 ∷ 0 ∷ 0 ∷ 0 ∷ 0 ∷ 0 ∷ 0 ∷ 1 ∷ 0 ∷ 1 ∷ 1 ∷ 1 ∷ 1 ∷ 1 ∷ 1 ∷
    1 ∷ 0 ∷ 0 ∷ 1 ∷ 0 ∷ 1 ∷ 1 ∷ []) ≡
    None
count_128 = refl

count_254 :
    read_header (read_slice 3)
    (1 ∷ 1 ∷ 0 ∷ 1 ∷ 0 ∷ 1 ∷ 1 ∷ 1 ∷ 1 ∷ 1 ∷ 1 ∷ 1 ∷ 0 ∷ 0 ∷ 0 ∷ 1 ∷ 0 ∷ 1 ∷ 1 ∷ 1 ∷ 1 ∷ 1 ∷ 1 ∷
    1 ∷ 0 ∷ 0 ∷ 1 ∷ 0 ∷ 1 ∷ 1 ∷ []) ≡
    None
count_254 = refl

-- the least and the greatest quantiser, and those beyond them
quantiser_0 :
    read_header (read_slice 3)
    (1 ∷ 1 ∷ 0 ∷ 1 ∷ 0 ∷ 0 ∷ 0 ∷ 0 ∷ 0 ∷ 0 ∷ 0 ∷ 0 ∷ 1 ∷ 0 ∷ 0 ∷ 1 ∷ 0 ∷ 1 ∷ 1 ∷ 1 ∷ 1 ∷ 1 ∷ 1 ∷
    1 ∷ 0 ∷ 0 ∷ 1 ∷ 0 ∷ 1 ∷ 0 ∷ 0 ∷ 0 ∷ 0 ∷ 0 ∷ 1 ∷ 1 ∷ 0 ∷ 1 ∷ 0 ∷ 1 ∷ []) ≡
    Some (header_at P 1 (set_of (kept_at 1 true ∷ []) ([])) 0, [])
quantiser_0 = refl

quantiser_51 :
    read_header (read_slice 3)
    (1 ∷ 1 ∷ 0 ∷ 1 ∷ 0 ∷ 0 ∷ 0 ∷ 0 ∷ 0 ∷ 0 ∷ 0 ∷ 0 ∷ 1 ∷ 0 ∷ 0 ∷ 1 ∷ 0 ∷ 1 ∷ 1 ∷ 1 ∷ 1 ∷ 1 ∷ 1 ∷
    1 ∷ 0 ∷ 0 ∷ 1 ∷ 0 ∷ 1 ∷ 0 ∷ 0 ∷ 0 ∷ 0 ∷ 0 ∷ 1 ∷ 1 ∷ 0 ∷ 0 ∷ 1 ∷ 0 ∷ []) ≡
    Some (header_at P 1 (set_of (kept_at 1 true ∷ []) ([])) 51, [])
quantiser_51 = refl

quantiser_52 :
    read_header (read_slice 3)
    (1 ∷ 1 ∷ 0 ∷ 1 ∷ 0 ∷ 0 ∷ 0 ∷ 0 ∷ 0 ∷ 0 ∷ 0 ∷ 0 ∷ 1 ∷ 0 ∷ 0 ∷ 1 ∷ 0 ∷ 1 ∷ 1 ∷ 1 ∷ 1 ∷ 1 ∷ 1 ∷
    1 ∷ 0 ∷ 0 ∷ 1 ∷ 0 ∷ 1 ∷ 0 ∷ 0 ∷ 0 ∷ 0 ∷ 0 ∷ 1 ∷ 1 ∷ 0 ∷ 1 ∷ 0 ∷ 0 ∷ []) ≡
    None
quantiser_52 = refl

quantiser_below_0 :
    read_header (read_slice 3)
    (1 ∷ 1 ∷ 0 ∷ 1 ∷ 0 ∷ 0 ∷ 0 ∷ 0 ∷ 0 ∷ 0 ∷ 0 ∷ 0 ∷ 1 ∷ 0 ∷ 0 ∷ 1 ∷ 0 ∷ 1 ∷ 1 ∷ 1 ∷ 1 ∷ 1 ∷ 1 ∷
    1 ∷ 0 ∷ 0 ∷ 1 ∷ 0 ∷ 1 ∷ 0 ∷ 0 ∷ 0 ∷ 0 ∷ 0 ∷ 1 ∷ 1 ∷ 0 ∷ 1 ∷ 1 ∷ 1 ∷ []) ≡
    None
quantiser_below_0 = refl

-- a P slice that refers to two pictures, to none and to three, and another active count
two_used :
    read_header (read_slice 3)
    (1 ∷ 1 ∷ 0 ∷ 1 ∷ 0 ∷ 0 ∷ 0 ∷ 0 ∷ 0 ∷ 1 ∷ 0 ∷ 0 ∷ 1 ∷ 0 ∷ 0 ∷ 1 ∷ 1 ∷ 1 ∷ 1 ∷ 1 ∷ 1 ∷ 1 ∷ 1 ∷
    1 ∷ 1 ∷ 0 ∷ 1 ∷ 0 ∷ 0 ∷ 0 ∷ 1 ∷ 0 ∷ 1 ∷ 1 ∷ []) ≡
    Some (header_at P 9 (set_of (kept_at 1 true ∷ kept_at 2 true ∷ []) ([])) 26, [])
two_used = refl

none_used :
    read_header (read_slice 3)
    (1 ∷ 1 ∷ 0 ∷ 1 ∷ 0 ∷ 0 ∷ 0 ∷ 0 ∷ 0 ∷ 1 ∷ 0 ∷ 0 ∷ 1 ∷ 0 ∷ 0 ∷ 1 ∷ 1 ∷ 1 ∷ 1 ∷ 0 ∷ 1 ∷ 0 ∷ 1 ∷
    1 ∷ 1 ∷ 1 ∷ 0 ∷ 0 ∷ 1 ∷ 0 ∷ 1 ∷ 1 ∷ []) ≡
    None
none_used = refl

three_used :
    read_header (read_slice 3)
    (1 ∷ 1 ∷ 0 ∷ 1 ∷ 0 ∷ 0 ∷ 0 ∷ 0 ∷ 0 ∷ 1 ∷ 0 ∷ 0 ∷ 1 ∷ 0 ∷ 0 ∷ 0 ∷ 1 ∷ 0 ∷ 0 ∷ 1 ∷ 1 ∷ 1 ∷ 1 ∷
    1 ∷ 1 ∷ 1 ∷ 1 ∷ 1 ∷ 1 ∷ 0 ∷ 1 ∷ 1 ∷ 0 ∷ 0 ∷ 1 ∷ 0 ∷ 1 ∷ 1 ∷ []) ≡
    None
three_used = refl

too_many_active :
    read_header (read_slice 3)
    (1 ∷ 1 ∷ 0 ∷ 1 ∷ 0 ∷ 0 ∷ 0 ∷ 0 ∷ 0 ∷ 1 ∷ 0 ∷ 0 ∷ 1 ∷ 0 ∷ 0 ∷ 1 ∷ 0 ∷ 1 ∷ 1 ∷ 1 ∷ 1 ∷ 1 ∷ 1 ∷
    0 ∷ 1 ∷ 0 ∷ 0 ∷ 0 ∷ 1 ∷ 0 ∷ 1 ∷ 1 ∷ []) ≡
    None
too_many_active = refl

-- ---- reference sets

-- one picture more than there are levels, and two more, on one side and on both
one_of_no_levels :
    read_header (read_set 0 64)
    (0 ∷ 1 ∷ 0 ∷ 1 ∷ 1 ∷ 0 ∷ []) ≡
    Some (set_of (kept_at 1 false ∷ []) ([]), [])
one_of_no_levels = refl

two_of_no_levels :
    read_header (read_set 0 64)
    (0 ∷ 1 ∷ 1 ∷ 1 ∷ 1 ∷ 0 ∷ 1 ∷ 0 ∷ []) ≡
    None
two_of_no_levels = refl

one_on_each_side_of_no_levels :
    read_header (read_set 0 64)
    (0 ∷ 1 ∷ 0 ∷ 0 ∷ 1 ∷ 0 ∷ 1 ∷ 0 ∷ 1 ∷ 0 ∷ []) ≡
    None
one_on_each_side_of_no_levels = refl

four_of_three_levels :
    read_header (read_set 3 64)
    (0 ∷ 1 ∷ 1 ∷ 0 ∷ 1 ∷ 1 ∷ 1 ∷ 0 ∷ 1 ∷ 0 ∷ 1 ∷ 0 ∷ 1 ∷ 0 ∷ []) ≡
    Some
    (set_of (kept_at 1 false ∷ kept_at 2 false ∷ []) (kept_at 1 false ∷ kept_at 2 false ∷ []), [])
four_of_three_levels = refl

five_of_three_levels :
    read_header (read_set 3 64)
    (0 ∷ 0 ∷ 1 ∷ 1 ∷ 0 ∷ 1 ∷ 1 ∷ 0 ∷ 1 ∷ 0 ∷ 1 ∷ 0 ∷ 1 ∷ 0 ∷ 1 ∷ 0 ∷ []) ≡
    None
five_of_three_levels = refl

five_on_both_sides :
    read_header (read_set 3 64)
    (0 ∷ 1 ∷ 1 ∷ 0 ∷ 0 ∷ 1 ∷ 0 ∷ 0 ∷ 1 ∷ 0 ∷ 1 ∷ 0 ∷ 1 ∷ 0 ∷ 1 ∷ 0 ∷ 1 ∷ 0 ∷ []) ≡
    None
five_on_both_sides = refl

-- the first picture of a group and the one before it; picture 127 and the one after it
as_far_as_picture_0 :
    read_header (read_set 3 5)
    (0 ∷ 1 ∷ 1 ∷ 1 ∷ 0 ∷ 1 ∷ 0 ∷ 1 ∷ 0 ∷ 1 ∷ 1 ∷ 1 ∷ []) ≡
    Some (set_of (kept_at 2 true ∷ kept_at 5 true ∷ []) ([]), [])
as_far_as_picture_0 = refl

before_picture_0 :
    read_header (read_set 3 5)
    (0 ∷ 1 ∷ 1 ∷ 1 ∷ 0 ∷ 1 ∷ 0 ∷ 1 ∷ 0 ∷ 0 ∷ 1 ∷ 0 ∷ 0 ∷ 1 ∷ []) ≡
    None
before_picture_0 = refl

as_far_as_picture_127 :
    read_header (read_set 3 120)
    (1 ∷ 0 ∷ 1 ∷ 0 ∷ 0 ∷ 0 ∷ 1 ∷ 1 ∷ 1 ∷ 0 ∷ []) ≡
    Some (set_of ([]) (kept_at 7 false ∷ []), [])
as_far_as_picture_127 = refl

after_picture_127 :
    read_header (read_set 3 120)
    (1 ∷ 0 ∷ 1 ∷ 0 ∷ 0 ∷ 0 ∷ 0 ∷ 1 ∷ 0 ∷ 0 ∷ 0 ∷ 0 ∷ []) ≡
    None
after_picture_127 = refl
