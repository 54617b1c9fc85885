-- Decoding (clauses 7 to 9 and Annex B): the pictures that a byte stream shows, in output order;
-- none where it isn't a stream of this profile. Its syntax is read first (`Parsing`), and then its
-- pictures are decoded, each from those that are kept (8.1, 8.3).
use Rattle.std.specs.Prelude.{ℕ, ◌+◌, ◌-◌, ◌*◌, Bool, true, cond, not, nat_eq, ◌&&◌, List, [], ◌∷◌, ◌++◌, map, flat_map, filter, Option, Some, None, option_and_then, option_map}
use Rattle.std.specs.List.{list_any}
use Rattle.hv_types.specs.declared.picture.Picture.{Picture}
use Rattle.hv_types.specs.Video.{crop}
use Rattle.hv_group_model.specs.Structure.{rising}
use Rattle.hv_stream_model.specs.Headers.{Size, most_count}
use Rattle.hv_slice_model.specs.Slices.{count_of, set_counts, list_0}
use Rattle.hv_model.specs.Parsing.{CodedPicture, Sequence, begins_with_idr, parsed_of}
use Rattle.hv_model.specs.Reconstruction.{DecodedPicture, reconstructed}

-- ---- reference pictures (8.3.2, 8.3.4)

abbrev pub has_count : ℕ → DecodedPicture → Bool
has_count count picture = nat_eq count picture.PicOrderCntVal

abbrev pub found_then :
    List DecodedPicture → Option (List DecodedPicture) → Option (List DecodedPicture)
found_then [] others = None
found_then (found ∷ rest) None = None
found_then (found ∷ rest) (Some others) = Some (found ∷ others)

-- the kept pictures of these counts; none where one of them isn't there
abbrev pub named : List DecodedPicture → List ℕ → Option (List DecodedPicture)
named kept [] = Some []
named kept (count ∷ counts) = found_then (filter (has_count count) kept) (named kept counts)

-- ---- a coded video sequence

-- a picture of this size, where the pictures of its set are these
abbrev pub decoded_picture :
    Size → List DecodedPicture → CodedPicture → Option DecodedPicture
decoded_picture size members coded =
    option_map (λ picture. record { PicOrderCntVal = count_of coded.header; picture = picture })
    (option_and_then
    (λ references. reconstructed
    size.pic_width_in_luma_samples size.pic_height_in_luma_samples coded.header references
    coded.units)
    (named members (list_0 coded.header)))

-- Pictures in decoding order, where these are kept. What the set of a picture names must be there;
-- behind the picture it is kept itself, and of all others just what its set names.
abbrev pub decoded_from :
    Size → List DecodedPicture → List CodedPicture → Option (List DecodedPicture)
decoded_from size kept [] = Some []
decoded_from size kept (coded ∷ rest) =
    option_and_then
    (λ members. option_and_then
    (λ picture. option_map (λ others. picture ∷ others)
    (decoded_from size (picture ∷ members) rest))
    (decoded_picture size members coded))
    (named kept (set_counts coded.header))

abbrev pub are_different : List ℕ → Bool
are_different [] = true
are_different (count ∷ counts) =
    not (list_any (nat_eq count) counts) && are_different counts

abbrev pub counts_of : List CodedPicture → List ℕ
counts_of pictures = map (λ picture. count_of picture.header) pictures

-- The first picture is an IDR picture, before which nothing is kept, and no count comes twice.
abbrev pub decoded_sequence : Sequence → Option (List DecodedPicture)
decoded_sequence sequence =
    cond (begins_with_idr sequence.pictures && are_different (counts_of sequence.pictures))
    (decoded_from sequence.size [] sequence.pictures)
    None

-- ---- what is shown

-- the order of output: by rising count (C.5.2.2)
abbrev pub by_count : List DecodedPicture → List DecodedPicture
by_count pictures =
    flat_map (λ count. filter (has_count count) pictures) (rising (most_count + 1) 0)

-- what is shown of a picture, cropped by the conformance window
abbrev pub cropped : Size → Picture → Picture
cropped size picture =
    crop picture
    (size.pic_width_in_luma_samples - 2 * size.conf_win_right_offset)
    (size.pic_height_in_luma_samples - 2 * size.conf_win_bottom_offset)

abbrev pub shown_sequence : Sequence → Option (List Picture)
shown_sequence sequence =
    option_map
    (λ pictures. map (λ decoded. cropped sequence.size decoded.picture) (by_count pictures))
    (decoded_sequence sequence)

abbrev pub shown_then : Option (List Picture) → Option (List Picture) → Option (List Picture)
shown_then None others = None
shown_then (Some pictures) None = None
shown_then (Some pictures) (Some others) = Some (pictures ++ others)

-- each sequence is output before the next one
abbrev pub shown_of : List Sequence → Option (List Picture)
shown_of [] = Some []
shown_of (sequence ∷ sequences) = shown_then (shown_sequence sequence) (shown_of sequences)

abbrev pub decode_of : List ℕ → Option (List Picture)
decode_of bytes = option_and_then shown_of (parsed_of bytes)
