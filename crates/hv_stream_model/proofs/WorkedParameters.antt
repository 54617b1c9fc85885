-- Worked parameter sets (7.3.2): whole units of an independent encoder, whose streams two decoders
-- accept, which pin each fixed field of the tables; sizes that are padded on one side alone or
-- unevenly, worked by hand; and refusals one beyond each limit.
use Rattle.std.proofs.Common.{◌≡◌, ℕ, List, [], ◌∷◌, refl}
use Rattle.std.specs.Prelude.{Some, None}
use Rattle.hv_types.specs.declared.settings.Settings.{Settings}
use Rattle.hv_types.specs.declared.settings.Emit.TheVariants.{Stream}
use Rattle.hv_stream_model.specs.Bits.{first_bytes, bytes_of}
use Rattle.hv_stream_model.specs.Fields.{bits_of_fields, aligned, log2_of, read_header}
use Rattle.hv_stream_model.specs.Units.{VPS_NUT, SPS_NUT, PPS_NUT}
use Rattle.hv_stream_model.specs.Headers.{Size, size_of, size_fields, vps, sps, pps, parameter_set, idr_slice, read_ordering, read_size}

abbrev settings_of : ℕ → ℕ → ℕ → Settings
settings_of width height levels = record {
  width = width;
  height = height;
  qp = 26;
  levels = levels;
  group = 1;
  workers = 1;
  effort = 0;
  segment = 4;
  emit = Stream;
  synth = None;
}

-- ---- whole units

video_parameters_at_no_levels :
    parameter_set VPS_NUT (vps 0) ≡
    0x00 ∷ 0x00 ∷ 0x00 ∷ 0x01 ∷ 0x40 ∷ 0x01 ∷ 0x0C ∷ 0x01 ∷ 0xFF ∷ 0xFF ∷ 0x01 ∷ 0x60 ∷ 0x00 ∷
    0x00 ∷ 0x03 ∷ 0x00 ∷ 0x90 ∷ 0x00 ∷ 0x00 ∷ 0x03 ∷ 0x00 ∷ 0x00 ∷ 0x03 ∷ 0x00 ∷ 0x99 ∷ 0xAC ∷
    0x09 ∷ []
unfolding first_bytes log2_of
video_parameters_at_no_levels = refl

video_parameters_at_one_level :
    parameter_set VPS_NUT (vps 1) ≡
    0x00 ∷ 0x00 ∷ 0x00 ∷ 0x01 ∷ 0x40 ∷ 0x01 ∷ 0x0C ∷ 0x01 ∷ 0xFF ∷ 0xFF ∷ 0x01 ∷ 0x60 ∷ 0x00 ∷
    0x00 ∷ 0x03 ∷ 0x00 ∷ 0x90 ∷ 0x00 ∷ 0x00 ∷ 0x03 ∷ 0x00 ∷ 0x00 ∷ 0x03 ∷ 0x00 ∷ 0x99 ∷ 0xB5 ∷
    0x02 ∷ 0x40 ∷ []
unfolding first_bytes log2_of
video_parameters_at_one_level = refl

video_parameters_at_two_levels :
    parameter_set VPS_NUT (vps 2) ≡
    0x00 ∷ 0x00 ∷ 0x00 ∷ 0x01 ∷ 0x40 ∷ 0x01 ∷ 0x0C ∷ 0x01 ∷ 0xFF ∷ 0xFF ∷ 0x01 ∷ 0x60 ∷ 0x00 ∷
    0x00 ∷ 0x03 ∷ 0x00 ∷ 0x90 ∷ 0x00 ∷ 0x00 ∷ 0x03 ∷ 0x00 ∷ 0x00 ∷ 0x03 ∷ 0x00 ∷ 0x99 ∷ 0x91 ∷
    0xC0 ∷ 0x90 ∷ []
unfolding first_bytes log2_of
video_parameters_at_two_levels = refl

video_parameters_at_three_levels :
    parameter_set VPS_NUT (vps 3) ≡
    0x00 ∷ 0x00 ∷ 0x00 ∷ 0x01 ∷ 0x40 ∷ 0x01 ∷ 0x0C ∷ 0x01 ∷ 0xFF ∷ 0xFF ∷ 0x01 ∷ 0x60 ∷ 0x00 ∷
    0x00 ∷ 0x03 ∷ 0x00 ∷ 0x90 ∷ 0x00 ∷ 0x00 ∷ 0x03 ∷ 0x00 ∷ 0x00 ∷ 0x03 ∷ 0x00 ∷ 0x99 ∷ 0x94 ∷
    0x90 ∷ 0x24 ∷ []
unfolding first_bytes log2_of
video_parameters_at_three_levels = refl

sequence_parameters :
    parameter_set SPS_NUT (sps 0 (size_of (settings_of 64 64 0))) ≡
    0x00 ∷ 0x00 ∷ 0x00 ∷ 0x01 ∷ 0x42 ∷ 0x01 ∷ 0x01 ∷ 0x01 ∷ 0x60 ∷ 0x00 ∷ 0x00 ∷ 0x03 ∷ 0x00 ∷
    0x90 ∷ 0x00 ∷ 0x00 ∷ 0x03 ∷ 0x00 ∷ 0x00 ∷ 0x03 ∷ 0x00 ∷ 0x99 ∷ 0xA0 ∷ 0x20 ∷ 0x81 ∷ 0x05 ∷
    0x96 ∷ 0xB9 ∷ 0x24 ∷ 0xCA ∷ 0x08 ∷ []
unfolding first_bytes log2_of
sequence_parameters = refl

sequence_parameters_at_three_levels :
    parameter_set SPS_NUT (sps 3 (size_of (settings_of 66 50 3))) ≡
    0x00 ∷ 0x00 ∷ 0x00 ∷ 0x01 ∷ 0x42 ∷ 0x01 ∷ 0x01 ∷ 0x01 ∷ 0x60 ∷ 0x00 ∷ 0x00 ∷ 0x03 ∷ 0x00 ∷
    0x90 ∷ 0x00 ∷ 0x00 ∷ 0x03 ∷ 0x00 ∷ 0x00 ∷ 0x03 ∷ 0x00 ∷ 0x99 ∷ 0xA0 ∷ 0x24 ∷ 0x83 ∷ 0x9C ∷
    0x92 ∷ 0x65 ∷ 0x94 ∷ 0x99 ∷ 0x24 ∷ 0xCA ∷ 0x08 ∷ []
unfolding first_bytes log2_of
sequence_parameters_at_three_levels = refl

picture_parameters :
    parameter_set PPS_NUT pps ≡
    0x00 ∷ 0x00 ∷ 0x00 ∷ 0x01 ∷ 0x44 ∷ 0x01 ∷ 0xC0 ∷ 0x71 ∷ 0x80 ∷ 0x12 ∷ []
unfolding first_bytes log2_of
picture_parameters = refl

-- ---- the slice header of an IDR picture

idr_slice_of_least_quantiser :
    bytes_of (aligned (bits_of_fields (idr_slice 0))) ≡
    0xAF ∷ 0x06 ∷ 0xB0 ∷ []
unfolding first_bytes log2_of
idr_slice_of_least_quantiser = refl

idr_slice_of_middle_quantiser :
    bytes_of (aligned (bits_of_fields (idr_slice 26))) ≡
    0xAF ∷ 0xC0 ∷ []
unfolding first_bytes log2_of
idr_slice_of_middle_quantiser = refl

idr_slice_of_greatest_quantiser :
    bytes_of (aligned (bits_of_fields (idr_slice 51))) ≡
    0xAF ∷ 0x06 ∷ 0x50 ∷ []
unfolding first_bytes log2_of
idr_slice_of_greatest_quantiser = refl

-- ---- sizes

abbrev size_at : ℕ → ℕ → ℕ → ℕ → Size
size_at width height right bottom = record {
  pic_width_in_luma_samples = width;
  pic_height_in_luma_samples = height;
  conf_win_right_offset = right;
  conf_win_bottom_offset = bottom;
}

-- 66x56: six columns more, and no row
abbrev padded_at_right_bits : List ℕ
padded_at_right_bits =
    0 ∷ 0 ∷ 0 ∷ 0 ∷ 0 ∷ 0 ∷ 1 ∷ 0 ∷ 0 ∷ 1 ∷ 0 ∷ 0 ∷ 1 ∷ 0 ∷ 0 ∷ 0 ∷ 0 ∷ 0 ∷ 1 ∷ 1 ∷ 1 ∷ 0 ∷ 0 ∷
    1 ∷ 1 ∷ 1 ∷ 0 ∷ 0 ∷ 1 ∷ 0 ∷ 0 ∷ 1 ∷ 1 ∷ []

padded_at_right_written :
    bits_of_fields (size_fields (size_of (settings_of 66 56 0))) ≡ padded_at_right_bits
unfolding log2_of
padded_at_right_written = refl

padded_at_right_read :
    read_header read_size padded_at_right_bits ≡ Some (size_at 72 56 3 0, [])
padded_at_right_read = refl

-- 68x50: four columns more, and six rows
abbrev padded_unevenly_bits : List ℕ
padded_unevenly_bits =
    0 ∷ 0 ∷ 0 ∷ 0 ∷ 0 ∷ 0 ∷ 1 ∷ 0 ∷ 0 ∷ 1 ∷ 0 ∷ 0 ∷ 1 ∷ 0 ∷ 0 ∷ 0 ∷ 0 ∷ 0 ∷ 1 ∷ 1 ∷ 1 ∷ 0 ∷ 0 ∷
    1 ∷ 1 ∷ 1 ∷ 0 ∷ 1 ∷ 1 ∷ 1 ∷ 0 ∷ 0 ∷ 1 ∷ 0 ∷ 0 ∷ []

padded_unevenly_written :
    bits_of_fields (size_fields (size_of (settings_of 68 50 0))) ≡ padded_unevenly_bits
unfolding log2_of
padded_unevenly_written = refl

padded_unevenly_read :
    read_header read_size padded_unevenly_bits ≡ Some (size_at 72 56 2 3, [])
padded_unevenly_read = refl

-- 64x52: four rows more
abbrev padded_at_bottom_bits : List ℕ
padded_at_bottom_bits =
    0 ∷ 0 ∷ 0 ∷ 0 ∷ 0 ∷ 0 ∷ 1 ∷ 0 ∷ 0 ∷ 0 ∷ 0 ∷ 0 ∷ 1 ∷ 0 ∷ 0 ∷ 0 ∷ 0 ∷ 0 ∷ 1 ∷ 1 ∷ 1 ∷ 0 ∷ 0 ∷
    1 ∷ 1 ∷ 1 ∷ 1 ∷ 1 ∷ 0 ∷ 1 ∷ 1 ∷ []

padded_at_bottom_written :
    bits_of_fields (size_fields (size_of (settings_of 64 52 0))) ≡ padded_at_bottom_bits
unfolding log2_of
padded_at_bottom_written = refl

padded_at_bottom_read :
    read_header read_size padded_at_bottom_bits ≡ Some (size_at 64 56 0 2, [])
padded_at_bottom_read = refl

-- 64x64
abbrev not_padded_bits : List ℕ
not_padded_bits =
    0 ∷ 0 ∷ 0 ∷ 0 ∷ 0 ∷ 0 ∷ 1 ∷ 0 ∷ 0 ∷ 0 ∷ 0 ∷ 0 ∷ 1 ∷ 0 ∷ 0 ∷ 0 ∷ 0 ∷ 0 ∷ 0 ∷ 1 ∷ 0 ∷ 0 ∷ 0 ∷
    0 ∷ 0 ∷ 1 ∷ 0 ∷ []

not_padded_written :
    bits_of_fields (size_fields (size_of (settings_of 64 64 0))) ≡ not_padded_bits
unfolding log2_of
not_padded_written = refl

not_padded_read :
    read_header read_size not_padded_bits ≡ Some (size_at 64 64 0 0, [])
not_padded_read = refl

-- the greatest sides, and the next multiples of 8
greatest_size :
    read_header read_size
    (0 ∷ 0 ∷ 0 ∷ 0 ∷ 0 ∷ 0 ∷ 0 ∷ 0 ∷ 0 ∷ 0 ∷ 0 ∷ 0 ∷ 1 ∷ 0 ∷ 0 ∷ 0 ∷ 0 ∷ 0 ∷ 0 ∷ 0 ∷ 0 ∷ 0 ∷ 0 ∷
    0 ∷ 1 ∷ 0 ∷ 0 ∷ 0 ∷ 0 ∷ 0 ∷ 0 ∷ 0 ∷ 0 ∷ 0 ∷ 0 ∷ 0 ∷ 1 ∷ 0 ∷ 0 ∷ 0 ∷ 1 ∷ 0 ∷ 0 ∷ 0 ∷ 0 ∷ 0 ∷
    0 ∷ 1 ∷ 0 ∷ []) ≡
    Some (size_at 4096 2176 0 0, [])
greatest_size = refl

width_4104 :
    read_header read_size
    (0 ∷ 0 ∷ 0 ∷ 0 ∷ 0 ∷ 0 ∷ 0 ∷ 0 ∷ 0 ∷ 0 ∷ 0 ∷ 0 ∷ 1 ∷ 0 ∷ 0 ∷ 0 ∷ 0 ∷ 0 ∷ 0 ∷ 0 ∷ 0 ∷ 1 ∷ 0 ∷
    0 ∷ 1 ∷ 0 ∷ 0 ∷ 0 ∷ 0 ∷ 0 ∷ 0 ∷ 0 ∷ 0 ∷ 0 ∷ 0 ∷ 0 ∷ 1 ∷ 0 ∷ 0 ∷ 0 ∷ 1 ∷ 0 ∷ 0 ∷ 0 ∷ 0 ∷ 0 ∷
    0 ∷ 1 ∷ 0 ∷ []) ≡
    None
width_4104 = refl

height_2184 :
    read_header read_size
    (0 ∷ 0 ∷ 0 ∷ 0 ∷ 0 ∷ 0 ∷ 0 ∷ 0 ∷ 0 ∷ 0 ∷ 0 ∷ 0 ∷ 1 ∷ 0 ∷ 0 ∷ 0 ∷ 0 ∷ 0 ∷ 0 ∷ 0 ∷ 0 ∷ 0 ∷ 0 ∷
    0 ∷ 1 ∷ 0 ∷ 0 ∷ 0 ∷ 0 ∷ 0 ∷ 0 ∷ 0 ∷ 0 ∷ 0 ∷ 0 ∷ 0 ∷ 1 ∷ 0 ∷ 0 ∷ 0 ∷ 1 ∷ 0 ∷ 0 ∷ 0 ∷ 1 ∷ 0 ∷
    0 ∷ 1 ∷ 0 ∷ []) ≡
    None
height_2184 = refl

-- the least sides, sides of 0, and sides that are no multiples of 8
least_size :
    read_header read_size
    (0 ∷ 0 ∷ 0 ∷ 1 ∷ 0 ∷ 0 ∷ 1 ∷ 0 ∷ 0 ∷ 0 ∷ 1 ∷ 0 ∷ 0 ∷ 1 ∷ 0 ∷ []) ≡
    Some (size_at 8 8 0 0, [])
least_size = refl

width_0 :
    read_header read_size
    (1 ∷ 0 ∷ 0 ∷ 0 ∷ 1 ∷ 0 ∷ 0 ∷ 1 ∷ 0 ∷ []) ≡
    None
width_0 = refl

height_0 :
    read_header read_size
    (0 ∷ 0 ∷ 0 ∷ 1 ∷ 0 ∷ 0 ∷ 1 ∷ 1 ∷ 0 ∷ []) ≡
    None
height_0 = refl

width_12 :
    read_header read_size
    (0 ∷ 0 ∷ 0 ∷ 1 ∷ 1 ∷ 0 ∷ 1 ∷ 0 ∷ 0 ∷ 0 ∷ 1 ∷ 0 ∷ 0 ∷ 1 ∷ 0 ∷ []) ≡
    None
width_12 = refl

height_12 :
    read_header read_size
    (0 ∷ 0 ∷ 0 ∷ 1 ∷ 0 ∷ 0 ∷ 1 ∷ 0 ∷ 0 ∷ 0 ∷ 1 ∷ 1 ∷ 0 ∷ 1 ∷ 0 ∷ []) ≡
    None
height_12 = refl

-- the greatest offsets, offsets of 4, and a window that takes nothing away
greatest_offsets :
    read_header read_size
    (0 ∷ 0 ∷ 0 ∷ 1 ∷ 0 ∷ 0 ∷ 1 ∷ 0 ∷ 0 ∷ 0 ∷ 1 ∷ 0 ∷ 0 ∷ 1 ∷ 1 ∷ 1 ∷ 0 ∷ 0 ∷ 1 ∷ 0 ∷ 0 ∷ 1 ∷ 0 ∷
    0 ∷ 1 ∷ 0 ∷ 0 ∷ []) ≡
    Some (size_at 8 8 3 3, [])
greatest_offsets = refl

right_offset_4 :
    read_header read_size
    (0 ∷ 0 ∷ 0 ∷ 1 ∷ 0 ∷ 0 ∷ 1 ∷ 0 ∷ 0 ∷ 0 ∷ 1 ∷ 0 ∷ 0 ∷ 1 ∷ 1 ∷ 1 ∷ 0 ∷ 0 ∷ 1 ∷ 0 ∷ 1 ∷ 1 ∷ 0 ∷
    0 ∷ 1 ∷ 0 ∷ 0 ∷ []) ≡
    None
right_offset_4 = refl

bottom_offset_4 :
    read_header read_size
    (0 ∷ 0 ∷ 0 ∷ 1 ∷ 0 ∷ 0 ∷ 1 ∷ 0 ∷ 0 ∷ 0 ∷ 1 ∷ 0 ∷ 0 ∷ 1 ∷ 1 ∷ 1 ∷ 0 ∷ 0 ∷ 1 ∷ 0 ∷ 0 ∷ 1 ∷ 0 ∷
    0 ∷ 1 ∷ 0 ∷ 1 ∷ []) ≡
    None
bottom_offset_4 = refl

whole_window :
    read_header read_size
    (0 ∷ 0 ∷ 0 ∷ 1 ∷ 0 ∷ 0 ∷ 1 ∷ 0 ∷ 0 ∷ 0 ∷ 1 ∷ 0 ∷ 0 ∷ 1 ∷ 1 ∷ 1 ∷ 1 ∷ 1 ∷ 1 ∷ []) ≡
    None
whole_window = refl

-- ---- what a decoder holds

-- three temporal levels and four; and buffering that isn't one more than reordering
three_levels :
    read_header read_ordering (1 ∷ 0 ∷ 0 ∷ 1 ∷ 0 ∷ 1 ∷ 0 ∷ 0 ∷ 1 ∷ 0 ∷ 0 ∷ 1 ∷ []) ≡
    Some (3, [])
three_levels = refl

four_levels :
    read_header read_ordering (1 ∷ 0 ∷ 0 ∷ 1 ∷ 1 ∷ 0 ∷ 0 ∷ 0 ∷ 1 ∷ 0 ∷ 1 ∷ 1 ∷ []) ≡
    None
four_levels = refl

too_little_buffering :
    read_header read_ordering (1 ∷ 0 ∷ 0 ∷ 1 ∷ 0 ∷ 0 ∷ 0 ∷ 0 ∷ 1 ∷ 0 ∷ 0 ∷ 1 ∷ []) ≡
    None
too_little_buffering = refl

too_much_buffering :
    read_header read_ordering (1 ∷ 0 ∷ 0 ∷ 1 ∷ 1 ∷ 0 ∷ 0 ∷ 0 ∷ 1 ∷ 0 ∷ 0 ∷ 1 ∷ []) ≡
    None
too_much_buffering = refl
