-- Worked units (7.3.1, Annex B) and Exp-Golomb codes (9.2), computed by the definitions.
use Rattle.std.proofs.Common.{◌≡◌, ℕ, ◌+◌, List, [], ◌∷◌, ◌++◌, refl, arith}
use Rattle.std.specs.Prelude.{Some, None, negsuc, replicate}
use Rattle.hv_stream_model.specs.Fields.{ue, se, field_bits, log2_of, read_field, Ue, Codes}
use Rattle.hv_stream_model.specs.Units.{TRAIL_R, IDR_N_LP, NalUnit, unit_bytes, unit_of_payload, escape, strip, units_of}

zero_code : field_bits (ue 0) ≡ 1 ∷ []
unfolding log2_of
zero_code = refl

four_code : field_bits (ue 4) ≡ 0 ∷ 0 ∷ 1 ∷ 0 ∷ 1 ∷ []
unfolding log2_of
four_code = refl

minus_two_code : field_bits (se (negsuc 1)) ≡ 0 ∷ 0 ∷ 1 ∷ 0 ∷ 1 ∷ []
unfolding log2_of
minus_two_code = refl

four_read : read_field (0 ∷ 0 ∷ 1 ∷ 0 ∷ 1 ∷ 1 ∷ []) Ue ≡ Some (4, 1 ∷ [])
four_read = refl

-- the bits end within a number
bits_end : read_field (0 ∷ 0 ∷ 0 ∷ 0 ∷ 0 ∷ 0 ∷ 0 ∷ 0 ∷ []) Ue ≡ None
bits_end = refl

-- the greatest number, with 32 zeros in front; and 33 zeros
abbrev zeros_then_ones : ℕ → List ℕ
zeros_then_ones k = replicate k 0 ++ replicate (k + 1) 1

greatest_code : read_field (zeros_then_ones 32) Ue ≡ Some (8589934590, [])
greatest_code = refl

greatest_codable : Codes Ue 8589934590
greatest_codable = omega arith

greatest_not_exceeded : Codes Ue 8589934591 → ⊥
greatest_not_exceeded h = omega arith

too_long : read_field (zeros_then_ones 33) Ue ≡ None
too_long = refl

-- ---- units

-- a suffix SEI unit whose payload has three zero bytes
abbrev zeros_unit : NalUnit
zeros_unit = record {
  nal_unit_type = 40;
  nuh_layer_id = 0;
  TemporalId = 0;
  payload = 0 ∷ 0 ∷ 0 ∷ 128 ∷ [];
}

zeros_written : unit_bytes zeros_unit ≡ 0 ∷ 0 ∷ 0 ∷ 1 ∷ 80 ∷ 1 ∷ 0 ∷ 0 ∷ 3 ∷ 0 ∷ 128 ∷ []
zeros_written = refl

-- a unit of layer 33 and TemporalId 2
abbrev layered_unit : NalUnit
layered_unit = record { nal_unit_type = 40; nuh_layer_id = 33; TemporalId = 2; payload = 128 ∷ [] }

layered_written : unit_bytes layered_unit ≡ 0 ∷ 0 ∷ 0 ∷ 1 ∷ 81 ∷ 11 ∷ 128 ∷ []
layered_written = refl

layered_read : units_of (0 ∷ 0 ∷ 1 ∷ 81 ∷ 11 ∷ 128 ∷ []) ≡ Some (layered_unit ∷ [])
layered_read = refl

-- the slice of a grey IDR picture, and the front of that of another picture
idr_unit :
    unit_of_payload IDR_N_LP (0xAF ∷ 0xC0 ∷ 0xE8 ∷ 0x73 ∷ 0x7F ∷ 0x80 ∷ []) ≡
    0 ∷ 0 ∷ 0 ∷ 1 ∷ 0x28 ∷ 0x01 ∷ 0xAF ∷ 0xC0 ∷ 0xE8 ∷ 0x73 ∷ 0x7F ∷ 0x80 ∷ []
idr_unit = refl

trailing_unit :
    unit_of_payload TRAIL_R (0xD0 ∷ 0x19 ∷ 0x3F ∷ 0x23 ∷ []) ≡
    0 ∷ 0 ∷ 0 ∷ 1 ∷ 0x02 ∷ 0x01 ∷ 0xD0 ∷ 0x19 ∷ 0x3F ∷ 0x23 ∷ []
trailing_unit = refl

zeros_stripped : strip (0 ∷ 0 ∷ 3 ∷ 0 ∷ 128 ∷ []) ≡ 0 ∷ 0 ∷ 0 ∷ 128 ∷ []
zeros_stripped = refl

two_units :
    units_of (unit_bytes zeros_unit ++ unit_bytes zeros_unit ++ 0 ∷ 0 ∷ []) ≡
    Some (zeros_unit ∷ zeros_unit ∷ [])
two_units = refl

no_units : units_of [] ≡ Some []
no_units = refl

no_prefix : units_of (0 ∷ 1 ∷ 80 ∷ 1 ∷ 5 ∷ []) ≡ None
no_prefix = refl

needless_three : units_of (0 ∷ 0 ∷ 1 ∷ 80 ∷ 1 ∷ 0 ∷ 0 ∷ 3 ∷ 5 ∷ []) ≡ None
needless_three = refl

-- ---- emulation prevention, behind two zero bytes and behind one

three_escaped : escape (0 ∷ 0 ∷ 3 ∷ 0 ∷ 3 ∷ []) ≡ 0 ∷ 0 ∷ 3 ∷ 3 ∷ 0 ∷ 3 ∷ []
three_escaped = refl

four_not_escaped : escape (0 ∷ 0 ∷ 4 ∷ []) ≡ 0 ∷ 0 ∷ 4 ∷ []
four_not_escaped = refl

-- the byte 3 that was put comes between zero bytes of the payload
five_zeros : escape (0 ∷ 0 ∷ 0 ∷ 0 ∷ 0 ∷ []) ≡ 0 ∷ 0 ∷ 3 ∷ 0 ∷ 0 ∷ 3 ∷ 0 ∷ []
five_zeros = refl

one_three_left_out : strip (0 ∷ 0 ∷ 3 ∷ 3 ∷ 0 ∷ 3 ∷ []) ≡ 0 ∷ 0 ∷ 3 ∷ 0 ∷ 3 ∷ []
one_three_left_out = refl

four_not_left_out : strip (0 ∷ 0 ∷ 4 ∷ 2 ∷ []) ≡ 0 ∷ 0 ∷ 4 ∷ 2 ∷ []
four_not_left_out = refl
