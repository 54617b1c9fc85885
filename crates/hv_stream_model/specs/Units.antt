-- NAL units (7.3.1), and the byte stream that they stand in (Annex B).
use Rattle.std.specs.Prelude.{◌≢◌, ℕ, zero, suc, ◌+◌, ◌-◌, ◌*◌, ◌/◌, ◌%◌, ◌<◌, Bool, false, cond, not, nat_eq, nat_lt, ◌&&◌, ◌||◌, List, [], ◌∷◌, ◌++◌, length, take, drop, replicate, Option, Some, None}
use Rattle.std.specs.List.{list_all, starts_with}
use Rattle.std.specs.Cmp.Lexicographic.{pointwise}

-- ---- emulation prevention (7.3.1.1, 7.4.2)

-- the bytes before a place, the last of them first: the last two are zeros
abbrev pub end_in_zeros : List ℕ → Bool
end_in_zeros [] = false
end_in_zeros (last ∷ []) = false
end_in_zeros (last ∷ before ∷ others) = nat_eq last 0 && nat_eq before 0

-- what follows in the result, where these bytes of it are there
abbrev pub escape_behind : List ℕ → List ℕ → List ℕ
escape_behind result [] = []
escape_behind result (byte ∷ bytes) =
    let three = cond (end_in_zeros result && nat_lt byte 4) (3 ∷ []) [] in
    three ++ byte ∷ escape_behind (byte ∷ (three ++ result)) bytes

-- a byte 3 is put before each byte of at most 3 that follows two zero bytes of the result
abbrev pub escape : List ℕ → List ℕ
escape bytes = escape_behind [] bytes

-- what is left of bytes that follow these
abbrev pub strip_behind : List ℕ → List ℕ → List ℕ
strip_behind before [] = []
strip_behind before (byte ∷ bytes) =
    cond (end_in_zeros before && nat_eq byte 3) [] (byte ∷ []) ++
    strip_behind (byte ∷ before) bytes

-- each byte 3 that follows two zero bytes is left out
abbrev pub strip : List ℕ → List ℕ
strip bytes = strip_behind [] bytes

-- ---- units

-- nal_unit_type of the units of this profile (7.4.2.2, table 7-1)
abbrev pub TRAIL_R : ℕ
TRAIL_R = 1

abbrev pub IDR_N_LP : ℕ
IDR_N_LP = 20

abbrev pub VPS_NUT : ℕ
VPS_NUT = 32

abbrev pub SPS_NUT : ℕ
SPS_NUT = 33

abbrev pub PPS_NUT : ℕ
PPS_NUT = 34

pub record NalUnit : Type 0 where
  pub nal_unit_type : ℕ
  pub nuh_layer_id : ℕ
  pub TemporalId : ℕ
  -- the raw byte sequence payload
  pub payload : List ℕ

-- nal_unit_header (7.3.1.2): the forbidden zero bit, six bits of type, six of layer, three of
-- temporal id plus 1
abbrev pub header_bytes : NalUnit → List ℕ
header_bytes unit =
    (unit.nal_unit_type * 2 + unit.nuh_layer_id / 32) ∷
    (unit.nuh_layer_id % 32 * 8 + unit.TemporalId + 1) ∷
    []

abbrev pub nal_bytes : NalUnit → List ℕ
nal_bytes unit = header_bytes unit ++ escape unit.payload

-- the unit as the encoder writes it: a zero byte, the start code prefix, and the unit (B.2)
abbrev pub unit_bytes : NalUnit → List ℕ
unit_bytes unit = 0 ∷ 0 ∷ 0 ∷ 1 ∷ nal_bytes unit

-- a unit of the base layer and the lowest sub-layer, with its start code
abbrev pub unit_of_payload : ℕ → List ℕ → List ℕ
unit_of_payload nal_unit_type payload =
    unit_bytes (record {
      nal_unit_type = nal_unit_type;
      nuh_layer_id = 0;
      TemporalId = 0;
      payload = payload;
    })

abbrev pub last_of : List ℕ → ℕ
last_of [] = 0
last_of (byte ∷ []) = byte
last_of (byte ∷ next ∷ bytes) = last_of (next ∷ bytes)

-- the fields have their ranges, and the payload ends in a byte other than 0
pub record IsUnit (unit : NalUnit) : Type 0 where
  pub kind : unit.nal_unit_type < 64
  pub layer : unit.nuh_layer_id < 64
  pub temporal : unit.TemporalId < 7
  pub ends : last_of unit.payload ≢ 0

-- The bytes are these units, each after any number of zero bytes and the start code prefix, with
-- any number of zero bytes at the end (B.2).
pub data IsByteStream : List ℕ → List NalUnit → Type 0 where
  end : (zeros : ℕ) → IsByteStream (replicate zeros 0) []
  more : (zeros : ℕ) (unit : NalUnit) {bytes : List ℕ} {units : List NalUnit} →
      IsUnit unit → IsByteStream bytes units →
      IsByteStream (replicate zeros 0 ++ (0 ∷ 0 ∷ 1 ∷ nal_bytes unit) ++ bytes) (unit ∷ units)

-- ---- the units of a byte stream

abbrev pub is_zero : ℕ → Bool
is_zero byte = nat_eq byte 0

abbrev pub leading_zero_bytes : List ℕ → ℕ
leading_zero_bytes [] = 0
leading_zero_bytes (byte ∷ bytes) = cond (is_zero byte) (suc (leading_zero_bytes bytes)) 0

-- where a unit ends: before 00 00 00, before 00 00 01, and before the zero bytes at the end
abbrev pub is_unit_end : List ℕ → Bool
is_unit_end bytes =
    list_all is_zero bytes ||
    starts_with nat_eq bytes (0 ∷ 0 ∷ 0 ∷ []) ||
    starts_with nat_eq bytes (0 ∷ 0 ∷ 1 ∷ [])

-- how many bytes the unit at the front has
abbrev pub unit_length : List ℕ → ℕ
unit_length [] = 0
unit_length (byte ∷ bytes) = cond (is_unit_end (byte ∷ bytes)) 0 (suc (unit_length bytes))

abbrev pub same_bytes : List ℕ → List ℕ → Bool
same_bytes a b = pointwise nat_eq a b

-- the bytes of a payload that was escaped, and ends in a byte other than 0
abbrev pub is_escaped_payload : List ℕ → Bool
is_escaped_payload bytes =
    same_bytes (escape (strip bytes)) bytes && not (nat_eq (last_of (strip bytes)) 0)

-- the unit that these bytes are, from its header on
abbrev pub unit_of : List ℕ → Option NalUnit
unit_of [] = None
unit_of (first ∷ []) = None
unit_of (first ∷ second ∷ bytes) =
    cond (nat_lt first 128 && not (nat_eq (second % 8) 0) && is_escaped_payload bytes)
    (Some (record {
      nal_unit_type = first / 2;
      nuh_layer_id = first % 2 * 32 + second / 8;
      TemporalId = second % 8 - 1;
      payload = strip bytes;
    }))
    None

abbrev pub unit_then : Option NalUnit → Option (List NalUnit) → Option (List NalUnit)
unit_then None units = None
unit_then (Some unit) None = None
unit_then (Some unit) (Some units) = Some (unit ∷ units)

-- The bytes behind zero bytes begin with a start code prefix: two zero bytes at least, and then a
-- byte 1.
abbrev pub is_start_code : ℕ → List ℕ → Bool
is_start_code zero_bytes rest = nat_lt 1 zero_bytes && starts_with nat_eq rest (1 ∷ [])

-- the units, of which there are at most `most`
abbrev pub units_within : ℕ → List ℕ → Option (List NalUnit)
units_within zero bytes = cond (list_all is_zero bytes) (Some []) None
units_within (suc most) bytes =
    let zero_bytes = leading_zero_bytes bytes in
    let rest = drop zero_bytes bytes in
    let unit = drop 1 rest in
    let n = unit_length unit in
    cond (list_all is_zero bytes) (Some [])
    (cond (is_start_code zero_bytes rest)
    (unit_then (unit_of (take n unit)) (units_within most (drop n unit)))
    None)

-- the units of a byte stream; none where the bytes are no byte stream
abbrev pub units_of : List ℕ → Option (List NalUnit)
units_of bytes = units_within (length bytes) bytes
