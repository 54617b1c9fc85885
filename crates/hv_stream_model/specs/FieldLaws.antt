-- What is written as the bits of fields is read back exactly.
use Rattle.std.specs.Prelude.{◌≡◌, ◌≢◌, ℕ, suc, ◌+◌, ◌*◌, ◌%◌, ◌^◌, ◌<◌, ◌≤◌, List, [], ◌∷◌, ◌++◌, length, replicate, Some}
use Rattle.hv_stream_model.specs.Bits.{digits, bytes_of}
use Rattle.hv_stream_model.specs.Scripts.{Reads}
use Rattle.hv_stream_model.specs.Fields.{Field, AllCodable, bits_of_fields, HeaderScript, read_header, exp_golomb, leading_zeros, padding_of, aligned}
use Rattle.hv_stream_model.specs.Units.{last_of}

-- What a script reads where these fields answer it, it reads from their bits, and the bits that
-- follow are left.
abbrev pub FieldsAreReadBack : Type 0 → Type 0
FieldsAreReadBack A =
    (script : HeaderScript A) (fields : List Field) (value : A) (rest : List ℕ) →
    AllCodable fields → Reads script fields value →
    read_header script (bits_of_fields fields ++ rest) ≡ Some (value, rest)

-- aligned bits are whole bytes
abbrev pub AlignedBitsAreWhole : Type 0
AlignedBitsAreWhole = (bits : List ℕ) → length (aligned bits) % 8 ≡ 0

-- and the last of these bytes is none of zeros
abbrev pub AlignedBytesEnd : Type 0
AlignedBytesEnd = (bits : List ℕ) → last_of (bytes_of (aligned bits)) ≢ 0

-- ---- codes

-- an Exp-Golomb code whose number has k + 1 digits: k zeros, and the digits (9.2)
abbrev pub CodesOfLength : Type 0
CodesOfLength =
    (k v : ℕ) → k < 64 → 2 ^ k ≤ v + 1 → v + 1 < 2 * 2 ^ k →
    exp_golomb v ≡ digits k 0 ++ digits (k + 1) (v + 1)

abbrev pub ZerosAreCounted : Type 0
ZerosAreCounted = (k : ℕ) (rest : List ℕ) → leading_zeros (replicate k 0 ++ 1 ∷ rest) ≡ k

-- a one and m zeros, up to the byte
abbrev pub PaddingOfLength : Type 0
PaddingOfLength =
    (before m : ℕ) → m < 8 → (before + 1 + m) % 8 ≡ 0 → padding_of before ≡ digits (suc m) (2 ^ m)

abbrev pub LastIsLast : Type 0
LastIsLast = (bytes : List ℕ) (byte : ℕ) → last_of (bytes ++ byte ∷ []) ≡ byte

-- the bits of fields, and of those behind them
abbrev pub JoinedFieldsHaveJoinedBits : Type 0
JoinedFieldsHaveJoinedBits =
    (fields others : List Field) →
    bits_of_fields (fields ++ others) ≡ bits_of_fields fields ++ bits_of_fields others
