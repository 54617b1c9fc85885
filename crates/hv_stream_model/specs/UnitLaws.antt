-- What is written as NAL units is read back exactly.
use Rattle.std.specs.Prelude.{◌≡◌, ℕ, List, [], ◌∷◌, ◌++◌, Some}
use Rattle.hv_stream_model.specs.Units.{escape, strip, NalUnit, unit_bytes, IsUnit, IsByteStream, units_of}

-- without its emulation prevention bytes an escaped payload is the payload
abbrev pub PayloadsComeBack : Type 0
PayloadsComeBack = (payload : List ℕ) → strip (escape payload) ≡ payload

-- a byte stream has the units of which it is the stream, and no others
abbrev pub StreamsAreReadBack : Type 0
StreamsAreReadBack =
    (bytes : List ℕ) (units : List NalUnit) → IsByteStream bytes units → units_of bytes ≡ Some units

-- units as the encoder writes them, one behind another
abbrev pub stream_of : List NalUnit → List ℕ
stream_of [] = []
stream_of (unit ∷ units) = unit_bytes unit ++ stream_of units

abbrev pub AreUnits : List NalUnit → Type 0
AreUnits [] = Unit {0}
AreUnits (unit ∷ units) = IsUnit unit × AreUnits units

-- units as the encoder writes them are a byte stream of these units
abbrev pub UnitsMakeAStream : Type 0
UnitsMakeAStream = (units : List NalUnit) → AreUnits units → IsByteStream (stream_of units) units
