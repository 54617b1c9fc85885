-- The units of a byte stream.
use Rattle.std.specs.Prelude.{◌≡◌, ℕ, List, Some}
use Rattle.hv_stream_model.specs.BitLaws.{AreBytes}
use Rattle.hv_stream_model.specs.Units.{NalUnit, IsByteStream, units_of}

-- there is one list of them at most
abbrev pub StreamsHaveOneList : Type 0
StreamsHaveOneList =
    (bytes : List ℕ) (units others : List NalUnit) →
    IsByteStream bytes units → IsByteStream bytes others → units ≡ others

-- those that are found in bytes are those of which they are the stream
abbrev pub FoundUnitsMakeTheStream : Type 0
FoundUnitsMakeTheStream =
    (bytes : List ℕ) (units : List NalUnit) → AreBytes bytes → units_of bytes ≡ Some units →
    IsByteStream bytes units
