-- Laws of bits and the bytes that they make.
use Rattle.std.specs.Prelude.{◌≡◌, ℕ, ◌-◌, ◌%◌, ◌<◌, List, [], ◌∷◌, ◌++◌, length, replicate}
use Rattle.hv_stream_model.specs.Bits.{bits_of, bytes_of}

abbrev pub AreBits : List ℕ → Type 0
AreBits [] = Unit {0}
AreBits (bit ∷ bits) = (bit < 2) × AreBits bits

abbrev pub AreBytes : List ℕ → Type 0
AreBytes [] = Unit {0}
AreBytes (byte ∷ bytes) = (byte < 256) × AreBytes bytes

-- whole bytes of bits, and what comes behind them
abbrev pub BytesAppend : Type 0
BytesAppend = (a b : List ℕ) → length a % 8 ≡ 0 → bytes_of (a ++ b) ≡ bytes_of a ++ bytes_of b

-- the bits of the bytes that whole bytes of bits make
abbrev pub BitsComeBack : Type 0
BitsComeBack = (bits : List ℕ) → AreBits bits → length bits % 8 ≡ 0 → bits_of (bytes_of bits) ≡ bits

-- the bytes that the bits of bytes make
abbrev pub BytesComeBack : Type 0
BytesComeBack = (bytes : List ℕ) → AreBytes bytes → bytes_of (bits_of bytes) ≡ bytes

-- the zeros from so many bits to the byte
abbrev pub missing : ℕ → ℕ
missing length_so_far = (8 - length_so_far % 8) % 8

-- the bits of the bytes that any bits make: zeros to the byte follow them
abbrev pub BitsComeBackFilled : Type 0
BitsComeBackFilled =
    (bits : List ℕ) → AreBits bits →
    bits_of (bytes_of bits) ≡ bits ++ replicate (missing (length bits)) 0
