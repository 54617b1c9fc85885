-- Laws of binary digits, and of the numbers, bits and bytes that they make.
use Rattle.std.specs.Prelude.{◌≡◌, ℕ, ◌+◌, ◌*◌, ◌/◌, ◌%◌, ◌^◌, ◌<◌, ◌≤◌, List, ◌∷◌, ◌++◌, length, take, drop, replicate}
use Rattle.std.specs.Int.{bytes_high_first}
use Rattle.hv_stream_model.specs.Bits.{digits, number_of, bits_of}
use Rattle.hv_stream_model.specs.BitLaws.{AreBits, AreBytes}

-- ---- digits

-- as many as are asked
abbrev pub CountOfDigits : Type 0
CountOfDigits = (k v : ℕ) → length (digits k v) ≡ k

-- the digits above the place j, and then those below it
abbrev pub DigitsAreSplit : Type 0
DigitsAreSplit = (k j v : ℕ) → digits (k + j) v ≡ digits k (v / 2 ^ j) ++ digits j v

-- what stands above the place k is not seen
abbrev pub HighPartIsUnseen : Type 0
HighPartIsUnseen = (a k b : ℕ) → digits k (a * 2 ^ k + b) ≡ digits k b

abbrev pub RemainderIsEnough : Type 0
RemainderIsEnough = (k n v : ℕ) → k ≤ n → digits k (v % 2 ^ n) ≡ digits k v

-- two numbers in one
abbrev pub PairsAreJoined : Type 0
PairsAreJoined =
    (j k a v : ℕ) → v < 2 ^ k → digits (j + k) (a * 2 ^ k + v) ≡ digits j a ++ digits k v

abbrev pub DigitsOfZero : Type 0
DigitsOfZero = (k : ℕ) → digits k 0 ≡ replicate k 0

-- the highest digit is a one
abbrev pub HighestDigit : Type 0
HighestDigit = (k n : ℕ) → 2 ^ k ≤ n → n < 2 * 2 ^ k → digits (k + 1) n ≡ 1 ∷ digits k n

-- ---- numbers

abbrev pub NumberOfDigits : Type 0
NumberOfDigits = (k v : ℕ) → number_of (digits k v) ≡ v % 2 ^ k

abbrev pub NumberIsSplit : Type 0
NumberIsSplit = (a b : List ℕ) → number_of (a ++ b) ≡ number_of a * 2 ^ length b + number_of b

abbrev pub NumberIsBounded : Type 0
NumberIsBounded = (bits : List ℕ) → AreBits bits → number_of bits < 2 ^ length bits

abbrev pub DigitsOfNumber : Type 0
DigitsOfNumber = (bits : List ℕ) → AreBits bits → digits (length bits) (number_of bits) ≡ bits

-- ---- bits of bytes

abbrev pub BitsAreJoined : Type 0
BitsAreJoined = (a b : List ℕ) → bits_of (a ++ b) ≡ bits_of a ++ bits_of b

abbrev pub EightABytes : Type 0
EightABytes = (bytes : List ℕ) → length (bits_of bytes) ≡ 8 * length bytes

abbrev pub BytesGiveBits : Type 0
BytesGiveBits = (bytes : List ℕ) → AreBits (bits_of bytes)

abbrev pub BitsBehindBytes : Type 0
BitsBehindBytes = (k : ℕ) (bytes : List ℕ) → drop (8 * k) (bits_of bytes) ≡ bits_of (drop k bytes)

-- the bytes of a number are its digits by eights
abbrev pub BitsOfNumber : Type 0
BitsOfNumber = (k v : ℕ) → bits_of (bytes_high_first k v) ≡ digits (8 * k) v

-- ---- parts of bits and bytes

abbrev pub FrontOfBits : Type 0
FrontOfBits = (n : ℕ) (bits : List ℕ) → AreBits bits → AreBits (take n bits)

abbrev pub RestOfBits : Type 0
RestOfBits = (n : ℕ) (bits : List ℕ) → AreBits bits → AreBits (drop n bits)

abbrev pub JoinedBytes : Type 0
JoinedBytes = (a b : List ℕ) → AreBytes a → AreBytes b → AreBytes (a ++ b)

abbrev pub BytesOfNumber : Type 0
BytesOfNumber = (k v : ℕ) → AreBytes (bytes_high_first k v)
