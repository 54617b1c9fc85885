-- Bits, as numbers 0 and 1, and the bytes that they make (7.2).
use Rattle.std.specs.Prelude.{ℕ, zero, suc, ◌+◌, ◌*◌, ◌/◌, ◌%◌, ◌^◌, List, [], ◌∷◌, ◌++◌, length, take, drop, replicate}

-- the lowest k binary digits of v, the highest first: u(k) of 7.2
abbrev pub digits : ℕ → ℕ → List ℕ
digits zero v = []
digits (suc k) v = (v / 2 ^ k % 2) ∷ digits k v

-- the number that binary digits make, the highest first
abbrev pub number_of : List ℕ → ℕ
number_of [] = 0
number_of (d ∷ ds) = d * 2 ^ length ds + number_of ds

-- eight digits a byte
abbrev pub bits_of : List ℕ → List ℕ
bits_of [] = []
bits_of (byte ∷ bytes) = digits 8 byte ++ bits_of bytes

-- the first n bytes that bits make; where the bits end within a byte, zeros follow
unfoldable pub first_bytes : ℕ → List ℕ → List ℕ
first_bytes zero bits = []
first_bytes (suc n) bits = number_of (take 8 (bits ++ replicate 8 0)) ∷ first_bytes n (drop 8 bits)

-- the bytes that bits make, with zeros to the byte
abbrev pub bytes_of : List ℕ → List ℕ
bytes_of bits = first_bytes ((length bits + 7) / 8) bits
