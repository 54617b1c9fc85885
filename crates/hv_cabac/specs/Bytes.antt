-- Bytes as one number, the first byte highest, and the register that goes on from them.
use Rattle.std.specs.Prelude.{ℕ, ◌+◌, ◌*◌, ◌^◌, ◌<◌, List, [], ◌∷◌, length}

abbrev pub number : List ℕ → ℕ
number [] = 0
number (byte ∷ bytes) = byte * 256 ^ length bytes + number bytes

-- the number of the bytes, and of `bits` digits more of which the register has the number: it may
-- be half as much again, a carry that is still to come
abbrev pub total : List ℕ → ℕ → ℕ → ℕ
total bytes bits low = number bytes * 2 ^ bits + low

-- how many digits these are
abbrev pub places_of : List ℕ → ℕ → ℕ
places_of bytes bits = 8 * length bytes + bits

-- these digits have room for the number: no carry leaves the bytes
abbrev pub HasRoom : List ℕ → ℕ → ℕ → Type 0
HasRoom bytes bits low = total bytes bits low < 256 ^ length bytes * 2 ^ bits
