-- The steps of the pattern are few enough for a sum of 32 bits.
use Rattle.std.proofs.Common.{ℕ, ◌/◌, ◌<◌, arith}
use Rattle.std.specs.Int.Bits.{bit_xor}
use Rattle.std.proofs.lemmas.Nat.{xor_lt}

pub steps_few : (a b : ℕ) → a < 1048576 → b < 1048576 → bit_xor (a / 8) (b / 8) < 131072
steps_few a b column row = xor_lt 17 (a / 8) (b / 8) (omega arith) (omega arith)
