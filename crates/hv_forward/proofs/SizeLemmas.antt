-- What the means of the two forward passes are divided by.
use Rattle.std.proofs.Common.{arith, suc, zero, ℕ, ◌*◌, ◌+◌, ◌-◌, ◌^◌, ◌≡◌, ◌≤◌}

-- what the means of the two forward passes are divided by: together with the weight of a row, 32640 at most is left
pub shifts_suffice : (log2 n : ℕ) → 2 ≤ log2 → log2 ≤ 5 → n ≡ 2 ^ log2 → (64 * n * 255 ≤ 32640 * 2 ^ (log2 - 1)) × (64 * n * 32640 ≤ 32640 * 2 ^ (log2 + 6))
shifts_suffice zero n least greatest e = absurd (omega arith)
shifts_suffice (suc zero) n least greatest e = absurd (omega arith)
shifts_suffice (suc (suc zero)) n least greatest e = (omega (arith, e), omega (arith, e))
shifts_suffice (suc (suc (suc zero))) n least greatest e = (omega (arith, e), omega (arith, e))
shifts_suffice (suc (suc (suc (suc zero)))) n least greatest e = (omega (arith, e), omega (arith, e))
shifts_suffice (suc (suc (suc (suc (suc zero))))) n least greatest e = (omega (arith, e), omega (arith, e))
shifts_suffice (suc (suc (suc (suc (suc (suc m)))))) n least greatest e = absurd (omega arith)
