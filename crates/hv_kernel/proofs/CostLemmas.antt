-- Powers of 2 and products in costs: they fit.
use Rattle.std.proofs.Common.{ℕ, ◌^◌, ◌≤◌, arith}
use Rattle.std.proofs.Math.Nat.{pow-le-pow_right}

pub power_most : (n : ℕ) → n ≤ 17 → 2 ^ n ≤ 131072
power_most n h = pow-le-pow_right {n = 2} (omega arith) {i = n} {j = 17} h
