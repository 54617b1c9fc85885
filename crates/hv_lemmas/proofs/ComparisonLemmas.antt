-- Tests of numbers, and truth values that they give: what they are where the numbers' order is known.
use Rattle.std.proofs.Common.{◌≡◌, ℕ, suc, ◌<◌, ◌≤◌, Bool, true, false, refl, arith, nat_eq, nat_lt, nat_le, ◌||◌}
use Rattle.std.proofs.lemmas.Bool.Decides.{nat_tests}

pub lt_below : (a b : ℕ) → a < b → nat_lt a b ≡ true
lt_below a b h = grind (arith, nat_tests)

pub lt_not_below : (a b : ℕ) → b ≤ a → nat_lt a b ≡ false
lt_not_below a b h = grind (arith, nat_tests, h)

pub le_below : (a b : ℕ) → a ≤ b → nat_le a b ≡ true
le_below a b h = grind (arith, nat_tests)

pub le_not_below : (a b : ℕ) → b < a → nat_le a b ≡ false
le_not_below a b h = grind (arith, nat_tests)

pub lt_suc : (a b : ℕ) → nat_lt (suc a) (suc b) ≡ nat_lt a b
lt_suc a b = grind (arith, nat_tests)

pub lt_zero : (a : ℕ) → nat_lt a 0 ≡ false
lt_zero a = grind (arith, nat_tests)

pub zero_lt_suc : (a : ℕ) → nat_lt 0 (suc a) ≡ true
zero_lt_suc a = grind (arith, nat_tests)

pub or_true : (b : Bool) → (b || true) ≡ true
or_true true = refl
or_true false = refl

pub other_than_0 : (n : ℕ) → 0 < n → nat_eq n 0 ≡ false
other_than_0 n some = grind (arith, nat_tests)

pub suc_other_than_0 : (n : ℕ) → nat_eq (suc n) 0 ≡ false
suc_other_than_0 n = grind (arith, nat_tests)
