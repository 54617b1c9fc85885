-- The sides of blocks, and what numbers of samples are bounded by.
use Rattle.std.proofs.Common.{◌≡◌, ℕ, zero, suc, ◌+◌, ◌*◌, ◌/◌, ◌%◌, ◌^◌, ◌<◌, ◌≤◌, refl, arith, inl, inr}
use Rattle.std.specs.Prelude.{◌⊎◌}
use Rattle.std.proofs.Math.Nat.{mul-le-mul}

-- every side is 4, 8, 16 or 32
pub by_side : (P : ℕ → Type 0) → P 2 → P 3 → P 4 → P 5 → (log2 : ℕ) → 2 ≤ log2 → log2 ≤ 5 → P log2
by_side P two three four five zero least most = absurd (omega arith)
by_side P two three four five (suc zero) least most = absurd (omega arith)
by_side P two three four five (suc (suc zero)) least most = two
by_side P two three four five (suc (suc (suc zero))) least most = three
by_side P two three four five (suc (suc (suc (suc zero)))) least most = four
by_side P two three four five (suc (suc (suc (suc (suc zero))))) least most = five
by_side P two three four five (suc (suc (suc (suc (suc (suc log2)))))) least most = absurd (omega arith)

pub side_some : (log2 : ℕ) → 2 ≤ log2 → log2 ≤ 5 → 4 ≤ 2 ^ log2
side_some = by_side (λ log2. 4 ≤ 2 ^ log2) (omega arith) (omega arith) (omega arith) (omega arith)

pub side_few : (log2 : ℕ) → 2 ≤ log2 → log2 ≤ 5 → 2 ^ log2 ≤ 32
side_few = by_side (λ log2. 2 ^ log2 ≤ 32) (omega arith) (omega arith) (omega arith) (omega arith)

pub side_shifted : (log2 : ℕ) → 2 ≤ log2 → log2 ≤ 5 → 1 * 2 ^ log2 % 18446744073709551616 ≡ 2 ^ log2
side_shifted = by_side (λ log2. 1 * 2 ^ log2 % 18446744073709551616 ≡ 2 ^ log2) refl refl refl refl

pub square_of_side : (log2 : ℕ) → 2 ≤ log2 → log2 ≤ 5 → 4 ^ log2 ≡ 2 ^ log2 * 2 ^ log2
square_of_side = by_side (λ log2. 4 ^ log2 ≡ 2 ^ log2 * 2 ^ log2) refl refl refl refl

pub square_few : (log2 : ℕ) → 2 ≤ log2 → log2 ≤ 5 → 2 ^ log2 * 2 ^ log2 ≤ 1024
square_few = by_side (λ log2. 2 ^ log2 * 2 ^ log2 ≤ 1024) (omega arith) (omega arith) (omega arith) (omega arith)

-- a mean of bytes is a byte
pub weighted_below : (a b n p q : ℕ) → a + b ≡ n → p ≤ 255 → q ≤ 255 → a * p + b * q ≤ 255 * n
weighted_below a b n p q e hp hq =
    let left : a * p ≤ a * 255 = mul-le-mul (omega arith) hp in
    let right : b * q ≤ b * 255 = mul-le-mul (omega arith) hq in
    omega (arith, left, right, e)

pub mean_below : (log2 sum : ℕ) → 2 ≤ log2 → log2 ≤ 5 → sum ≤ 511 * 2 ^ log2 → sum / 2 ^ (log2 + 1) < 256
mean_below log2 sum least most =
    by_side (λ log2. sum ≤ 511 * 2 ^ log2 → sum / 2 ^ (log2 + 1) < 256)
    (λ h. omega arith) (λ h. omega arith) (λ h. omega arith) (λ h. omega arith) log2 least most

-- a row is one of 8, or some of 16
pub side_in_lanes : (log2 : ℕ) → 3 ≤ log2 → log2 ≤ 5 → (2 ^ log2 ≡ 8) ⊎ (16 * (2 ^ log2 / 16) ≡ 2 ^ log2)
side_in_lanes log2 least most =
    by_side (λ log2. 3 ≤ log2 → (2 ^ log2 ≡ 8) ⊎ (16 * (2 ^ log2 / 16) ≡ 2 ^ log2))
    (λ h. absurd (omega (arith, h))) (λ h. inl refl) (λ h. inr refl) (λ h. inr refl) log2 (omega (arith, least)) most least
