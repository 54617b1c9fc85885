-- Binary digits of whole numbers, u(n) of 7.2: how many there are, and how they are split.
use Rattle.std.proofs.Common.{◌≡◌, ℕ, zero, suc, ◌+◌, ◌*◌, ◌/◌, ◌%◌, ◌^◌, ◌-◌, ◌<◌, ◌≤◌, ◌++◌, length, refl, sym, subst, arith, pow_pos, pow-add, pow-suc, shr-shr, suc-add, one-add, add_comm}
use Rattle.std.proofs.Math.Nat.{zero-add, mul-add-div_right}
use Rattle.std.proofs.lemmas.Nat.{mod-pow-add}
use Rattle.hv_stream_model.specs.Bits.{digits}

-- as many digits as are asked
pub length-digits : (k v : ℕ) → length (digits k v) ≡ k
length-digits zero v = refl
length-digits (suc k) v = rw (length-digits k v) refl

-- the digits above the place j, and then those below it
pub digits-add : (k j v : ℕ) → digits (k + j) v ≡ digits k (v / 2 ^ j) ++ digits j v
digits-add zero j v = rw zero-add refl
digits-add (suc k) j v = rw (suc-add k j) (rw (shr-shr v j k, add_comm j k, digits-add k j v) refl)

-- the last k places do not see what stands above them
pub digit_low : (j a k b : ℕ) → j < k → (a * 2 ^ k + b) / 2 ^ j % 2 ≡ b / 2 ^ j % 2
digit_low j a k b h =
    let i : ℕ = k - j - 1 in
    let e : k ≡ i + (1 + j) = omega arith in
    let P : ℕ → Type 0 = λ x. a * 2 ^ x ≡ a * 2 ^ i * 2 * 2 ^ j in
    let p : P k = subst P (sym e) (rw (pow-add 2 i (1 + j), pow-add 2 1 j) (omega arith)) in
    let q : (a * 2 ^ i * 2 * 2 ^ j + b) / 2 ^ j ≡ a * 2 ^ i * 2 + b / 2 ^ j =
    mul-add-div_right (pow_pos j) (a * 2 ^ i * 2) b in
    rw p (rw q (omega arith))

pub digits_low_from : (j a k b : ℕ) → j ≤ k → digits j (a * 2 ^ k + b) ≡ digits j b
digits_low_from zero a k b h = refl
digits_low_from (suc j) a k b h =
    rw (digit_low j a k b h, digits_low_from j a k b (omega arith)) refl

pub digits_low : (a k b : ℕ) → digits k (a * 2 ^ k + b) ≡ digits k b
digits_low a k b = digits_low_from k a k b (omega arith)

-- a number that takes the digit at the place k, and then the k digits below it
pub with_digit : (k v w : ℕ) →
    (2 * v + w / 2 ^ k % 2) * 2 ^ k + w % 2 ^ k ≡ v * 2 ^ suc k + w % 2 ^ suc k
with_digit k v w =
    let m : w % 2 ^ suc k ≡ (w / 2 ^ k % 2) * 2 ^ k + w % 2 ^ k =
    rw (← one-add k) (mod-pow-add w 1 k) in
    rw m (rw (pow-suc 2 k) (omega arith))
