-- Bytes as a number.
use Rattle.std.proofs.Common.{◌≡◌, ℕ, zero, suc, ◌+◌, ◌-◌, ◌*◌, ◌/◌, ◌%◌, ◌^◌, ◌<◌, ◌≤◌, List, [], ◌∷◌, ◌++◌, length, get_or, set, sym, ap, subst, arith, pow-suc, pow_pos, pow-add, length-set, length-append, div-lt_iff_lt-mul, mul-le-mul_right, lt_of_mul-lt-mul_right}
use Rattle.std.proofs.lemmas.Nat.{shr_split}
use Rattle.hv_cabac.specs.Bytes.{number, total, HasRoom}

-- ---- a byte that is set
number-set : (xs : List ℕ) (i v : ℕ) → i < length xs →
    number (set xs i v) + get_or xs i 0 * 256 ^ (length xs - suc i) ≡
    number xs + v * 256 ^ (length xs - suc i)
number-set [] i v h = absurd (omega arith)
number-set (x ∷ xs) zero v h =
    let e : suc (length xs) - 1 ≡ length xs = omega arith in rw e (omega arith)
number-set (x ∷ xs) (suc i) v h =
    let e : suc (length xs) - suc (suc i) ≡ length xs - suc i = omega arith in
    let ih = number-set xs i v (omega arith) in
    let n : length (set xs i v) ≡ length xs = length-set xs i v in
    rw e (omega (arith, ih, ap (λ (k : ℕ). x * 256 ^ k) n))

-- a byte of 255 that becomes 0 leaves one to be added before it
pub carry_on : (xs : List ℕ) (at n : ℕ) → 0 < at → at ≤ length xs →
    number xs + 256 ^ (length xs - at) ≡ n → get_or xs (at - 1) 0 ≡ 255 →
    number (set xs (at - 1) 0) + 256 ^ (length (set xs (at - 1) 0) - (at - 1)) ≡ n
carry_on xs at n p h e f =
    let s = number-set xs (at - 1) 0 (omega arith) in
    let j : length xs - suc (at - 1) ≡ length xs - at = omega arith in
    let k : length (set xs (at - 1) 0) - (at - 1) ≡ suc (length xs - at) =
    omega (arith, length-set xs (at - 1) 0) in
    rw (k, pow-suc 256 (length xs - at)) (omega (arith, e, rw (f, j) at s))

-- any other byte takes it
pub carry_ends : (xs : List ℕ) (at n : ℕ) → 0 < at → at ≤ length xs →
    number xs + 256 ^ (length xs - at) ≡ n →
    number (set xs (at - 1) (get_or xs (at - 1) 0 + 1)) ≡ n
carry_ends xs at n p h e =
    let s = number-set xs (at - 1) (get_or xs (at - 1) 0 + 1) (omega arith) in
    let j : length xs - suc (at - 1) ≡ length xs - at = omega arith in
    omega (arith, e, rw j at s)

-- ---- a byte that is put at the end
pub number-push : (xs : List ℕ) (b : ℕ) → number (xs ++ b ∷ []) ≡ number xs * 256 + b
number-push [] b = omega arith
number-push (x ∷ xs) b =
    let n : length (xs ++ b ∷ []) ≡ suc (length xs) = omega (arith, length-append xs (b ∷ [])) in
    let p : 256 ^ length (xs ++ b ∷ []) ≡ 256 ^ length xs * 256 = rw n (pow-suc 256 (length xs)) in
    rw p (omega (arith, number-push xs b))

power : (bits : ℕ) → 8 ≤ bits → 2 ^ bits ≡ 2 ^ (bits - 8) * 256
power bits h =
    let e : bits ≡ (bits - 8) + 8 = omega arith in
    subst (λ (k : ℕ). 2 ^ k ≡ 2 ^ (bits - 8) * 256) (sym e) (pow-add 2 (bits - 8) 8)

-- the register's highest eight digits, with the carry above them
pub lead_small : (low bits : ℕ) → 8 ≤ bits → 2 * low < 3 * 2 ^ bits → low / 2 ^ (bits - 8) < 384
lead_small low bits h k =
    let p = power bits h in (div-lt_iff_lt-mul (pow_pos (bits - 8))).1 (omega (arith, p))

pub lead_room : (xs : List ℕ) (low bits : ℕ) → 8 ≤ bits → HasRoom xs bits low →
    number xs + low / 2 ^ (bits - 8) / 256 < 256 ^ length xs
lead_room xs low bits h k =
    let p = power bits h in
    let s = shr_split low (bits - 8) in
    let l : ℕ = low / 2 ^ (bits - 8) in
    let d : l / 256 * 256 ≤ l = omega arith in
    let m = mul-le-mul_right (2 ^ (bits - 8)) d in
    lt_of_mul-lt-mul_right (2 ^ (bits - 8) * 256) (omega (arith, rw p at k, s, m))

-- the carry added to the bytes and the eight digits put at their end: the total is as before
pub carry_moves : (xs ys zs : List ℕ) (low bits : ℕ) → 8 ≤ bits →
    number ys ≡ number xs + low / 2 ^ (bits - 8) / 256 →
    zs ≡ ys ++ (low / 2 ^ (bits - 8) % 256) ∷ [] →
    total zs (bits - 8) (low % 2 ^ (bits - 8)) ≡ total xs bits low
carry_moves xs ys zs low bits h e f =
    let p = power bits h in
    let s = shr_split low (bits - 8) in
    let l : ℕ = low / 2 ^ (bits - 8) in
    let d : number ys * 256 + l % 256 ≡ number xs * 256 + l = omega (arith, e) in
    let m = ap (λ (x : ℕ). x * 2 ^ (bits - 8)) d in
    rw (f, p, number-push ys (l % 256)) (omega (arith, m, s))
