-- The number that digits make, and what a change of one digit does to it.
use Rattle.std.proofs.Common.{◌≡◌, ℕ, zero, suc, ◌+◌, ◌-◌, ◌*◌, ◌/◌, ◌%◌, ◌^◌, ◌<◌, ◌≤◌, List, [], ◌∷◌, ◌++◌, length, get_or, set, sym, ap, ap₂, subst, ◌∙◌, arith, pow-add, pow-suc, pow_pos, length-set, mul-le-mul_right, All}
use Rattle.std.proofs.lemmas.List.Elements.{All-set, All-push}
use Rattle.hv_stream_model.specs.Bits.{digits, number_of}
use Rattle.hv_entropy_model.specs.CodeWord.{odd_from}
use Rattle.hv_stream_model.specs.BitLaws.{AreBits}
use Rattle.hv_stream_model.proofs.BitLemmas.{number_of-append, digits-number_of}

-- a zero more doubles it
pub number_of-zero : (xs : List ℕ) → number_of (xs ++ 0 ∷ []) ≡ number_of xs * 2
number_of-zero xs = number_of-append xs (0 ∷ []) ∙ omega arith

-- digits are binary
abbrev pub AllBits : List ℕ → Type 0
AllBits = All (λ d. d < 2)

-- the weight of a place
abbrev pub weight : List ℕ → ℕ → ℕ
weight xs i = 2 ^ (length xs - 1 - i)

pub number_of-set : (xs : List ℕ) (i x : ℕ) → i < length xs →
    number_of (set xs i x) + get_or xs i 0 * weight xs i ≡ number_of xs + x * weight xs i
number_of-set [] i x h = absurd (omega arith)
number_of-set (y ∷ ys) zero x h =
    let e : suc (length ys) - 1 - 0 ≡ length ys = omega arith in rw e (omega arith)
number_of-set (y ∷ ys) (suc i) x h =
    let e : suc (length ys) - 1 - suc i ≡ length ys - 1 - i = omega arith in
    rw (e, length-set ys i x) (omega (arith, number_of-set ys i x (omega arith)))

split_sum : (s p : ℕ) → s % 2 * p + s / 2 * (2 * p) ≡ s * p
split_sum s p =
    let e : s ≡ s % 2 + 2 * (s / 2) = omega arith in
    let f : s * p ≡ (s % 2 + 2 * (s / 2)) * p = ap (λ (x : ℕ). x * p) e in
    omega (arith, f)

-- one digit of a sum, with what is carried on
pub carried : (xs : List ℕ) (i rest total : ℕ) → i < length xs →
    number_of xs + rest * 2 ^ (length xs - (i + 1)) ≡ total →
    number_of (set xs i ((get_or xs i 0 + rest) % 2))
    + (get_or xs i 0 + rest) / 2 * 2 ^ (length xs - i) ≡ total
carried xs i rest total h e =
    let p : ℕ = weight xs i in
    let a : length xs - (i + 1) ≡ length xs - 1 - i = omega arith in
    let b : length xs - i ≡ suc (length xs - 1 - i) = omega arith in
    let f : number_of xs + rest * p ≡ total = rw a at e in
    let s : ℕ = get_or xs i 0 + rest in
    let n = number_of-set xs i (s % 2) h in
    let t = split_sum s p in
    rw (b, pow-suc 2 (length xs - 1 - i)) (omega (arith, f, n, t))

bits_are : (xs : List ℕ) → AllBits xs → AreBits xs
bits_are [] h = tt
bits_are (x ∷ xs) h = (h 0 0 (omega arith), bits_are xs (λ k d l. h (suc k) d (omega arith)))

-- the digits of the number that digits make
digits_are : (xs : List ℕ) → AllBits xs → digits (length xs) (number_of xs) ≡ xs
digits_are xs h = digits-number_of xs (bits_are xs h)

-- ---- as a loop over digits keeps them
pub bits_set : (xs : List ℕ) (i s : ℕ) → AllBits xs → AllBits (set xs i (s % 2))
bits_set xs i s h = All-set (λ d. d < 2) xs i (s % 2) (omega arith) h

pub bits_push : (xs : List ℕ) → AllBits xs → AllBits (xs ++ 0 ∷ [])
bits_push xs h = All-push (λ d. d < 2) xs 0 h (omega arith)

pub power_more : (xs : List ℕ) (old i : ℕ) → number_of xs ≡ old * 2 ^ i →
    number_of (xs ++ 0 ∷ []) ≡ old * 2 ^ (i + 1)
power_more xs old i e = number_of-zero xs ∙ rw (pow-add 2 i 1) (omega (arith, e))

-- where the sum fits, nothing is carried out at the front
pub none_carried : (xs : List ℕ) (at carry total : ℕ) → at ≡ 0 →
    number_of xs + carry * 2 ^ (length xs - at) ≡ total → total < 2 ^ length xs → number_of xs ≡
    total
none_carried xs at zero total z e h = omega (arith, e)
none_carried xs at (suc c) total z e h =
    let a : length xs - at ≡ length xs = omega arith in
    let f : number_of xs + suc c * 2 ^ length xs ≡ total = rw a at e in
    absurd (omega (arith, f, h))

-- ---- the low end of an interval, of which `len` digits are kept
-- a part of the interval, doubled t times
pub part_below : (low len range skip width t : ℕ) → 9 ≤ len → low + range ≤ 510 * 2 ^ (len - 9) →
    skip + width ≤ range → low * 2 ^ t + skip * 2 ^ t + width * 2 ^ t ≤ 510 * 2 ^ (len + t - 9)
part_below low len range skip width t l h i =
    let e : len + t - 9 ≡ len - 9 + t = omega arith in
    let m : (low + skip + width) * 2 ^ t ≤ 510 * 2 ^ (len - 9) * 2 ^ t =
    mul-le-mul_right (2 ^ t) (omega (arith, h, i)) in
    rw (e, pow-add 2 (len - 9) t) (omega (arith, m))

-- what lies below the interval's end has no more digits
pub below_power : (x len : ℕ) → 9 ≤ len → x ≤ 510 * 2 ^ (len - 9) → x < 2 ^ len
below_power x len l h =
    let e : len ≡ len - 9 + 9 = omega arith in
    let P : ℕ → Type 0 = λ k. x < 2 ^ k in
    let p = pow_pos (len - 9) in
    subst P (sym e) (rw (pow-add 2 (len - 9) 9) (omega (arith, h, p)))

-- half of it, doubled
pub half_below : (low len range skip : ℕ) → 9 ≤ len → low + range ≤ 510 * 2 ^ (len - 9) →
    skip ≤ range → low * 2 ^ 1 + skip + range ≤ 510 * 2 ^ (len + 1 - 9)
half_below low len range skip l h i =
    let e : len + 1 - 9 ≡ len - 9 + 1 = omega arith in
    rw (e, pow-add 2 (len - 9) 1) (omega (arith, h, i))

-- ---- the last digit
last_digit : (xs : List ℕ) → AllBits xs → 0 < length xs →
    number_of xs % 2 ≡ get_or xs (length xs - 1) 0
last_digit [] h l = absurd (omega arith)
last_digit (x ∷ []) h l =
    let b : x < 2 = h 0 0 (omega arith) in
    let e : suc zero - 1 ≡ 0 = omega arith in rw e (omega arith)
last_digit (x ∷ y ∷ ys) h l =
    let later : AllBits (y ∷ ys) = λ k d m. h (suc k) d (omega arith) in
    let ih = last_digit (y ∷ ys) later (omega arith) in
    let e : suc (suc (length ys)) - 1 ≡ suc (suc (length ys) - 1) = omega arith in
    rw (e, pow-suc 2 (length ys)) (rw (← ih) (omega arith))

-- the stop bit: the last digit is put to 1
pub stop_bit : (xs : List ℕ) → AllBits xs → 0 < length xs →
    set xs (length xs - 1) 1 ≡ digits (length xs) (odd_from (number_of xs))
stop_bit xs h l =
    let i : ℕ = length xs - 1 in
    let ys : List ℕ = set xs i 1 in
    let bits : AllBits ys = All-set (λ d. d < 2) xs i 1 (omega arith) h in
    let z : length xs - 1 - i ≡ 0 = omega arith in
    let w : weight xs i ≡ 1 = ap (λ (k : ℕ). 2 ^ k) z in
    let n : number_of ys + get_or xs i 0 * 1 ≡ number_of xs + 1 * 1 =
    rw w at (number_of-set xs i 1 (omega arith)) in
    let v : number_of ys ≡ odd_from (number_of xs) = omega (arith, n, last_digit xs h l) in
    sym (digits_are ys bits) ∙ ap₂ (λ (a b : ℕ). digits a b) (length-set xs i 1) v
