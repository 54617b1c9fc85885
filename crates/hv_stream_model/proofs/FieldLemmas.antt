-- Fields of headers and the bits that code them (7.2, 9.2): the length of a code, the alignment
-- (7.3.2.11), and that fields are read back.
use Rattle.std.proofs.Common.{◌≡◌, ℕ, zero, suc, ◌+◌, ◌-◌, ◌*◌, ◌/◌, ◌%◌, ◌^◌, ◌<◌, ◌≤◌, List, [], ◌∷◌, ◌++◌, length, take, drop, refl, sym, ap, ◌∙◌, add-one, arith, inl, inr, pow_pos, pow-suc, lt-ltb, le-ltb, ltb-true, ltb-false, append_assoc, length-append, length-drop, take-append-drop}
use Rattle.std.specs.Prelude.{replicate, nat_lt, Some}
use Rattle.std.proofs.Math.Nat.{div_self, mod-eq_of_lt, pow-le-pow_right}
use Rattle.std.proofs.lemmas.Bool.{cases_lt, cond_both, le-leb}
use Rattle.std.proofs.lemmas.Nat.{div_below, le-div}
use Rattle.std.proofs.lemmas.List.{take_at, drop_at, length-replicate, length-take-le}
use Rattle.hv_stream_model.specs.Bits.{digits, number_of, first_bytes, bytes_of}
use Rattle.hv_stream_model.specs.Fields.{Descriptor, U, Ue, Field, halvings, log2_of, exp_golomb, most_zeros, code_of, field_bits, bits_of_fields, Codes, AllCodable, leading_zeros, read_field, padding_of, aligned}
use Rattle.hv_stream_model.specs.Units.{last_of}
use Rattle.hv_stream_model.specs.FieldLaws.{FieldsAreReadBack, AlignedBitsAreWhole, AlignedBytesEnd}
use Rattle.hv_stream_model.proofs.DigitLemmas.{length-digits}
use Rattle.hv_stream_model.proofs.BitLemmas.{digits_low, number_of-digits, bytes_of-append}
use Rattle.hv_stream_model.proofs.ScriptLemmas.{Gives, none, more, reads_run}

pub digits-zero : (k : ℕ) → digits k 0 ≡ replicate k 0
digits-zero zero = refl
digits-zero (suc k) = let none : 0 / 2 ^ k % 2 ≡ 0 = omega (arith, pow_pos k) in
    rw (none, digits-zero k) refl

-- a one, and zeros
pub digits-pow : (k : ℕ) → digits (suc k) (2 ^ k) ≡ 1 ∷ replicate k 0
digits-pow k =
    let one : 2 ^ k / 2 ^ k % 2 ≡ 1 = rw (div_self (pow_pos k)) refl in
    let zeros : digits k (2 ^ k) ≡ digits k 0 =
    digits_low k k 1 0 (2 ^ k) (omega arith) (omega arith) in
    rw (one, zeros, digits-zero k) refl

-- ---- Exp-Golomb codes

halvings-eq : (fuel k n : ℕ) → k < fuel → 2 ^ k ≤ n → n < 2 * 2 ^ k → halvings fuel n ≡ k
halvings-eq zero k n f a b = absurd (omega arith)
halvings-eq (suc fuel) zero n f a b = let small : n < 2 = omega arith in rw (lt-ltb n 2 small) refl
halvings-eq (suc fuel) (suc k) n f a b =
    let power : 2 ^ suc k ≡ 2 ^ k * 2 = pow-suc 2 k in
    let positive : 0 < 2 ^ k = pow_pos k in
    let large : 2 ≤ n = omega (arith, a, power) in
    let half : halvings fuel (n / 2) ≡ k =
    halvings-eq fuel k (n / 2) (omega arith) (omega (arith, a, power)) (omega (arith, b, power)) in
    rw (le-ltb n 2 large, half) refl

pub log2_of-eq : (k n : ℕ) → k < 64 → 2 ^ k ≤ n → n < 2 * 2 ^ k → log2_of n ≡ k
unfolding log2_of
log2_of-eq k n f a b = halvings-eq 64 k n f a b

pub exp_golomb-eq : (k v : ℕ) → k < 64 → 2 ^ k ≤ v + 1 → v + 1 < 2 * 2 ^ k →
    exp_golomb v ≡ digits k 0 ++ digits (k + 1) (v + 1)
exp_golomb-eq k v f a b = rw (log2_of-eq k (v + 1) f a b, digits-zero k) refl

-- ---- the bits behind a payload, to the byte

pub padding_of-eq : (before m : ℕ) → m < 8 → (before + 1 + m) % 8 ≡ 0 →
    padding_of before ≡ digits (suc m) (2 ^ m)
padding_of-eq before m h e =
    let zeros : (8 - (before + 1) % 8) % 8 ≡ m = omega arith in
    rw (digits-pow m, zeros) refl

pub length-aligned : AlignedBitsAreWhole
length-aligned bits =
    let m : ℕ = (8 - (length bits + 1) % 8) % 8 in
    omega (arith, length-append bits (padding_of (length bits)), length-replicate {A = ℕ} m 0)

number_some : (a b : List ℕ) → 0 < number_of (a ++ 1 ∷ b)
number_some [] b = omega (arith, pow_pos (length b))
number_some (x ∷ a) b = omega (arith, number_some a b)

pub last_of-append : (a : List ℕ) (x : ℕ) → last_of (a ++ x ∷ []) ≡ x
last_of-append [] x = refl
last_of-append (y ∷ []) x = refl
last_of-append (y ∷ z ∷ a) x = last_of-append (z ∷ a) x

-- eight bits are one byte
one_byte : (bits : List ℕ) → length bits ≡ 8 → bytes_of bits ≡ number_of bits ∷ []
unfolding first_bytes
one_byte bits e =
    let count : (length bits + 7) / 8 ≡ 1 = omega arith in
    let all : take 8 (bits ++ replicate 8 0) ≡ bits = take_at bits (replicate 8 0) 8 e in
    rw count (ap (λ w. number_of w ∷ []) all)

pub last_of-aligned : AlignedBytesEnd
last_of-aligned bits e =
    let whole : ℕ = 8 * (length bits / 8) in
    let front : List ℕ = take whole bits in
    let tail : List ℕ = drop whole bits in
    let padding : List ℕ = padding_of (length bits) in
    let zeros : List ℕ = replicate ((8 - (length bits + 1) % 8) % 8) 0 in
    let long : length front ≡ whole = length-take-le whole bits (omega arith) in
    let parts : aligned bits ≡ front ++ (tail ++ padding) =
    ap (λ w. w ++ padding) (sym (take-append-drop whole bits)) ∙ append_assoc front tail padding in
    let eight : length (tail ++ padding) ≡ 8 =
    omega (
      arith,
      length-append tail padding,
      length-drop whole bits,
      length-replicate {A = ℕ} ((8 - (length bits + 1) % 8) % 8) 0,
    ) in
    let bytes : bytes_of (aligned bits) ≡ bytes_of front ++ number_of (tail ++ padding) ∷ [] =
    ap bytes_of parts ∙ bytes_of-append front (tail ++ padding) (omega (arith, long)) ∙
    ap (λ w. bytes_of front ++ w) (one_byte (tail ++ padding) eight) in
    let last : last_of (bytes_of (aligned bits)) ≡ number_of (tail ++ padding) = ap last_of bytes ∙
    last_of-append (bytes_of front) (number_of (tail ++ padding)) in
    let some : 0 < number_of (tail ++ 1 ∷ zeros) = number_some tail zeros in
    omega (arith, some, last, e)

-- ---- fields are read back

-- the power of two at the top of a number
halvings-bounds : (fuel n : ℕ) → 0 < n → n < 2 ^ fuel →
    (2 ^ halvings fuel n ≤ n) × (n < 2 * 2 ^ halvings fuel n)
halvings-bounds zero n p h = absurd (omega arith)
halvings-bounds (suc fuel) n p h =
    cond_both (nat_lt n 2) 0 (suc (halvings fuel (n / 2))) (λ k. (2 ^ k ≤ n) × (n < 2 * 2 ^ k))
    (λ e. let small : n < 2 = ltb-true n 2 e in (omega arith, omega arith))
    (λ e.
    let large : 2 ≤ n = ltb-false n 2 e in
    let top : 2 ^ suc fuel ≡ 2 ^ fuel * 2 = pow-suc 2 fuel in
    let half = halvings-bounds fuel (n / 2) (omega arith) (omega (arith, h, top)) in
    let power : 2 ^ suc (halvings fuel (n / 2)) ≡ 2 ^ halvings fuel (n / 2) * 2 =
    pow-suc 2 (halvings fuel (n / 2)) in
    (omega (arith, half.0, power), omega (arith, half.1, power)))

pub log2_of-bounds : (n : ℕ) → 0 < n → n < 2 ^ 64 → (2 ^ log2_of n ≤ n) × (n < 2 * 2 ^ log2_of n)
unfolding log2_of
log2_of-bounds n p h = halvings-bounds 64 n p h

pub leading_zeros-code : (k : ℕ) (rest : List ℕ) → leading_zeros (replicate k 0 ++ 1 ∷ rest) ≡ k
leading_zeros-code zero rest = refl
leading_zeros-code (suc k) rest = rw (leading_zeros-code k rest) refl

number_read : (n v : ℕ) (rest : List ℕ) → v < 2 ^ n → number_of (take n (digits n v ++ rest)) ≡ v
number_read n v rest h =
    let front : take n (digits n v ++ rest) ≡ digits n v =
    take_at (digits n v) rest n (length-digits n v) in
    let value : v % 2 ^ n ≡ v = mod-eq_of_lt h in
    rw front (number_of-digits n v ∙ value)

unsigned_read : (n v : ℕ) (rest : List ℕ) → v < 2 ^ n →
    read_field (digits n v ++ rest) (U n) ≡ Some (v, rest)
unsigned_read n v rest h =
    let enough : n ≤ length (digits n v ++ rest) =
    omega (arith, length-append (digits n v) rest, length-digits n v) in
    rw (
      le-leb n (length (digits n v ++ rest)) enough,
      number_read n v rest h,
      drop_at (digits n v) rest n (length-digits n v),
    ) refl

-- the highest digit is a one
pub top_digit : (k n : ℕ) → 2 ^ k ≤ n → n < 2 * 2 ^ k → digits (k + 1) n ≡ 1 ∷ digits k n
top_digit k n a b =
    let most : n / 2 ^ k < 2 = div_below n (2 ^ k) 2 (pow_pos k) b in
    let least : 1 ≤ n / 2 ^ k = le-div 1 n (2 ^ k) (pow_pos k) (omega (arith, a)) in
    let one : n / 2 ^ k % 2 ≡ 1 = omega arith in
    rw (add-one k, one) refl

code_read : (k n : ℕ) (rest : List ℕ) → k ≤ most_zeros → 2 ^ k ≤ n → n < 2 * 2 ^ k →
    read_field (replicate k 0 ++ digits (k + 1) n ++ rest) Ue ≡ Some (n - 1, rest)
code_read k n rest few a b =
    let zeros : List ℕ = replicate k 0 in
    let number : List ℕ = digits (k + 1) n in
    let bits : List ℕ = replicate k 0 ++ digits (k + 1) n ++ rest in
    let grouped : bits ≡ replicate k 0 ++ (digits (k + 1) n ++ rest) =
    append_assoc zeros number rest in
    let digit : bits ≡ replicate k 0 ++ 1 ∷ (digits k n ++ rest) =
    grouped ∙ ap (λ w. replicate k 0 ++ (w ++ rest)) (top_digit k n a b) in
    let lead : leading_zeros bits ≡ k = ap leading_zeros digit ∙
    leading_zeros-code k (digits k n ++ rest) in
    let long : length zeros ≡ k = length-replicate k 0 in
    let wide : length number ≡ k + 1 = length-digits (k + 1) n in
    let code : length (zeros ++ number) ≡ 2 * k + 1 =
    omega (arith, length-append zeros number, long, wide) in
    let enough : 2 * k + 1 ≤ length bits =
    omega (arith, length-append (zeros ++ number) rest, code) in
    let power : 2 ^ (k + 1) ≡ 2 * 2 ^ k = rw (add-one k, pow-suc 2 k) (omega arith) in
    let small : n < 2 ^ (k + 1) = omega (arith, b, power) in
    let behind : drop k bits ≡ digits (k + 1) n ++ rest = ap (drop k) grouped ∙
    drop_at zeros (number ++ rest) k long in
    let value : number_of (take (k + 1) (drop k bits)) ≡ n =
    ap (λ w. number_of (take (k + 1) w)) behind ∙ number_read (k + 1) n rest small in
    let left : drop (2 * k + 1) bits ≡ rest = drop_at (zeros ++ number) rest (2 * k + 1) code in
    rw (
      lead,
      le-leb k most_zeros few,
      le-leb (2 * k + 1) (length bits) enough,
      value,
      left,
    ) refl

-- the exponent of a power that is below another one
pub exponent_below : (k m n : ℕ) → 2 ^ k ≤ n → n < 2 ^ m → k < m
exponent_below k m n a b =
    elim (cases_lt k m) [
      | inl h ↦ h
      | inr h ↦ absurd (omega (arith, pow-le-pow_right {n = 2} (omega arith) h))
    ]

exp_golomb_read : (v : ℕ) (rest : List ℕ) → v < 2 ^ (most_zeros + 1) - 1 →
    read_field (exp_golomb v ++ rest) Ue ≡ Some (v, rest)
exp_golomb_read v rest h =
    let b = log2_of-bounds (v + 1) (omega arith) (omega arith) in
    let few = exponent_below (log2_of (v + 1)) 33 (v + 1) b.0 (omega arith) in
    let value : v + 1 - 1 ≡ v = omega arith in
    code_read (log2_of (v + 1)) (v + 1) rest (omega (arith, few)) b.0 b.1 ∙
    ap (λ n. Some (n, rest)) value

pub field_read : (q : Descriptor) (v : ℕ) (rest : List ℕ) → Codes q v →
    read_field (code_of q v ++ rest) q ≡ Some (v, rest)
field_read (U n) v rest h = unsigned_read n v rest h
field_read Ue v rest h = exp_golomb_read v rest h

-- the bits of fields give these fields, and are then the bits behind them
pub fields_gives : (fields : List Field) (rest : List ℕ) → AllCodable fields →
    Gives Descriptor ℕ (List ℕ) read_field (bits_of_fields fields ++ rest) fields rest
fields_gives [] rest p = none
fields_gives (field ∷ fields) rest p =
    let split : field_bits field ++ bits_of_fields fields ++ rest ≡
    field_bits field ++ (bits_of_fields fields ++ rest) =
    append_assoc (field_bits field) (bits_of_fields fields) rest in
    let read : read_field (field_bits field ++ bits_of_fields fields ++ rest) field.question ≡
    Some (field.value, bits_of_fields fields ++ rest) =
    rw split (field_read field.question field.value (bits_of_fields fields ++ rest) p.0) in
    more read (fields_gives fields rest p.1)

pub fields_read_back : (A : Type 0) → FieldsAreReadBack A
fields_read_back A script fields value rest p r =
    reads_run Descriptor ℕ (List ℕ) read_field r (fields_gives fields rest p)
