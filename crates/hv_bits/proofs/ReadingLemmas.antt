-- What stands behind the bits that were read (7.2, 9.2), the number of the next ones, and the zeros
-- among them, for the calls of `BitReader`.
use Rattle.std.proofs.Common.{◌≡◌, ℕ, zero, suc, ◌+◌, ◌-◌, ◌*◌, ◌/◌, ◌%◌, ◌^◌, ◌<◌, ◌≤◌, List, [], ◌∷◌, ◌++◌, length, get_or, take, drop, min, add-one, false, bit_and, bit_or, sym, ap, ap₂, subst, ◌∙◌, arith, append_assoc, append-nil, length-drop, take-append-drop}
use Rattle.std.proofs.Math.Nat.{mod-eq_of_lt, div-eq_of_lt, pow-le-pow_right}
use Rattle.std.specs.Prelude.{replicate, nat_eq}
use Rattle.std.proofs.lemmas.Nat.{shl_whole, one_shl, or_shifted, and_mask, pow_pos, pow-add}
use Rattle.std.proofs.lemmas.List.{take_at, drop_at, drop-drop, take-append-le, drop-append-le, length-take-le, take_all, take_more}
use Rattle.std.proofs.lemmas.Bool.{cond_both, ne_eqb}
use Rattle.hv_stream_model.specs.Bits.{digits, number_of, bits_of}
use Rattle.hv_stream_model.specs.Fields.{leading_zeros}
use Rattle.hv_stream_model.specs.BitLaws.{AreBits}
use Rattle.hv_stream_model.proofs.DigitLemmas.{length-digits, digits-add}
use Rattle.hv_stream_model.proofs.BitLemmas.{number_of-digits, number_of-append, number_of_lt, digits-number_of, bits_of-append, length-bits_of, AreBits-bits_of, AreBits-drop, AreBits-take, drop-bits_of}
use Rattle.hv_stream_model.proofs.FieldLemmas.{digits-zero, top_digit, leading_zeros-code, exponent_below}

-- bits that are passed
pub drop_passed : (bytes : List ℕ) (s c : ℕ) →
    drop ((s + c) % 8) (bits_of (drop ((s + c) / 8) bytes)) ≡ drop c (drop s (bits_of bytes))
drop_passed bytes s c =
    let p : ℕ = s + c in
    let whole : 8 * (p / 8) + p % 8 ≡ s + c = omega arith in
    ap (drop (p % 8)) (sym (drop-bits_of (p / 8) bytes)) ∙
    drop-drop (p % 8) (8 * (p / 8)) (bits_of bytes) ∙
    ap (λ n. drop n (bits_of bytes)) whole ∙
    sym (drop-drop c s (bits_of bytes))

-- one byte more
pub number_pushed : (bytes : List ℕ) (byte : ℕ) → byte < 256 →
    number_of (bits_of (bytes ++ byte ∷ [])) ≡ number_of (bits_of bytes) * 2 ^ 8 + byte
number_pushed bytes byte h =
    let value : number_of (digits 8 byte ++ []) ≡ byte =
    ap number_of (append-nil (digits 8 byte)) ∙ number_of-digits 8 byte ∙ mod-eq_of_lt h in
    ap number_of (bits_of-append bytes (byte ∷ [])) ∙
    number_of-append (bits_of bytes) (digits 8 byte ++ []) ∙
    ap (λ n. number_of (bits_of bytes) * 2 ^ 8 + n) value

pub number_bound : (bytes : List ℕ) (n : ℕ) → length bytes ≡ n →
    number_of (bits_of bytes) < 2 ^ (8 * n)
number_bound bytes n e =
    subst (λ k. number_of (bits_of bytes) < 2 ^ k) (length-bits_of bytes ∙ ap (λ k. 8 * k) e)
    (number_of_lt (bits_of bytes) (AreBits-bits_of bytes))

-- the bits from a place on, by shifting and masking the number of the bytes that hold them
pub number_cut : (front behind : List ℕ) (s c n r : ℕ) → length front ≡ n → s + c + r ≡ 8 * n →
    number_of (bits_of front) / 2 ^ r % 2 ^ c ≡
    number_of (take c (drop s (bits_of (front ++ behind))))
number_cut front behind s c n r e h =
    let bits : List ℕ = bits_of front in
    let v : ℕ = number_of (bits_of front) in
    let long : length (bits_of front) ≡ s + (c + r) = omega (arith, length-bits_of front) in
    let back : digits (s + (c + r)) v ≡ bits_of front =
    ap (λ k. digits k v) (sym long) ∙ digits-number_of (bits_of front) (AreBits-bits_of front) in
    let split : bits_of front ≡ digits s (v / 2 ^ (c + r)) ++ (digits c (v / 2 ^ r) ++ digits r v) =
    sym back ∙ digits-add s (c + r) v ∙
    ap (λ w. digits s (v / 2 ^ (c + r)) ++ w) (digits-add c r v) in
    let behind_s : drop s (bits_of front) ≡ digits c (v / 2 ^ r) ++ digits r v =
    ap (drop s) split ∙ drop_at (digits s (v / 2 ^ (c + r))) (digits c (v / 2 ^ r) ++ digits r v) s
    (length-digits s (v / 2 ^ (c + r))) in
    let cut : take c (drop s (bits_of front)) ≡ digits c (v / 2 ^ r) =
    ap (take c) behind_s ∙ take_at (digits c (v / 2 ^ r)) (digits r v) c (length-digits c (v / 2 ^
    r)) in
    let left : c ≤ length (drop s (bits_of front)) =
    omega (arith, length-drop s (bits_of front), long) in
    let whole : take c (drop s (bits_of (front ++ behind))) ≡ take c (drop s (bits_of front)) =
    ap (λ w. take c (drop s w)) (bits_of-append front behind) ∙
    ap (take c) (drop-append-le s (bits_of front) (bits_of behind) (omega (arith, long))) ∙
    take-append-le c (drop s (bits_of front)) (bits_of behind) left in
    sym (ap number_of (whole ∙ cut) ∙ number_of-digits c (v / 2 ^ r))

-- ---- zeros in front

leading_zeros-some : (k : ℕ) (rest : List ℕ) →
    leading_zeros (digits k 0 ++ rest) ≡ k + leading_zeros rest
leading_zeros-some k rest = rw (digits-zero k) (go k rest)
  where
    go : (k : ℕ) (rest : List ℕ) → leading_zeros (replicate k 0 ++ rest) ≡ k + leading_zeros rest
    go zero rest = omega arith
    go (suc k) rest = rw (go k rest) (omega arith)

-- the first m bits make no number
pub zeros_none : (bits : List ℕ) (m : ℕ) → AreBits bits → m ≤ length bits →
    number_of (take m bits) ≡ 0 →
    leading_zeros bits ≡ m + leading_zeros (drop m bits)
zeros_none bits m p h e =
    let long : length (take m bits) ≡ m = length-take-le m bits h in
    let front : digits m 0 ≡ take m bits =
    ap₂ (λ k v. digits k v) (sym long) (sym e) ∙
    digits-number_of (take m bits) (AreBits-take m bits p) in
    ap leading_zeros (sym (take-append-drop m bits)) ∙
    ap (λ w. leading_zeros (w ++ drop m bits)) (sym front) ∙
    leading_zeros-some m (drop m bits)

-- their number has its highest digit at the place k
pub zeros_before : (bits : List ℕ) (m k : ℕ) → AreBits bits → m ≤ length bits →
    2 ^ k ≤ number_of (take m bits) → number_of (take m bits) < 2 * 2 ^ k → k < m →
    leading_zeros bits ≡ m - 1 - k
zeros_before bits m k p h a b l =
    let v : ℕ = number_of (take m bits) in
    let z : ℕ = m - 1 - k in
    let long : length (take m bits) ≡ m = length-take-le m bits h in
    let back : digits m v ≡ take m bits =
    ap (λ n. digits n v) (sym long) ∙ digits-number_of (take m bits) (AreBits-take m bits p) in
    let count : m ≡ z + (k + 1) = omega arith in
    let power : 2 ^ (k + 1) ≡ 2 ^ k * 2 = pow-add 2 k 1 in
    let none : v / 2 ^ (k + 1) ≡ 0 = div-eq_of_lt (omega (arith, b, power)) in
    let front : take m bits ≡ replicate z 0 ++ (1 ∷ digits k v) =
    sym back ∙ ap (λ n. digits n v) count ∙ digits-add z (k + 1) v ∙
    ap₂ (λ x y. x ++ y) (ap (λ w. digits z w) none ∙ digits-zero z) (top_digit k v a b) in
    ap leading_zeros (sym (take-append-drop m bits)) ∙
    ap (λ w. leading_zeros (w ++ drop m bits)) front ∙
    ap leading_zeros (append_assoc (replicate z 0) (1 ∷ digits k v) (drop m bits)) ∙
    leading_zeros-code z (digits k v ++ drop m bits)

-- ---- what the code computes

-- how many bits are left
pub left_bits : (bytes now : List ℕ) (s : ℕ) → drop s (bits_of bytes) ≡ now →
    length now ≡ 8 * length bytes - s
left_bits bytes now s e =
    ap length (sym e) ∙ length-drop s (bits_of bytes) ∙ ap (λ n. n - s) (length-bits_of bytes)

pub AreBits-left : (bytes now : List ℕ) (s : ℕ) → drop s (bits_of bytes) ≡ now → AreBits now
AreBits-left bytes now s e = subst AreBits e (AreBits-drop s (bits_of bytes) (AreBits-bits_of
    bytes))

-- a byte of at most five goes behind the number of those before it
pub number_step : (bytes : List ℕ) (i number byte : ℕ) → i < length bytes → i < 5 → byte < 256 →
    byte ≡ get_or bytes i 0 → number ≡ number_of (bits_of (take i bytes)) →
    bit_or (number * 256 % 18446744073709551616) byte ≡ number_of (bits_of (take (i + 1) bytes))
number_step bytes i number byte h few small e n =
    let long : length (take i bytes) ≡ i = length-take-le i bytes (omega arith) in
    let bound : number_of (bits_of (take i bytes)) < 2 ^ (8 * i) =
    number_bound (take i bytes) i long in
    let two : 0 < 2 = omega arith in
    let width : 8 * i ≤ 32 = omega arith in
    let wide : 2 ^ (8 * i) ≤ 2 ^ 32 = pow-le-pow_right two width in
    let shifted : (number * 2 ^ 8) % 2 ^ 64 ≡ number * 2 ^ 8 =
    shl_whole number 32 8 64 (omega (arith, bound, wide, n)) (omega arith) in
    let joined : bit_or (number * 2 ^ 8) byte ≡ number * 2 ^ 8 + byte =
    or_shifted number 8 byte small in
    let more : take (i + 1) bytes ≡ take i bytes ++ get_or bytes i 0 ∷ [] = take_more bytes i 0 h in
    ap (λ x. bit_or x byte) shifted ∙ joined ∙
    ap₂ (λ x y. x * 2 ^ 8 + y) n e ∙
    sym (number_pushed (take i bytes) (get_or bytes i 0) (subst (λ x. x < 256) e small)) ∙
    ap (λ w. number_of (bits_of w)) (sym more)

-- the number of the bytes is shifted and masked
pub number_final : (bytes : List ℕ) (s c i number : ℕ) → c ≤ 33 → s + c ≤ 8 * length bytes →
    length (take ((s + c + 7) / 8) bytes) ≤ i →
    number ≡ number_of (bits_of (take i (take ((s + c + 7) / 8) bytes))) →
    bit_and (number / 2 ^ (8 * ((s + c + 7) / 8) - s - c)) (1 * 2 ^ c % 18446744073709551616 - 1) ≡
    number_of (take c (drop s (bits_of bytes)))
number_final bytes s c i number few there all e =
    let n : ℕ = (s + c + 7) / 8 in
    let r : ℕ = 8 * n - s - c in
    let front : List ℕ = take n bytes in
    let whole : number ≡ number_of (bits_of front) = e ∙
    ap (λ w. number_of (bits_of w)) (take_all i front all) in
    let power : 1 * 2 ^ c % 2 ^ 64 ≡ 2 ^ c = one_shl c 64 (omega arith) in
    let masked : bit_and (number / 2 ^ r) (2 ^ c - 1) ≡ number / 2 ^ r % 2 ^ c =
    and_mask (number / 2 ^ r) c in
    let long : length front ≡ n = length-take-le n bytes (omega arith) in
    let cut : number_of (bits_of front) / 2 ^ r % 2 ^ c ≡
    number_of (take c (drop s (bits_of (front ++ drop n bytes)))) =
    number_cut front (drop n bytes) s c n r long (omega arith) in
    ap (λ m. bit_and (number / 2 ^ r) (m - 1)) power ∙ masked ∙
    ap (λ v. v / 2 ^ r % 2 ^ c) whole ∙ cut ∙
    ap (λ w. number_of (take c (drop s (bits_of w)))) (take-append-drop n bytes)

leading_zeros-le : (bits : List ℕ) → leading_zeros bits ≤ length bits
leading_zeros-le [] = omega arith
leading_zeros-le (bit ∷ bits) =
    cond_both (nat_eq bit 0) (suc (leading_zeros bits)) 0 (λ n. n ≤ suc (length bits))
    (λ e. omega (arith, leading_zeros-le bits)) (λ e. omega arith)

pub zeros_all : (bits : List ℕ) (m : ℕ) → AreBits bits → m ≡ min 33 (length bits) →
    number_of (take m bits) ≡ 0 →
    m ≡ min 33 (leading_zeros bits)
zeros_all bits m p h e =
    omega (
      arith,
      zeros_none bits m p (omega arith) e,
      leading_zeros-le (drop m bits),
      length-drop m bits,
    )

pub zeros_some : (bits : List ℕ) (m k v : ℕ) → AreBits bits → m ≡ min 33 (length bits) →
    v ≡ number_of (take m bits) →
    2 ^ k ≤ v → v < 2 * 2 ^ k → v < 2 ^ m → m - 1 - k ≡ min 33 (leading_zeros bits)
zeros_some bits m k v p h e a b l =
    let within : k < m = exponent_below k m v a l in
    omega (
      arith,
      zeros_before bits m k p (omega arith) (subst (λ x. 2 ^ k ≤ x) e a) (subst (λ x. x
          < 2 * 2 ^ k) e b) within,
    )

-- what follows the zeros begins with a one
pub one_behind : (bits : List ℕ) (k : ℕ) → leading_zeros bits < length bits →
    0 < number_of (take (k + 1) (drop (leading_zeros bits) bits))
one_behind [] k h = absurd (omega arith)
one_behind (zero ∷ bits) k h = one_behind bits k (omega arith)
one_behind (suc bit ∷ bits) k h =
    let none : nat_eq (suc bit) 0 ≡ false = ne_eqb (suc bit) 0 (λ e. omega arith) in
    rw (none, add-one k) (omega (arith, pow_pos (length (take k bits))))
