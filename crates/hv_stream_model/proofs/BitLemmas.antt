-- Bits and the bytes that they make (7.2): digits of a number and back, bits of bytes and back, and
-- numbers of bits from a place on.
use Rattle.std.proofs.Common.{◌≡◌, ℕ, zero, suc, ◌+◌, ◌*◌, ◌/◌, ◌%◌, ◌^◌, ◌<◌, ◌≤◌, List, [], ◌∷◌, ◌++◌, length, get_or, take, drop, refl, sym, ap, ap₂, ◌∙◌, subst, arith, pow-add, pow-suc, mul-le-mul_right, suc-add, one-add, append_assoc, length-append, length-drop, take-append-drop}
use Rattle.std.specs.Prelude.{replicate}
use Rattle.std.specs.Int.{byte_at, bytes_high_first}
use Rattle.std.proofs.Math.Nat.{zero-add}
use Rattle.std.proofs.lemmas.Nat.{mod-pow-add, shr_split, div-mul-add}
use Rattle.std.proofs.lemmas.List.{take-append-le, drop-append-le, drop-drop, length-take-le}
use Rattle.hv_stream_model.specs.Bits.{digits, number_of, bits_of, first_bytes, bytes_of}
use Rattle.hv_stream_model.specs.BitLaws.{AreBits, AreBytes}
use Rattle.hv_stream_model.proofs.DigitLemmas.{length-digits, digits-add, digits_low_from}

-- ---- binary digits

-- what stands above the place n isn't seen in the lowest k digits
pub digits_low : (k n a v w : ℕ) → k ≤ n → w ≡ a * 2 ^ n + v → digits k w ≡ digits k v
digits_low k n a v w h e = rw e (digits_low_from k a n v h)

pub digits-mod : (k n v : ℕ) → k ≤ n → digits k (v % 2 ^ n) ≡ digits k v
digits-mod k n v h = sym (digits_low k n (v / 2 ^ n) (v % 2 ^ n) v h (sym (shr_split v n)))

-- two fields in one number
pub digits-pair : (j k a v : ℕ) → v < 2 ^ k →
    digits (j + k) (a * 2 ^ k + v) ≡ digits j a ++ digits k v
digits-pair j k a v h =
    let high : (a * 2 ^ k + v) / 2 ^ k ≡ a = div-mul-add a (2 ^ k) v h in
    rw (
      digits-add j k (a * 2 ^ k + v),
      high,
      digits_low k k a v (a * 2 ^ k + v) (omega arith) refl,
    ) refl

pub number_of-digits : (k v : ℕ) → number_of (digits k v) ≡ v % 2 ^ k
number_of-digits zero v = omega arith
number_of-digits (suc k) v =
    let m : v % 2 ^ suc k ≡ (v / 2 ^ k % 2) * 2 ^ k + v % 2 ^ k =
    rw (← one-add k) (mod-pow-add v 1 k) in
    rw (length-digits k v, number_of-digits k v, m) refl

pub AreBits-digits : (k v : ℕ) → AreBits (digits k v)
AreBits-digits zero v = tt
AreBits-digits (suc k) v = (omega arith, AreBits-digits k v)

pub AreBits-append : (a b : List ℕ) → AreBits a → AreBits b → AreBits (a ++ b)
AreBits-append [] b p q = q
AreBits-append (x ∷ a) b p q = (p.0, AreBits-append a b p.1 q)

pub AreBits-replicate : (n d : ℕ) → d < 2 → AreBits (replicate n d)
AreBits-replicate zero d h = tt
AreBits-replicate (suc n) d h = (h, AreBits-replicate n d h)

pub AreBits-take : (n : ℕ) (a : List ℕ) → AreBits a → AreBits (take n a)
AreBits-take zero a p = tt
AreBits-take (suc n) [] p = tt
AreBits-take (suc n) (x ∷ a) p = (p.0, AreBits-take n a p.1)

pub AreBits-drop : (n : ℕ) (a : List ℕ) → AreBits a → AreBits (drop n a)
AreBits-drop zero a p = p
AreBits-drop (suc n) [] p = tt
AreBits-drop (suc n) (x ∷ a) p = AreBits-drop n a p.1

pub number_of_lt : (ds : List ℕ) → AreBits ds → number_of ds < 2 ^ length ds
number_of_lt [] p = omega arith
number_of_lt (d ∷ ds) p =
    let rest = number_of_lt ds p.1 in
    let power : 2 ^ suc (length ds) ≡ 2 ^ length ds * 2 = pow-suc 2 (length ds) in
    let top : d * 2 ^ length ds ≤ 1 * 2 ^ length ds =
    mul-le-mul_right (2 ^ length ds) (omega (arith, p.0)) in
    rw power (omega (arith, rest, top))

pub digits-number_of : (ds : List ℕ) → AreBits ds → digits (length ds) (number_of ds) ≡ ds
digits-number_of [] p = refl
digits-number_of (d ∷ ds) p =
    let l : ℕ = length ds in
    let m : ℕ = number_of ds in
    let high : (d * 2 ^ l + m) / 2 ^ l ≡ d = div-mul-add d (2 ^ l) m (number_of_lt ds p.1) in
    let bit : d % 2 ≡ d = omega (arith, p.0) in
    rw (
      high,
      bit,
      digits_low l l d m (d * 2 ^ l + m) (omega arith) refl,
      digits-number_of ds p.1,
    ) refl

-- ---- bits of bytes

pub bits_of-append : (a b : List ℕ) → bits_of (a ++ b) ≡ bits_of a ++ bits_of b
bits_of-append [] b = refl
bits_of-append (x ∷ a) b = rw (bits_of-append a b) (sym (append_assoc (digits 8 x) (bits_of a)
    (bits_of b)))

pub length-bits_of : (a : List ℕ) → length (bits_of a) ≡ 8 * length a
length-bits_of [] = refl
length-bits_of (x ∷ a) = omega (
  arith,
  length-append (digits 8 x) (bits_of a),
  length-digits 8 x,
  length-bits_of a,
)

pub AreBits-bits_of : (a : List ℕ) → AreBits (bits_of a)
AreBits-bits_of [] = tt
AreBits-bits_of (x ∷ a) = AreBits-append (digits 8 x) (bits_of a) (AreBits-digits 8 x)
    (AreBits-bits_of a)

pow_of_byte : (k : ℕ) → 2 ^ (8 * k) ≡ 256 ^ k
pow_of_byte zero = refl
pow_of_byte (suc k) =
    let split : 8 * suc k ≡ 8 * k + 8 = omega arith in
    rw (split, pow-add 2 (8 * k) 8, pow_of_byte k, pow-suc 256 k) refl

byte_at-eq : (k v : ℕ) → byte_at k v ≡ v / 2 ^ (8 * k) % 2 ^ 8
byte_at-eq zero v = omega arith
byte_at-eq (suc k) v = rw (pow_of_byte (suc k)) refl

-- the bytes of a word are its digits by eights
pub bits_of-bytes_high_first : (k v : ℕ) → bits_of (bytes_high_first k v) ≡ digits (8 * k) v
bits_of-bytes_high_first zero v = refl
bits_of-bytes_high_first (suc k) v =
    let byte : digits 8 (byte_at k v) ≡ digits 8 (v / 2 ^ (8 * k)) =
    subst (λ b. digits 8 b ≡ digits 8 (v / 2 ^ (8 * k))) (sym (byte_at-eq k v)) (digits-mod 8 8 (v
    / 2 ^ (8 * k)) (omega arith)) in
    let split : 8 * suc k ≡ 8 + 8 * k = omega arith in
    let all : digits (8 + 8 * k) v ≡ digits 8 (v / 2 ^ (8 * k)) ++ digits (8 * k) v =
    digits-add 8 (8 * k) v in
    let rest : bits_of (bytes_high_first k v) ≡ digits (8 * k) v = bits_of-bytes_high_first k v in
    let parts : digits 8 (byte_at k v) ++ bits_of (bytes_high_first k v) ≡
    digits 8 (v / 2 ^ (8 * k)) ++ digits (8 * k) v = ap₂ (λ x y. x ++ y) byte rest in
    rw split (parts ∙ sym all)

-- ---- bytes of bits

front_append : (a b : List ℕ) → 8 ≤ length a →
    take 8 ((a ++ b) ++ replicate 8 0) ≡ take 8 (a ++ replicate 8 0)
front_append a b h =
    let first : take 8 (a ++ (b ++ replicate 8 0)) ≡ take 8 a =
    take-append-le 8 a (b ++ replicate 8 0) h in
    let second : take 8 (a ++ replicate 8 0) ≡ take 8 a = take-append-le 8 a (replicate 8 0) h in
    rw (append_assoc a b (replicate 8 0)) (first ∙ sym second)

first_bytes-append : (n m : ℕ) (a b : List ℕ) → length a ≡ 8 * n →
    first_bytes (n + m) (a ++ b) ≡ first_bytes n a ++ first_bytes m b
unfolding first_bytes
first_bytes-append zero m [] b e = rw zero-add refl
first_bytes-append zero m (x ∷ a) b e = absurd (omega arith)
first_bytes-append (suc n) m a b e =
    let enough : 8 ≤ length a = omega arith in
    let left : length (drop 8 a) ≡ 8 * n = omega (arith, length-drop 8 a) in
    rw (
      suc-add n m,
      front_append a b enough,
      drop-append-le 8 a b enough,
      first_bytes-append n m (drop 8 a) b left,
    ) refl

pub bytes_of-append : (a b : List ℕ) → length a % 8 ≡ 0 →
    bytes_of (a ++ b) ≡ bytes_of a ++ bytes_of b
bytes_of-append a b e =
    let n : ℕ = length a / 8 in
    let m : ℕ = (length b + 7) / 8 in
    let whole : length a ≡ 8 * n = omega arith in
    let count : (length a + 7) / 8 ≡ n = omega arith in
    let both : (length (a ++ b) + 7) / 8 ≡ n + m = omega (arith, length-append a b) in
    rw (both, count) (first_bytes-append n m a b whole)

bits_of-first_bytes : (n : ℕ) (bits : List ℕ) → AreBits bits → length bits ≡ 8 * n →
    bits_of (first_bytes n bits) ≡ bits
unfolding first_bytes
bits_of-first_bytes zero [] p e = refl
bits_of-first_bytes zero (x ∷ bits) p e = absurd (omega arith)
bits_of-first_bytes (suc n) bits p e =
    let enough : 8 ≤ length bits = omega arith in
    let left : length (drop 8 bits) ≡ 8 * n = omega (arith, length-drop 8 bits) in
    let front : List ℕ = take 8 bits in
    let eight : length front ≡ 8 = length-take-le 8 bits enough in
    let byte : digits (length front) (number_of front) ≡ front =
    digits-number_of front (AreBits-take 8 bits p) in
    let rest : bits_of (first_bytes n (drop 8 bits)) ≡ drop 8 bits =
    bits_of-first_bytes n (drop 8 bits) (AreBits-drop 8 bits p) left in
    let filled : take 8 (bits ++ replicate 8 0) ≡ front =
    take-append-le 8 bits (replicate 8 0) enough in
    let eighth : digits 8 (number_of front) ≡ front =
    subst (λ k. digits k (number_of front) ≡ front) eight byte in
    let first : digits 8 (number_of (take 8 (bits ++ replicate 8 0))) ≡ front =
    ap (λ w. digits 8 (number_of w)) filled ∙ eighth in
    ap₂ (λ x y. x ++ y) first rest ∙ take-append-drop 8 bits

pub bits_of-bytes_of : (bits : List ℕ) → AreBits bits → length bits % 8 ≡ 0 →
    bits_of (bytes_of bits) ≡ bits
bits_of-bytes_of bits p e =
    let n : ℕ = length bits / 8 in
    let whole : length bits ≡ 8 * n = omega arith in
    let count : (length bits + 7) / 8 ≡ n = omega arith in
    rw count (bits_of-first_bytes n bits p whole)

first_bytes-bits_of : (bytes : List ℕ) → AreBytes bytes →
    first_bytes (length bytes) (bits_of bytes) ≡ bytes
unfolding first_bytes
first_bytes-bits_of [] p = refl
first_bytes-bits_of (x ∷ bytes) p =
    let value : number_of (digits 8 x) ≡ x % 2 ^ 8 = number_of-digits 8 x in
    let small : x % 2 ^ 8 ≡ x = omega (arith, p.0) in
    rw (value, small, first_bytes-bits_of bytes p.1) refl

pub bytes_of-bits_of : (bytes : List ℕ) → AreBytes bytes → bytes_of (bits_of bytes) ≡ bytes
bytes_of-bits_of bytes p =
    let count : (length (bits_of bytes) + 7) / 8 ≡ length bytes =
    omega (arith, length-bits_of bytes) in
    rw count (first_bytes-bits_of bytes p)

-- the same by places
pub AreBytes-from_places : (bytes : List ℕ) → ((k : ℕ) → k < length bytes →
    get_or bytes k 0 < 256) → AreBytes bytes
AreBytes-from_places [] h = tt
AreBytes-from_places (x ∷ bytes) h =
    (h 0 (omega arith), AreBytes-from_places bytes (λ k l. h (suc k) (omega arith)))

pub AreBytes-append : (a b : List ℕ) → AreBytes a → AreBytes b → AreBytes (a ++ b)
AreBytes-append [] b p q = q
AreBytes-append (x ∷ a) b p q = (p.0, AreBytes-append a b p.1 q)

pub AreBytes-bytes_high_first : (k v : ℕ) → AreBytes (bytes_high_first k v)
AreBytes-bytes_high_first zero v = tt
AreBytes-bytes_high_first (suc k) v =
    let small : byte_at k v < 256 = rw (byte_at-eq k v) (omega arith) in
    (small, AreBytes-bytes_high_first k v)

-- ---- numbers of bits, and bits from a place on

pub number_of-append : (a b : List ℕ) →
    number_of (a ++ b) ≡ number_of a * 2 ^ length b + number_of b
number_of-append [] b = omega arith
number_of-append (x ∷ a) b =
    let power : 2 ^ length (a ++ b) ≡ 2 ^ length a * 2 ^ length b =
    rw (length-append a b) (pow-add 2 (length a) (length b)) in
    rw (power, number_of-append a b) (omega arith)

pub drop-bits_of : (k : ℕ) (bytes : List ℕ) → drop (8 * k) (bits_of bytes) ≡ bits_of (drop k bytes)
drop-bits_of zero bytes = refl
drop-bits_of (suc k) [] = let count : 8 * suc k ≡ suc (8 * k + 7) = omega arith in rw count refl
drop-bits_of (suc k) (x ∷ bytes) =
    let count : 8 * suc k ≡ 8 + 8 * k = omega arith in
    let first : drop 8 (digits 8 x ++ bits_of bytes) ≡ bits_of bytes = refl in
    let split : drop (8 * k) (drop 8 (digits 8 x ++ bits_of bytes)) ≡
    drop (8 + 8 * k) (digits 8 x ++ bits_of bytes) =
    drop-drop (8 * k) 8 (digits 8 x ++ bits_of bytes) in
    let moved : drop (8 * suc k) (digits 8 x ++ bits_of bytes) ≡
    drop (8 + 8 * k) (digits 8 x ++ bits_of bytes) =
    ap (λ n. drop n (digits 8 x ++ bits_of bytes)) count in
    moved ∙ sym split ∙ drop-bits_of k bytes
