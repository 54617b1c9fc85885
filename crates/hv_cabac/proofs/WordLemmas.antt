-- The bytes of the code word.
use Rattle.std.proofs.Common.{◌≡◌, ℕ, suc, ◌+◌, ◌-◌, ◌*◌, ◌/◌, ◌%◌, ◌^◌, ◌<◌, ◌≤◌, List, [], ◌∷◌, ◌++◌, length, replicate, take, drop, get_or, refl, sym, ap, ap₂, ◌∙◌, subst, arith, pow_pos, pow-add, pow-suc, mul-le-mul_right, append_assoc, length-append}
use Rattle.std.proofs.lemmas.Nat.{shl-shr, shr_high}
use Rattle.std.proofs.lemmas.List.{drop-append-le, length-replicate, replicate-append-replicate}
use Rattle.hv_stream_model.specs.Bits.{digits, number_of, bits_of, first_bytes, bytes_of}
use Rattle.hv_entropy_model.specs.CodeWord.{Interval, odd_from, word_at}
use Rattle.hv_stream_model.proofs.BitLemmas.{number_of-digits, length-bits_of}
use Rattle.hv_stream_model.proofs.DigitLemmas.{digits-add, digits_low, length-digits}
use Rattle.hv_stream_model.proofs.FieldLemmas.{digits-zero}
use Rattle.hv_cabac.specs.Bytes.{number, total, places_of, HasRoom}
use Rattle.hv_cabac.specs.Registers.{Holds, total_of}
use Rattle.hv_cabac.specs.declared.register.Register.{Register}
use Rattle.hv_cabac.proofs.BoundLemmas.{bytes_power, room_of}

-- ---- digits
digits_shifted : (m p v : ℕ) → digits (m + p) (v * 2 ^ p) ≡ digits m v ++ replicate p 0
digits_shifted m p v =
    let z : digits p (v * 2 ^ p) ≡ replicate p 0 =
    ap (digits p) (omega arith) ∙ digits_low v p 0 ∙ digits-zero p in
    digits-add m p (v * 2 ^ p) ∙ rw (shl-shr v p, z) refl

-- ---- the bits of bytes
-- each element is a byte
abbrev pub AreBytes : List ℕ → Type 0
AreBytes xs = (i d : ℕ) → i < length xs → get_or xs i d < 256

rest_are : (x : ℕ) (xs : List ℕ) → AreBytes (x ∷ xs) → AreBytes xs
rest_are x xs h i d k = h (suc i) d (omega arith)

number_below : (xs : List ℕ) → AreBytes xs → number xs < 256 ^ length xs
number_below [] h = omega arith
number_below (x ∷ xs) h =
    let a : x < 256 = h 0 0 (omega arith) in
    let b = number_below xs (rest_are x xs h) in
    let m = mul-le-mul_right (256 ^ length xs) a in
    rw (pow-suc 256 (length xs)) (omega (arith, b, m))

bits_number : (xs : List ℕ) → AreBytes xs → bits_of xs ≡ digits (8 * length xs) (number xs)
bits_number [] h = refl
bits_number (x ∷ xs) h =
    let k : ℕ = 8 * length xs in
    let v : ℕ = x * 256 ^ length xs + number xs in
    let b = number_below xs (rest_are x xs h) in
    let ih = bits_number xs (rest_are x xs h) in
    let e : 8 * suc (length xs) ≡ 8 + k = omega arith in
    let p = bytes_power (length xs) in
    let b2 : number xs < 2 ^ k = rw p at b in
    let q : v / 2 ^ k ≡ x = rw p (shr_high x k (number xs) b2) in
    let l : digits k v ≡ digits k (number xs) = rw p (digits_low x k (number xs)) in
    rw ih (sym (rw e (digits-add 8 k v ∙ rw (q, l) refl)))

-- ---- the bytes of bits
-- eight digits, and what comes after them
take-digits : (x : ℕ) (ys : List ℕ) → take 8 (digits 8 x ++ ys) ≡ digits 8 x
take-digits x ys = refl

drop-digits : (x : ℕ) (ys : List ℕ) → drop 8 (digits 8 x ++ ys) ≡ ys
drop-digits x ys = refl

-- eight zeros after the bits make the same first byte as the p zeros that fill the last
first_byte : (x : ℕ) (xs b : List ℕ) (p : ℕ) → x < 256 → p ≤ 8 →
    bits_of (x ∷ xs) ≡ b ++ replicate p 0 → number_of (take 8 (b ++ replicate 8 0)) ≡ x
first_byte x xs b p h k e =
    let more : List ℕ = replicate (8 - p) 0 in
    let eight : 8 ≡ p + (8 - p) = omega arith in
    let r : replicate 8 0 ≡ replicate p 0 ++ more =
    ap (λ (n : ℕ). replicate n 0) eight ∙ sym (replicate-append-replicate p (8 - p) 0) in
    let s : b ++ replicate 8 0 ≡ digits 8 x ++ (bits_of xs ++ more) =
    ap (λ (ys : List ℕ). b ++ ys) r ∙ sym (append_assoc b (replicate p 0) more) ∙
    ap (λ (ys : List ℕ). ys ++ more) (sym e) ∙ append_assoc (digits 8 x) (bits_of xs) more in
    let low : x % 2 ^ 8 ≡ x = omega arith in
    ap (λ (ys : List ℕ). number_of (take 8 ys)) s ∙
    ap number_of (take-digits x (bits_of xs ++ more)) ∙ number_of-digits 8 x ∙ low

rest_bits : (x y : ℕ) (ys b : List ℕ) (p : ℕ) → p ≤ 7 →
    bits_of (x ∷ y ∷ ys) ≡ b ++ replicate p 0 → bits_of (y ∷ ys) ≡ drop 8 b ++ replicate p 0
rest_bits x y ys b p h e =
    let n : length (b ++ replicate p 0) ≡ 8 * length (x ∷ y ∷ ys) =
    ap length (sym e) ∙ length-bits_of (x ∷ y ∷ ys) in
    let long : 8 ≤ length b =
    omega (arith, n, length-append b (replicate p 0), length-replicate {A = ℕ}) in
    sym (drop-digits x (bits_of (y ∷ ys))) ∙ ap (drop 8) e ∙
    drop-append-le 8 b (replicate p 0) long

rest_bytes : (x : ℕ) (xs b : List ℕ) (p : ℕ) → p ≤ 7 → bits_of (x ∷ xs) ≡ b ++ replicate p 0 →
    (bits_of xs ≡ drop 8 b ++ replicate p 0 → first_bytes (length xs) (drop 8 b) ≡ xs) →
    first_bytes (length xs) (drop 8 b) ≡ xs
unfolding first_bytes
rest_bytes x [] b p h e ih = refl
rest_bytes x (y ∷ ys) b p h e ih = ih (rest_bits x y ys b p h e)

-- bytes whose bits are these and zeros to the byte
bytes_from : (xs b : List ℕ) (p : ℕ) → AreBytes xs → p ≤ 7 → bits_of xs ≡ b ++ replicate p 0 →
    first_bytes (length xs) b ≡ xs
unfolding first_bytes
bytes_from [] b p fit h e = refl
bytes_from (x ∷ xs) b p fit h e =
    let first = first_byte x xs b p (fit 0 0 (omega arith)) (omega arith) e in
    let rest =
    rest_bytes x xs b p h e (λ k. bytes_from xs (drop 8 b) p (rest_are x xs fit) h k) in
    ap₂ (λ (y : ℕ) (ys : List ℕ). y ∷ ys) first rest

-- ---- the word's last digits
odd_from-add : (a v : ℕ) → odd_from (2 * a + v) ≡ 2 * a + odd_from v
odd_from-add a v = omega arith

-- what stands above the register is even
odd_above : (xs : List ℕ) (bits low range : ℕ) → 1 ≤ bits → 2 ≤ range →
    odd_from (total xs bits low + range - 2) ≡ number xs * 2 ^ bits + odd_from (low + range - 2)
odd_above xs bits low range h k =
    let half : ℕ = number xs * 2 ^ (bits - 1) in
    let e : bits ≡ bits - 1 + 1 = omega arith in
    let p : number xs * 2 ^ bits ≡ 2 * half =
    subst (λ (x : ℕ). number xs * 2 ^ x ≡ 2 * half) (sym e)
    (rw (pow-add 2 (bits - 1) 1) (omega arith)) in
    let a : total xs bits low + range - 2 ≡ 2 * half + (low + range - 2) = omega (arith, p) in
    ap odd_from a ∙ odd_from-add half (low + range - 2) ∙
    ap (λ (x : ℕ). x + odd_from (low + range - 2)) (sym p)

total_ended : (xs : List ℕ) (bits low range pad : ℕ) → 1 ≤ bits → 2 ≤ range →
    total xs (bits + pad) (odd_from (low + range - 2) * 2 ^ pad) ≡
    odd_from (total xs bits low + range - 2) * 2 ^ pad
total_ended xs bits low range pad h k =
    rw (odd_above xs bits low range h k, pow-add 2 bits pad) (omega arith)

room_ended : (xs : List ℕ) (bits low range pad n : ℕ) → 2 ≤ range → places_of xs bits ≡ n + 9 →
    total xs bits low + range ≤ 510 * 2 ^ n →
    odd_from (total xs bits low + range - 2) * 2 ^ pad < 256 ^ length xs * 2 ^ (bits + pad)
room_ended xs bits low range pad n k e h =
    let v : ℕ = odd_from (total xs bits low + range - 2) in
    let b = room_of xs bits n e in
    let o : v + 1 ≤ total xs bits low + range = omega arith in
    let d : v + 1 ≤ 256 ^ length xs * 2 ^ bits = omega (arith, o, b, h) in
    let m = mul-le-mul_right (2 ^ pad) d in
    let q = pow_pos pad in
    rw (pow-add 2 bits pad) (omega (arith, m, q))

-- all digits of the word are out, and `pad` zeros
pub record IsOut (r : Register) (pad last : ℕ) (bytes : List ℕ) : Type 0 where
  pub long : 8 * length bytes ≡ 8 * length r.out.items + (r.bits + pad)
  pub value : HasRoom r.out.items (r.bits + pad) last →
      number bytes ≡ total r.out.items (r.bits + pad) last
  pub are : AreBytes bytes

word_bits : (r : Register) (bytes : List ℕ) (pad last : ℕ) (i : Interval) → Holds r i →
    last ≡ odd_from (r.low + r.range - 2) * 2 ^ pad → IsOut r pad last bytes →
    bits_of bytes ≡ word_at i ++ replicate pad 0
word_bits r bytes pad last i h e o =
    let one : 1 ≤ r.bits = omega (arith, r.at_least) in
    let two : 2 ≤ r.range = omega (arith, r.wide) in
    let end : ℕ = odd_from (i.low + i.range - 2) in
    let t = total_ended r.out.items r.bits r.low r.range pad one two in
    let inside : total_of r + r.range ≤ 510 * 2 ^ i.n = omega (arith, h.inside, h.low, h.width) in
    let room = room_ended r.out.items r.bits r.low r.range pad i.n two (sym h.places) inside in
    let v : number bytes ≡ end * 2 ^ pad = o.value (rw (e, t) room) ∙ rw (e, h.low, h.width) t in
    let k : 8 * length bytes ≡ (i.n + 9) + pad = omega (arith, o.long, h.places) in
    bits_number bytes o.are ∙ ap₂ (λ (a b : ℕ). digits a b) k v ∙ digits_shifted (i.n + 9) pad end

pub word_bytes : (r : Register) (bytes : List ℕ) (pad last : ℕ) (i : Interval) → Holds r i →
    pad ≤ 7 → last ≡ odd_from (r.low + r.range - 2) * 2 ^ pad → IsOut r pad last bytes →
    bytes ≡ bytes_of (word_at i)
word_bytes r bytes pad last i h few e o =
    let bits = word_bits r bytes pad last i h e o in
    let m = length-digits (i.n + 9) (odd_from (i.low + i.range - 2)) in
    let n : (length (word_at i) + 7) / 8 ≡ length bytes = omega (arith, m, o.long, h.places, few) in
    sym (bytes_from bytes (word_at i) pad o.are few bits) ∙
    ap (λ (k : ℕ). first_bytes k (word_at i)) (sym n)
