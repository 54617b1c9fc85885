-- What a field (7.2) adds to the bits of a writer, for `put`, `trail` and `finish`: its last bits
-- r, of which w wait, take k bits of v.
use Rattle.std.proofs.Common.{◌≡◌, ℕ, ◌+◌, ◌-◌, ◌*◌, ◌/◌, ◌%◌, ◌^◌, ◌<◌, ◌≤◌, zero, suc, List, [], ◌∷◌, ◌++◌, length, bit_and, bit_or, sym, ap, ap₂, ◌∙◌, arith, append_assoc, append-nil, length-append}
use Rattle.std.specs.Int.{w32, to_be_bytes}
use Rattle.std.proofs.lemmas.Nat.{shl_whole, one_shl, or_shifted, and_mask}
use Rattle.hv_stream_model.specs.Bits.{digits, bits_of}
use Rattle.hv_stream_model.specs.Fields.{padding_of}
use Rattle.hv_stream_model.proofs.DigitLemmas.{length-digits, digits-add}
use Rattle.hv_stream_model.proofs.BitLemmas.{digits-mod, digits-pair, bits_of-append, length-bits_of, bits_of-bytes_high_first}
use Rattle.hv_stream_model.proofs.FieldLemmas.{padding_of-eq}

-- the last bits with the new ones behind them, and the lowest 32 of any number
abbrev pub joined : ℕ → ℕ → ℕ → ℕ
joined r k v = bit_or (r * 2 ^ k % 18446744073709551616) v

abbrev pub low : ℕ → ℕ
low n = bit_and n 4294967295

joined-eq : (r k v : ℕ) → r < 2 ^ 32 → k ≤ 32 → v < 2 ^ k → joined r k v ≡ r * 2 ^ k + v
joined-eq r k v p q h =
    let whole : (r * 2 ^ k) % 2 ^ 64 ≡ r * 2 ^ k = shl_whole r 32 k 64 p (omega arith) in
    rw whole (or_shifted r k v h)

digits-low : (k n : ℕ) → k ≤ 32 → digits k (low n) ≡ digits k n
digits-low k n h =
    let masked : low n ≡ n % 2 ^ 32 = and_mask n 32 in
    rw masked (digits-mod k 32 n h)

digits-joined : (r w k v : ℕ) → r < 2 ^ 32 → k ≤ 32 → v < 2 ^ k →
    digits (w + k) (joined r k v) ≡ digits w r ++ digits k v
digits-joined r w k v p q h = rw (joined-eq r k v p q h) (digits-pair w k r v h)

-- fewer than 32 bits wait then
pub put_few : (bytes : List ℕ) (r w k v : ℕ) → r < 2 ^ 32 → w + k < 32 → v < 2 ^ k →
    bits_of bytes ++ digits (w + k) (low (joined r k v)) ≡ bits_of bytes ++ digits w r ++ digits k v
put_few bytes r w k v p q h =
    let behind : digits (w + k) (low (joined r k v)) ≡ digits w r ++ digits k v =
    digits-low (w + k) (joined r k v) (omega arith) ∙ digits-joined r w k v p (omega arith) h in
    rw behind (sym (append_assoc (bits_of bytes) (digits w r) (digits k v)))

-- 32 bits go into the bytes, and the others wait
pub put_word : (bytes : List ℕ) (r w k v : ℕ) → r < 2 ^ 32 → w < 32 → k ≤ 32 → 32 ≤ w + k →
    v < 2 ^ k →
    bits_of (bytes ++ to_be_bytes w32 (low (joined r k v / 2 ^ (w + k - 32)))) ++ digits (w + k -
    32) (low (joined r k v)) ≡
    bits_of bytes ++ digits w r ++ digits k v
put_word bytes r w k v p o q s h =
    let n : ℕ = w + k - 32 in
    let all : ℕ = joined r k v in
    let word : bits_of (to_be_bytes w32 (low (all / 2 ^ n))) ≡ digits 32 (all / 2 ^ n) =
    bits_of-bytes_high_first 4 (low (all / 2 ^ n)) ∙ digits-low 32 (all / 2 ^ n) (omega arith) in
    let parts : digits (32 + n) all ≡ digits 32 (all / 2 ^ n) ++ digits n all =
    digits-add 32 n all in
    let length : 32 + n ≡ w + k = omega arith in
    let joint : digits (32 + n) all ≡ digits w r ++ digits k v =
    rw length (digits-joined r w k v p q h) in
    let waiting : digits n (low all) ≡ digits n all = digits-low n all (omega arith) in
    let whole : bits_of (bytes ++ to_be_bytes w32 (low (all / 2 ^ n))) ≡
    bits_of bytes ++ digits 32 (all / 2 ^ n) =
    bits_of-append bytes (to_be_bytes w32 (low (all / 2 ^ n))) ∙
    ap (λ x. bits_of bytes ++ x) word in
    ap₂ (λ x y. x ++ y) whole waiting ∙
    append_assoc (bits_of bytes) (digits 32 (all / 2 ^ n)) (digits n all) ∙
    ap (λ x. bits_of bytes ++ x) (sym parts ∙ joint) ∙
    sym (append_assoc (bits_of bytes) (digits w r) (digits k v))

-- a one and zeros to the byte, as one field
pub trail_bits : (bytes : List ℕ) (r w : ℕ) →
    digits (8 - w % 8) (1 * 2 ^ (8 - w % 8 - 1) % 4294967296) ≡
    padding_of (length (bits_of bytes ++ digits w r))
trail_bits bytes r w =
    let m : ℕ = 7 - w % 8 in
    let width : 8 - w % 8 ≡ suc m = omega arith in
    let place : 8 - w % 8 - 1 ≡ m = omega arith in
    let value : (1 * 2 ^ m) % 2 ^ 32 ≡ 2 ^ m = one_shl m 32 (omega arith) in
    let all : ℕ = length (bits_of bytes ++ digits w r) in
    let counted : all ≡ 8 * length bytes + w =
    omega (
      arith,
      length-append (bits_of bytes) (digits w r),
      length-bits_of bytes,
      length-digits w r,
    ) in
    let padding : padding_of all ≡ digits (suc m) (2 ^ m) =
    padding_of-eq all m (omega arith) (omega (arith, counted)) in
    rw (place, width, value) (sym padding)

-- one byte of the bits that wait
pub flush_byte : (bytes : List ℕ) (r w : ℕ) → 8 ≤ w →
    bits_of (bytes ++ bit_and (r / 2 ^ (w - 8)) 255 ∷ []) ++ digits (w - 8) r ≡
    bits_of bytes ++ digits w r
flush_byte bytes r w h =
    let n : ℕ = w - 8 in
    let masked : bit_and (r / 2 ^ n) 255 ≡ r / 2 ^ n % 2 ^ 8 = and_mask (r / 2 ^ n) 8 in
    let byte : bits_of (bit_and (r / 2 ^ n) 255 ∷ []) ≡ digits 8 (r / 2 ^ n) =
    append-nil (digits 8 (bit_and (r / 2 ^ n) 255)) ∙ ap (λ b. digits 8 b) masked ∙
    digits-mod 8 8 (r / 2 ^ n) (omega arith) in
    let split : digits (8 + n) r ≡ digits 8 (r / 2 ^ n) ++ digits n r = digits-add 8 n r in
    let count : 8 + n ≡ w = omega arith in
    let parts : digits w r ≡ digits 8 (r / 2 ^ n) ++ digits n r =
    ap (λ k. digits k r) (sym count) ∙ split in
    ap (λ x. x ++ digits n r) (bits_of-append bytes (bit_and (r / 2 ^ n) 255 ∷ []) ∙
    ap (λ x. bits_of bytes ++ x) byte) ∙
    append_assoc (bits_of bytes) (digits 8 (r / 2 ^ n)) (digits n r) ∙
    ap (λ x. bits_of bytes ++ x) (sym parts)

pub low_byte : (n : ℕ) → bit_and n 255 < 256
low_byte n = let masked : bit_and n 255 ≡ n % 2 ^ 8 = and_mask n 8 in omega (arith, masked)

-- whole bytes leave no bit that waits
pub flushed : (bytes : List ℕ) (r w : ℕ) (bits : List ℕ) → w < 8 →
    bits_of bytes ++ digits w r ≡ bits → length bits % 8 ≡ 0 → bits_of bytes ≡ bits
flushed bytes r zero bits h e whole = sym (append-nil (bits_of bytes)) ∙ e
flushed bytes r (suc w) bits h e whole =
    absurd (omega (
      arith,
      ap length e,
      length-append (bits_of bytes) (digits (suc w) r),
      length-bits_of bytes,
      length-digits (suc w) r,
    ))
