-- The bits of bytes that bits make (7.2): zeros to the byte follow them; the bits of joined fields.
use Rattle.std.proofs.Common.{◌≡◌, ℕ, zero, suc, ◌+◌, ◌-◌, ◌/◌, ◌%◌, ◌≤◌, List, [], ◌∷◌, ◌++◌, length, take, drop, refl, sym, ap, ap₂, ◌∙◌, arith, append_assoc, length-append}
use Rattle.std.proofs.lemmas.List.{take-replicate, drop-replicate}
use Rattle.hv_stream_model.specs.Bits.{digits, number_of, bits_of, first_bytes, bytes_of}
use Rattle.hv_stream_model.specs.BitLaws.{AreBits, missing, BitsComeBackFilled}
use Rattle.hv_stream_model.specs.Fields.{Descriptor, U, Ue, Field, code_of, log2_of, field_bits, bits_of_fields}
use Rattle.hv_stream_model.specs.FieldLaws.{JoinedFieldsHaveJoinedBits}
use Rattle.hv_stream_model.proofs.ZeroLemmas.{zeros, length-zeros, zeros_zeros, AreBits-zeros}
use Rattle.hv_stream_model.proofs.BitLemmas.{AreBits-digits, AreBits-append, bits_of-bytes_of}

-- ---- zeros to the byte

take_zeros : (n m : ℕ) (xs : List ℕ) → n ≤ m → take n (xs ++ zeros m) ≡ take n (xs ++ zeros n)
take_zeros zero m xs h = refl
take_zeros (suc n) m [] h =
    take-replicate (suc n) m 0 h ∙ sym (take-replicate (suc n) (suc n) 0 (omega arith))
take_zeros (suc n) m (x ∷ xs) h =
    let here : take n (xs ++ zeros m) ≡ take n (xs ++ zeros n) = take_zeros n m xs (omega arith) in
    let there : take n (xs ++ zeros (suc n)) ≡ take n (xs ++ zeros n) =
    take_zeros n (suc n) xs (omega arith) in
    ap (λ ys. x ∷ ys) (here ∙ sym there)

drop_zeros : (n k : ℕ) (xs : List ℕ) →
    drop n (xs ++ zeros k) ≡ drop n xs ++ zeros (k - (n - length xs))
drop_zeros zero k xs = let all : k - (0 - length xs) ≡ k = omega arith in rw all refl
drop_zeros (suc n) k [] =
    let none : suc n - 0 ≡ suc n = omega arith in
    let bit : ℕ = 0 in
    let dropped : drop (suc n) (zeros k) ≡ zeros (k - suc n) = drop-replicate (suc n) k bit in
    rw none dropped
drop_zeros (suc n) k (x ∷ xs) =
    let same : suc n - suc (length xs) ≡ n - length xs = omega arith in
    rw same (drop_zeros n k xs)

front_zeros : (k : ℕ) (bits : List ℕ) →
    take 8 ((bits ++ zeros k) ++ zeros 8) ≡ take 8 (bits ++ zeros 8)
front_zeros k bits =
    let joined : zeros k ++ zeros 8 ≡ zeros (k + 8) = zeros_zeros k 8 in
    rw (append_assoc bits (zeros k) (zeros 8), joined) (take_zeros 8 (k + 8) bits (omega arith))

first_bytes-zeros : (n k : ℕ) (bits : List ℕ) → first_bytes n (bits ++ zeros k) ≡ first_bytes n bits
unfolding first_bytes
first_bytes-zeros zero k bits = refl
first_bytes-zeros (suc n) k bits =
    let front : number_of (take 8 ((bits ++ zeros k) ++ zeros 8)) ≡
    number_of (take 8 (bits ++ zeros 8)) =
    ap number_of (front_zeros k bits) in
    let left : ℕ = k - (8 - length bits) in
    let behind : first_bytes n (drop 8 (bits ++ zeros k)) ≡ first_bytes n (drop 8 bits) =
    ap (first_bytes n) (drop_zeros 8 k bits) ∙ first_bytes-zeros n left (drop 8 bits) in
    ap₂ (λ x xs. x ∷ xs) front behind

-- the zeros to the byte make no other bytes
pub bytes_of-zeros : (bits : List ℕ) →
    bytes_of (bits ++ zeros (missing (length bits))) ≡ bytes_of bits
bytes_of-zeros bits =
    let n : ℕ = length bits in
    let more : length (bits ++ zeros (missing n)) ≡ n + missing n =
    omega (arith, length-append bits (zeros (missing n)), length-zeros (missing n)) in
    let count : (length (bits ++ zeros (missing n)) + 7) / 8 ≡ (n + 7) / 8 = omega arith in
    rw count (first_bytes-zeros ((n + 7) / 8) (missing n) bits)

-- the bits of the bytes that bits make
pub bits_of-bytes_of-zeros : BitsComeBackFilled
bits_of-bytes_of-zeros bits p =
    let n : ℕ = length bits in
    let all : List ℕ = bits ++ zeros (missing n) in
    let whole : length all % 8 ≡ 0 =
    omega (arith, length-append bits (zeros (missing n)), length-zeros (missing n)) in
    let back : bits_of (bytes_of all) ≡ all =
    bits_of-bytes_of all (AreBits-append bits (zeros (missing n)) p (AreBits-zeros (missing n)))
    whole in
    ap bits_of (sym (bytes_of-zeros bits)) ∙ back

-- ---- fields

pub bits_of_fields-append : JoinedFieldsHaveJoinedBits
bits_of_fields-append [] others = refl
bits_of_fields-append (field ∷ fields) others =
    ap (λ bits. field_bits field ++ bits) (bits_of_fields-append fields others) ∙
    sym (append_assoc (field_bits field) (bits_of_fields fields) (bits_of_fields others))

AreBits-code : (d : Descriptor) (v : ℕ) → AreBits (code_of d v)
AreBits-code (U n) v = AreBits-digits n v
AreBits-code Ue v =
    AreBits-append (zeros (log2_of (v + 1))) (digits (log2_of (v + 1) + 1) (v + 1))
    (AreBits-zeros (log2_of (v + 1))) (AreBits-digits (log2_of (v + 1) + 1) (v + 1))

pub AreBits-fields : (fields : List Field) → AreBits (bits_of_fields fields)
AreBits-fields [] = tt
AreBits-fields (field ∷ fields) =
    AreBits-append (field_bits field) (bits_of_fields fields)
    (AreBits-code field.question field.value) (AreBits-fields fields)
