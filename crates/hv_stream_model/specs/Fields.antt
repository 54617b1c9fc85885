-- Fields of headers and the descriptors that code them (7.2, 9.2).
use Rattle.std.specs.Prelude.{ℕ, zero, suc, ◌+◌, ◌-◌, ◌*◌, ◌/◌, ◌%◌, ◌^◌, cond, nat_eq, nat_lt, nat_le, ◌&&◌, List, [], ◌∷◌, ◌++◌, length, take, drop, replicate, Option, Some, None, ℤ, pos, negsuc, neg_ℤ, ◌<◌}
use Rattle.hv_tables.specs.Bins.{Answered}
use Rattle.hv_stream_model.specs.Bits.{digits, number_of}
use Rattle.hv_stream_model.specs.Scripts.{Script, run}

-- u(n), an unsigned number of n bits; ue(v), an unsigned number in Exp-Golomb code
pub data Descriptor : Type 0 where
  U : ℕ → Descriptor
  Ue : Descriptor

-- a syntax element's descriptor with its value
abbrev pub Field : Type 0
Field = Answered Descriptor ℕ

abbrev pub u : ℕ → ℕ → Field
u n value = record { question = U n; value = value }

abbrev pub ue : ℕ → Field
ue value = record { question = Ue; value = value }

-- codeNum of a signed number (9.2.2)
abbrev pub code_num : ℤ → ℕ
code_num (pos k) = 2 * k - 1
code_num (negsuc k) = 2 * k + 2

-- the signed number of a codeNum
abbrev pub signed_of : ℕ → ℤ
signed_of k = cond (nat_eq (k % 2) 0) (neg_ℤ (pos (k / 2))) (pos (k / 2 + 1))

-- se(v): a signed number in Exp-Golomb code
abbrev pub se : ℤ → Field
se value = ue (code_num value)

-- ---- the bits of a field

-- the greatest k for which 2^k is at most n, of numbers n from 1 up to 2^64
abbrev pub halvings : ℕ → ℕ → ℕ
halvings zero n = 0
halvings (suc fuel) n = cond (nat_lt n 2) 0 (suc (halvings fuel (n / 2)))

unfoldable pub log2_of : ℕ → ℕ
log2_of n = halvings 64 n

-- as many zeros as v + 1 has digits less one, and then those digits (9.2)
abbrev pub exp_golomb : ℕ → List ℕ
exp_golomb v = replicate (log2_of (v + 1)) 0 ++ digits (log2_of (v + 1) + 1) (v + 1)

abbrev pub code_of : Descriptor → ℕ → List ℕ
code_of (U n) value = digits n value
code_of Ue value = exp_golomb value

abbrev pub field_bits : Field → List ℕ
field_bits field = code_of field.question field.value

abbrev pub bits_of_fields : List Field → List ℕ
bits_of_fields [] = []
bits_of_fields (field ∷ fields) = field_bits field ++ bits_of_fields fields

-- a code has at most so many zeros in front
abbrev pub most_zeros : ℕ
most_zeros = 32

-- the descriptor can code the value
abbrev pub Codes : Descriptor → ℕ → Type 0
Codes (U n) value = value < 2 ^ n
Codes Ue value = value < 2 ^ (most_zeros + 1) - 1

abbrev pub AllCodable : List Field → Type 0
AllCodable [] = Unit {0}
AllCodable (field ∷ fields) = Codes field.question field.value × AllCodable fields

-- ---- reading fields

abbrev pub leading_zeros : List ℕ → ℕ
leading_zeros [] = 0
leading_zeros (bit ∷ bits) = cond (nat_eq bit 0) (suc (leading_zeros bits)) 0

-- the value at the front of the bits, and those behind it; none where the bits end, or where more
-- zeros come first than a code may have
abbrev pub read_field : List ℕ → Descriptor → Option (ℕ × List ℕ)
read_field bits (U n) =
    cond (nat_le n (length bits)) (Some (number_of (take n bits), drop n bits)) None
read_field bits Ue =
    let k = leading_zeros bits in
    cond (nat_le k most_zeros && nat_le (2 * k + 1) (length bits))
    (Some (number_of (take (k + 1) (drop k bits)) - 1, drop (2 * k + 1) bits))
    None

-- the syntax of a header, as a script over its fields
abbrev pub HeaderScript : Type 0 → Type 0
HeaderScript A = Script Descriptor ℕ A

abbrev pub read_header : {A : Type 0} → HeaderScript A → List ℕ → Option (A × List ℕ)
read_header script bits = run Descriptor ℕ (List ℕ) read_field script bits

-- ---- rbsp_trailing_bits (7.3.2.11) and byte_alignment (7.3.2.12): a one, and zeros to the byte

abbrev pub padding_of : ℕ → List ℕ
padding_of length_so_far = 1 ∷ replicate ((8 - (length_so_far + 1) % 8) % 8) 0

abbrev pub aligned : List ℕ → List ℕ
aligned bits = bits ++ padding_of (length bits)
