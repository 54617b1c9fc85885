-- What is read of a payload is what it was made with.
use Rattle.std.proofs.Common.{◌≡◌, ℕ, suc, ◌+◌, ◌-◌, ◌%◌, ◌<◌, true, cond, List, [], ◌∷◌, ◌++◌, length, take, drop, refl, ap, ◌∙◌, arith, length-append, eq-eqb, lt-ltb}
use Rattle.std.specs.Prelude.{nat_eq, nat_lt, Some, None}
use Rattle.std.proofs.lemmas.List.{take_at, drop_at}
use Rattle.hv_stream_model.specs.Bits.{bits_of}
use Rattle.hv_stream_model.specs.BitLaws.{AreBits}
use Rattle.hv_stream_model.specs.Fields.{bits_of_fields, read_header, padding_of, aligned}
use Rattle.hv_stream_model.specs.Units.{same_bytes, last_of}
use Rattle.hv_model.specs.Parsing.{is_trailing, is_slice_end}
use Rattle.hv_model.specs.PayloadLaws.{ParametersAreRead, AlignmentIsRead}
use Rattle.hv_stream_model.proofs.ZeroLemmas.{zeros, length-zeros, AreBits-zeros, all_zero}
use Rattle.hv_stream_model.proofs.FilledBitLemmas.{AreBits-fields}
use Rattle.hv_stream_model.proofs.FieldLemmas.{length-aligned, last_of-append, fields_read_back}
use Rattle.hv_stream_model.proofs.UnitLemmas.{same_bytes_self}
use Rattle.hv_stream_model.proofs.BitLemmas.{AreBits-append, bits_of-bytes_of}

-- ---- trailing bits

-- the zeros of a padding
abbrev pub padding_zeros : ℕ → ℕ
padding_zeros n = (8 - (n + 1) % 8) % 8

pub trailing : (n : ℕ) → is_trailing (padding_of n) ≡ true
trailing n =
    let m : ℕ = padding_zeros n in
    let few : nat_lt (length (zeros m)) 8 ≡ true =
    lt-ltb (length (zeros m)) 8 (omega (arith, length-zeros m)) in
    rw (all_zero m, few) refl

AreBits-padding : (n : ℕ) → AreBits (padding_of n)
AreBits-padding n = (omega arith, AreBits-zeros (padding_zeros n))

pub AreBits-aligned : (bits : List ℕ) → AreBits bits → AreBits (aligned bits)
AreBits-aligned bits p =
    AreBits-append bits (padding_of (length bits)) p (AreBits-padding (length bits))

-- the fields of a parameter set and its trailing bits
pub parameters-back : (A : Type 0) → ParametersAreRead A
parameters-back A script fields value unit r c e =
    let bits : List ℕ = bits_of_fields fields in
    let given : bits_of unit.payload ≡ aligned bits =
    ap bits_of e ∙ bits_of-bytes_of (aligned bits) (AreBits-aligned bits (AreBits-fields fields))
    (length-aligned bits) in
    let back : read_header script (aligned bits) ≡ Some (value, padding_of (length bits)) =
    fields_read_back A script fields value (padding_of (length bits)) c r in
    rw (given, back, trailing (length bits)) refl

-- ---- byte alignment

alignment_at : (m n : ℕ) (rest : List ℕ) → n ≡ suc m →
    cond (same_bytes (take n (1 ∷ zeros m ++ rest)) (1 ∷ zeros (n - 1)))
    (Some (drop n (1 ∷ zeros m ++ rest))) None ≡ Some rest
alignment_at m n rest e =
    let less : suc m - 1 ≡ m = omega arith in
    let front : take m (zeros m ++ rest) ≡ zeros m = take_at (zeros m) rest m (length-zeros m) in
    let behind : drop m (zeros m ++ rest) ≡ rest = drop_at (zeros m) rest m (length-zeros m) in
    rw (e, less, front, behind, same_bytes_self (1 ∷ zeros m)) refl

pub alignment-back : AlignmentIsRead
alignment-back n rest e =
    let m : ℕ = padding_zeros n in
    let count : (length (padding_of n ++ rest) + 7) % 8 + 1 ≡ suc m =
    omega (arith, length-append (padding_of n) rest, length-zeros m) in
    alignment_at m ((length (padding_of n ++ rest) + 7) % 8 + 1) rest count

-- ---- the end of slice data

pub slice_end : (a : List ℕ) (m : ℕ) → m < 8 →
    is_slice_end ((a ++ 1 ∷ []) ++ zeros m) (zeros m) ≡ true
slice_end a m h =
    let code : List ℕ = a ++ 1 ∷ [] in
    let tail : List ℕ = zeros m in
    let long : length (code ++ tail) - length tail ≡ length code =
    omega (arith, length-append code tail) in
    let front : take (length code) (code ++ tail) ≡ code = take_at code tail (length code) refl in
    let last : nat_eq (last_of code) 1 ≡ true = eq-eqb (last_of code) 1 (last_of-append a 1) in
    let few : nat_lt (length tail) 8 ≡ true =
    lt-ltb (length tail) 8 (omega (arith, length-zeros m)) in
    rw (long, front, last, all_zero m, few) refl
