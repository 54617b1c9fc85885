-- What the plain decoder's steps make of the definitions.
use Rattle.std.proofs.Common.{◌≡◌, ℕ, ◌-◌, ◌*◌, ◌<◌, ◌≤◌, List, length, drop, refl, sym, ap, ◌∙◌, arith, lt-ltb, le-ltb, length-drop}
use Rattle.std.specs.Prelude.{Some, None}
use Rattle.hv_stream_model.specs.Bits.{bits_of}
use Rattle.hv_entropy_model.specs.Contexts.{ContextVariable}
use Rattle.hv_entropy_model.specs.Oracle.{Decoder, read_bits, if_in_range, begin_decoder}
use Rattle.hv_stream_model.proofs.BitLemmas.{length-bits_of}

abbrev decoder_of : List ℕ → ℕ → ℕ → List ContextVariable → Decoder
decoder_of bits range offset variables =
    record { bits = bits; ivlCurrRange = range; ivlOffset = offset; variables = variables }

pub begun_is : (first variables : List ContextVariable) (bits rest : List ℕ) (offset : ℕ) →
    variables ≡ first →
    read_bits 9 variables 510 0 bits ≡
    Some (record { bits = rest; ivlCurrRange = 510; ivlOffset = offset; variables = variables }) →
    offset < 510 →
    Some (record { bits = rest; ivlCurrRange = 510; ivlOffset = offset; variables = variables }) ≡
    begin_decoder first bits
begun_is first variables bits rest offset v e h =
    let d : Decoder = decoder_of rest 510 offset variables in
    let a : if_in_range (Some d) ≡ Some d = rw (lt-ltb offset 510 h) refl in
    sym (ap (λ vs. begin_decoder vs bits) (sym v) ∙ ap if_in_range e ∙ a)

pub not_begun_is : (first : List ContextVariable) (bits rest : List ℕ) (offset : ℕ) →
    read_bits 9 first 510 0 bits ≡
    Some (record { bits = rest; ivlCurrRange = 510; ivlOffset = offset; variables = first }) →
    510 ≤ offset → None ≡ begin_decoder first bits
not_begun_is first bits rest offset e h =
    let d : Decoder = decoder_of rest 510 offset first in
    let a : if_in_range (Some d) ≡ None = rw (le-ltb offset 510 h) refl in
    sym (ap if_in_range e ∙ a)

pub length_left : (bytes : List ℕ) (at : ℕ) →
    8 * length bytes - at ≡ length (drop at (bits_of bytes))
length_left bytes at = omega (arith, length-drop at (bits_of bytes), length-bits_of bytes)
