-- The payload of a slice ends in a byte other than 0 (7.4.2).
use Rattle.std.proofs.Common.{◌≡◌, ℕ, ◌+◌, ◌-◌, ◌/◌, ◌%◌, ◌^◌, List, [], ◌∷◌, ◌++◌, length, sym, ap, ◌∙◌, arith, append_assoc, length-append}
use Rattle.hv_tables.specs.declared.bins.SliceKind.{SliceKind}
use Rattle.hv_tables.specs.Bins.{Bin}
use Rattle.hv_stream_model.specs.Bits.{digits, bytes_of}
use Rattle.hv_stream_model.specs.BitLaws.{missing}
use Rattle.hv_stream_model.specs.Fields.{bits_of_fields, aligned}
use Rattle.hv_stream_model.specs.Units.{last_of}
use Rattle.hv_stream_model.specs.Headers.{used_count}
use Rattle.hv_stream_model.proofs.ZeroLemmas.{zeros}
use Rattle.hv_stream_model.proofs.DigitLemmas.{digits-add}
use Rattle.hv_stream_model.proofs.FilledBitLemmas.{bytes_of-zeros}
use Rattle.hv_stream_model.proofs.FieldLemmas.{last_of-aligned}
use Rattle.hv_entropy_model.specs.Contexts.{first_variables}
use Rattle.hv_entropy_model.specs.CodeWord.{Interval, first_interval, reach, odd_from, word}
use Rattle.hv_unit_model.specs.Bins.{slice_bins}
use Rattle.hv_slice_model.specs.Slices.{header_fields, payload_of_slice}
use Rattle.hv_slice_model.specs.SliceLaws.{SlicesEnd}

-- ---- the code word ends in a one

pub record EndsInOne (bits : List ℕ) : Type 0 where
  pub front : List ℕ
  pub whole : bits ≡ front ++ 1 ∷ []

odd_ends : (n v : ℕ) → EndsInOne (digits (n + 9) (odd_from v))
odd_ends n v =
    let split : n + 9 ≡ (n + 8) + 1 = omega arith in
    let bit : odd_from v / 2 ^ 0 % 2 ≡ 1 = omega arith in
    let parts : digits ((n + 8) + 1) (odd_from v) ≡
    digits (n + 8) (odd_from v / 2 ^ 1) ++ digits 1 (odd_from v) =
    digits-add (n + 8) 1 (odd_from v) in
    record {
      front = digits (n + 8) (odd_from v / 2 ^ 1);
      whole =
          ap (λ k. digits k (odd_from v)) split ∙ parts ∙
          ap (λ (d : ℕ). digits (n + 8) (odd_from v / 2 ^ 1) ++ d ∷ []) bit;
    }

pub word_ends : (kind : SliceKind) (qp : ℕ) (list : List Bin) → EndsInOne (word kind qp list)
word_ends kind qp list =
    let i : Interval = reach (first_interval (first_variables kind qp)) list in
    odd_ends i.n (i.low + i.range - 2)

-- ---- so the payload ends in another byte than 0

-- zeros behind a one fill its byte as an alignment does
filled_one : (bits : List ℕ) → bytes_of (bits ++ 1 ∷ []) ≡ bytes_of (aligned bits)
filled_one bits =
    let code : List ℕ = bits ++ 1 ∷ [] in
    let long : length code ≡ length bits + 1 = length-append bits (1 ∷ []) in
    sym (bytes_of-zeros code) ∙
    ap (λ k. bytes_of (code ++ zeros (missing k))) long ∙
    ap bytes_of (append_assoc bits (1 ∷ []) (zeros (missing (length bits + 1))))

pub slices_end : SlicesEnd
slices_end header places units none =
    let list : List Bin =
    slice_bins header.slice_type (used_count header.references) places units in
    let w = word_ends header.slice_type header.qp list in
    let fields : List ℕ = aligned (bits_of_fields (header_fields header)) in
    let parts : fields ++ word header.slice_type header.qp list ≡ (fields ++ w.front) ++ 1 ∷ [] =
    ap (λ c. fields ++ c) w.whole ∙ sym (append_assoc fields w.front (1 ∷ [])) in
    let bytes : payload_of_slice header places units ≡ bytes_of (aligned (fields ++ w.front)) =
    ap bytes_of parts ∙ filled_one (fields ++ w.front) in
    last_of-aligned (fields ++ w.front) (ap last_of (sym bytes) ∙ none)
