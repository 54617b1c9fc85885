-- What is read of a slice is what it was made with.
use Rattle.std.proofs.Common.{◌≡◌, ◌≢◌, ℕ, ◌+◌, ◌-◌, ◌%◌, ◌<◌, ◌≤◌, true, false, List, [], ◌++◌, length, refl, sym, ap, ◌∙◌, subst, arith, append_assoc, length-append, IsSomeAnd, ne_eqb}
use Rattle.std.specs.Prelude.{nat_eq, Option, Some, None, option_and_then, option_map}
use Rattle.hv_tables.specs.declared.bins.SliceKind.{SliceKind}
use Rattle.hv_tables.specs.Bins.{Bin}
use Rattle.hv_stream_model.specs.Bits.{bits_of, bytes_of}
use Rattle.hv_stream_model.specs.BitLaws.{AreBits}
use Rattle.hv_stream_model.specs.Scripts.{Reads}
use Rattle.hv_entropy_model.specs.Contexts.{first_variables}
use Rattle.hv_entropy_model.specs.CodeWord.{Interval, first_interval, reach, odd_from, word}
use Rattle.hv_stream_model.specs.Fields.{Field, AllCodable, HeaderScript, bits_of_fields, read_header, padding_of, aligned}
use Rattle.hv_stream_model.specs.Units.{NalUnit, TRAIL_R}
use Rattle.hv_stream_model.specs.Headers.{Size, SliceHeader, used_count, idr_slice, slice, read_slice}
use Rattle.hv_stream_model.specs.HeaderLaws.{OtherSlicesAreRead, OtherSlicesAreCodable}
use Rattle.hv_entropy_model.specs.Oracle.{Oracle, begin, read, bits_left}
use Rattle.hv_tree_model.specs.Trees.{CodingTreeUnit}
use Rattle.hv_tree_model.specs.Sites.{Site}
use Rattle.hv_tree_model.specs.Validity.{AreValid}
use Rattle.hv_unit_model.specs.Bins.{slice_bins}
use Rattle.hv_unit_model.specs.BlockSyntax.{slice_segment_data}
use Rattle.hv_slice_model.specs.Slices.{idr_header, nal_unit_type_of, header_fields, word_behind, payload_of_slice, unit_of_slice}
use Rattle.hv_model.specs.Parsing.{CodedPicture, behind_alignment, is_slice_end, if_ended, data_behind, sites_of, picture_behind, picture_with, read_idr_header, picture_of_unit}
use Rattle.hv_stream_model.specs.BitLaws.{missing}
use Rattle.hv_model.specs.PayloadLaws.{SliceDataIsRead, of_idr, of_other, SlicesAreRead}
use Rattle.hv_stream_model.proofs.ZeroLemmas.{zeros, length-zeros}
use Rattle.hv_stream_model.proofs.BitLemmas.{AreBits-digits, AreBits-append}
use Rattle.hv_stream_model.proofs.ScriptLemmas.{reads_map}
use Rattle.hv_entropy_model.proofs.OracleLemmas.{script_reads_code_word}
use Rattle.hv_stream_model.proofs.HeaderLemmas.{reads_idr_slice, codable_idr_slice}
use Rattle.hv_unit_model.proofs.UnitLemmas.{reads_slice}
use Rattle.hv_slice_model.proofs.SliceDataLemmas.{slice_ends}
use Rattle.hv_slice_model.proofs.SliceEndLemmas.{word_ends}
use Rattle.hv_stream_model.proofs.FilledBitLemmas.{bits_of-bytes_of-zeros, AreBits-fields}
use Rattle.hv_model.proofs.PayloadLemmas.{AreBits-aligned, alignment-back, slice_end}
use Rattle.hv_stream_model.proofs.FieldLemmas.{length-aligned, fields_read_back}

-- ---- the code word

pub AreBits-word : (kind : SliceKind) (qp : ℕ) (list : List Bin) → AreBits (word kind qp list)
AreBits-word kind qp list =
    let i : Interval = reach (first_interval (first_variables kind qp)) list in
    AreBits-digits (i.n + 9) (odd_from (i.low + i.range - 2))

-- ---- slice data

ended_units : (bits rest : List ℕ) (units : List CodingTreeUnit)
    (r : Option (List CodingTreeUnit × Oracle)) →
    is_slice_end bits rest ≡ true →
    IsSomeAnd r (λ x. (x.0 ≡ units) × (bits_left x.1 ≡ rest)) → if_ended bits r ≡ Some units
ended_units bits rest units None e h = absurd h
ended_units bits rest units (Some r) e h = rw (h.0, h.1, e) refl

begun_units : (kind : SliceKind) (references : ℕ) (places : List Site) (bits rest : List ℕ)
    (units : List CodingTreeUnit) (o : Option Oracle) →
    is_slice_end bits rest ≡ true →
    IsSomeAnd o (λ first. IsSomeAnd (read (slice_segment_data kind references places) first)
    (λ x. (x.0 ≡ units) × (bits_left x.1 ≡ rest))) →
    if_ended bits
    (option_and_then (λ oracle. read (slice_segment_data kind references places) oracle) o) ≡
    Some units
begun_units kind references places bits rest units None e h = absurd h
begun_units kind references places bits rest units (Some first) e h =
    ended_units bits rest units (read (slice_segment_data kind references places) first) e h

pub slice_data-back : SliceDataIsRead
slice_data-back kind references qp places units n there valid few =
    let list : List Bin = slice_bins kind references places units in
    let code : List ℕ = word kind qp list in
    let w = word_ends kind qp list in
    let ends : is_slice_end (code ++ zeros n) (zeros n) ≡ true =
    subst (λ c. is_slice_end (c ++ zeros n) (zeros n) ≡ true) (sym w.whole)
    (slice_end w.front n few) in
    begun_units kind references places (code ++ zeros n) (zeros n) units
    (begin (code ++ zeros n) kind qp) ends
    (script_reads_code_word (List CodingTreeUnit) kind qp
    (slice_segment_data kind references places) list units
    (zeros n) (reads_slice kind references places units valid)
    (slice_ends kind references places units there valid))

-- ---- a slice

-- the bits of a payload with these fields and this code word, and zeros to the byte
slice_bits : (fields : List Field) (code : List ℕ) → AreBits code →
    bits_of (bytes_of (aligned (bits_of_fields fields) ++ code)) ≡
    aligned (bits_of_fields fields) ++ code ++
    zeros (missing (length (aligned (bits_of_fields fields) ++ code)))
slice_bits fields code bits =
    bits_of-bytes_of-zeros (aligned (bits_of_fields fields) ++ code)
    (AreBits-append (aligned (bits_of_fields fields)) code
    (AreBits-aligned (bits_of_fields fields) (AreBits-fields fields)) bits)

regroup : (a b c d : List ℕ) → (a ++ b) ++ c ++ d ≡ a ++ (b ++ (c ++ d))
regroup a b c d = simp append_assoc

behind_header : (size : Size) (header : SliceHeader) (n before : ℕ)
    (units : List CodingTreeUnit) → sites_of size ≢ [] →
    AreValid header.slice_type (used_count header.references) (sites_of size) units → n < 8 →
    length (word_behind header (sites_of size) units ++ zeros n) % 8 ≡ 0 →
    picture_behind size
    (Some (header, padding_of before ++ (word_behind header (sites_of size) units ++ zeros n))) ≡
    Some (record { header = header; units = units })
behind_header size header n before units there valid few whole =
    let places : List Site = sites_of size in
    let bits : List ℕ = word_behind header places units ++ zeros n in
    let made : List CodingTreeUnit → CodedPicture = λ u. record { header = header; units = u } in
    let behind : behind_alignment (padding_of before ++ bits) ≡ Some bits =
    alignment-back before bits whole in
    let value : data_behind header places bits ≡ Some units =
    slice_data-back header.slice_type (used_count header.references) header.qp places units n there
    valid few in
    ap (λ o. option_map made (option_and_then (data_behind header places) o)) behind ∙
    ap (option_map made) value

-- with a script that reads these fields as the header
pub picture_back : (script : HeaderScript SliceHeader) (size : Size) (header : SliceHeader)
    (fields : List Field) (units : List CodingTreeUnit) (nal : NalUnit) →
    Reads script fields header → AllCodable fields → sites_of size ≢ [] →
    AreValid header.slice_type (used_count header.references) (sites_of size) units →
    nal.payload ≡
    bytes_of (aligned (bits_of_fields fields) ++ word_behind header (sites_of size) units) →
    picture_with script size nal ≡ Some (record { header = header; units = units })
picture_back script size header fields units nal reads codable there valid given =
    let bits : List ℕ = bits_of_fields fields in
    let pad : List ℕ = padding_of (length bits) in
    let list : List Bin =
    slice_bins header.slice_type (used_count header.references) (sites_of size) units in
    let code : List ℕ = word header.slice_type header.qp list in
    let n : ℕ = missing (length (aligned bits ++ code)) in
    let rest : List ℕ = pad ++ (code ++ zeros n) in
    let all : bits_of nal.payload ≡ bits ++ rest =
    ap bits_of given ∙ slice_bits fields code (AreBits-word header.slice_type header.qp list) ∙
    regroup bits pad code (zeros n) in
    let back : read_header script (bits ++ rest) ≡ Some (header, rest) =
    fields_read_back SliceHeader script fields header rest codable reads in
    let whole : length (code ++ zeros n) % 8 ≡ 0 =
    omega (
      arith,
      length-append code (zeros n),
      length-zeros n,
      length-append (aligned bits) code,
      length-aligned bits,
    ) in
    ap (λ b. picture_behind size (read_header script b)) all ∙
    ap (picture_behind size) back ∙
    behind_header size header n (length bits) units there valid (omega arith) whole

pub reads_idr : (qp : ℕ) → qp ≤ 51 → Reads read_idr_header (idr_slice qp) (idr_header qp)
reads_idr qp small = reads_map idr_header (reads_idr_slice qp small)

-- a header of another picture isn't that of an IDR picture
other_fields : (header : SliceHeader) → nat_eq header.slice_pic_order_cnt_lsb 0 ≡ false →
    header_fields header ≡ slice header
other_fields header e = rw e refl

-- a unit of the type of other pictures
other_unit : (levels : ℕ) (size : Size) (nal : NalUnit) →
    nal.nal_unit_type ≡ TRAIL_R → nal.nuh_layer_id ≡ 0 → nal.TemporalId ≡ 0 →
    picture_of_unit levels size nal ≡ picture_with (read_slice levels) size nal
other_unit levels size nal kind layer temporal = rw (kind, layer, temporal) refl

other_type : (header : SliceHeader) → nat_eq header.slice_pic_order_cnt_lsb 0 ≡ false →
    nal_unit_type_of header ≡ TRAIL_R
other_type header e = rw e refl

-- by what headers of other pictures are read as
module _ (reads_other : OtherSlicesAreRead) (codable_other : OtherSlicesAreCodable) where
  pub slices_back : SlicesAreRead
  slices_back levels size header units few there (of_idr qp small) valid =
      picture_back read_idr_header size (idr_header qp) (idr_slice qp) units
      (unit_of_slice (idr_header qp) (sites_of size) units) (reads_idr qp small)
      (codable_idr_slice qp small) there valid refl
  slices_back levels size header units few there (of_other _ allowed) valid =
      let places : List Site = sites_of size in
      let other : nat_eq header.slice_pic_order_cnt_lsb 0 ≡ false =
      ne_eqb header.slice_pic_order_cnt_lsb 0 (λ e. omega (arith, e, allowed.count_least)) in
      let payload : payload_of_slice header places units ≡
      bytes_of (aligned (bits_of_fields (slice header)) ++ word_behind header places units) =
      ap (λ f. bytes_of (aligned (bits_of_fields f) ++ word_behind header places units))
      (other_fields header other) in
      let nal : NalUnit = unit_of_slice header places units in
      other_unit levels size nal (other_type header other) refl refl ∙
      picture_back (read_slice levels) size header (slice header) units nal
      (reads_other levels header allowed) (codable_other levels header few allowed) there valid
      payload
