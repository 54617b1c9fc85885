-- What decoding refuses and accepts of the eighty bytes of a grey picture, computed by the
-- definitions: what is refused is so by its syntax alone.
use Rattle.std.proofs.Common.{◌≡◌, ◌≢◌, ℕ, zero, suc, ◌+◌, ◌-◌, ◌/◌, ◌%◌, ◌^◌, ◌<◌, ◌≤◌, Bool, true, false, cond, List, [], ◌∷◌, ◌++◌, take, drop, refl, sym, ap, ◌∙◌, subst, ◌⊎◌, inl, inr, arith}
use Rattle.std.specs.Prelude.{nat_eq, replicate, Option, Some, None, option_and_then}
use Rattle.std.specs.List.{list_all}
use Rattle.std.proofs.lemmas.Bool.{and_parts, cases_eq, cases_lt}
use Rattle.hv_stream_model.specs.Bits.{first_bytes}
use Rattle.hv_entropy_model.specs.Contexts.{lps_width, next_variable, first_variables}
use Rattle.hv_entropy_model.specs.CodeWord.{shift_of}
use Rattle.hv_stream_model.specs.Fields.{log2_of}
use Rattle.hv_lemmas.specs.Lists.{tabulate}
use Rattle.hv_residual_model.specs.Binarization.{truncated_unary, exp_golomb, coeff_abs_level_remaining}
use Rattle.hv_residual_model.specs.ScanOrder.{scan_order, block_position, block_number}
use Rattle.hv_residual_model.specs.ResidualSyntax.{last_sig_coeff, sig_coeff_flags, greater1_flags, levels_of_flags, positions, sub_blocks_below, residual_coding}
use Rattle.hv_tree_model.specs.Trees.{no_levels, no_units}
use Rattle.hv_tree_model.specs.Sites.{sites, column_of, row_of, address_of, crosses, is_outside}
use Rattle.hv_tree_model.specs.EarlierUnits.{look_picture}
use Rattle.hv_tree_model.specs.MostProbableModes.{candModeList, mode_of_remaining}
use Rattle.hv_unit_model.specs.BlockSyntax.{sao, luma_mode, block_levels, transform_unit, quarters, transform_tree, intra_unit, coding_unit, coding_quadtree}
use Rattle.hv_stream_model.specs.Units.{NalUnit, IsUnit, IsByteStream, end, more, strip, last_of, units_of}
use Rattle.hv_types.specs.Video.{crop}
use Rattle.hv_recon_model.specs.BlankLaws.{grey}
use Rattle.hv_deblock_model.specs.FlatPictures.{FlatPicturesAreShown}
use Rattle.hv_model.specs.Parsing.{parsed_units, parsed_of}
use Rattle.hv_model.specs.Decoding.{shown_of, decode_of}
use Rattle.hv_model.proofs.WorkedStreams.{eighty_bytes, eighty_bytes_decoded}
use Rattle.hv_stream_model.proofs.UnitLemmas.{streams_read}

abbrev is_refused : {A : Type 0} → Option A → Bool
is_refused None = true
is_refused (Some a) = false

refused : {A : Type 0} (o : Option A) → is_refused o ≡ true → o ≡ None
refused None e = refl
refused (Some a) e = absurd cc

-- what has no syntax shows nothing
shows_nothing : (bytes : List ℕ) → is_refused (parsed_of bytes) ≡ true → decode_of bytes ≡ None
shows_nothing bytes e = ap (option_and_then shown_of) (refused (parsed_of bytes) e)

abbrev numbers : ℕ → ℕ → List ℕ
numbers zero from = []
numbers (suc count) from = from ∷ numbers count (from + 1)

passes_case : (p : ℕ → Bool) (count from i : ℕ) → p from ≡ true → (from ≡ i) ⊎ (from ≡ i → ⊥) →
    ((from ≡ i → ⊥) → p i ≡ true) → p i ≡ true
passes_case p count from i e (inl same) rest = subst (λ n. p n ≡ true) same e
passes_case p count from i e (inr apart) rest = rest apart

-- a test that each number of a range passes
passes : (p : ℕ → Bool) (count from i : ℕ) → list_all p (numbers count from) ≡ true → from ≤ i →
    i < from + count →
    p i ≡ true
passes p zero from i e low high = absurd (omega arith)
passes p (suc count) from i e low high =
    let both = and_parts (p from) (list_all p (numbers count (from + 1))) e in
    passes_case p count from i both.0 (cases_eq from i)
    (λ apart. passes p count (from + 1) i both.1 (omega arith) (omega arith))

-- ---- one bit turned

abbrev turn_bit : ℕ → ℕ → ℕ
turn_bit k byte = cond (nat_eq (byte / 2 ^ k % 2) 0) (byte + 2 ^ k) (byte - 2 ^ k)

-- the bit k of the byte n turned
abbrev turned_in : ℕ → ℕ → List ℕ → List ℕ
turned_in k n [] = []
turned_in k zero (byte ∷ bytes) = turn_bit k byte ∷ bytes
turned_in k (suc n) (byte ∷ bytes) = byte ∷ turned_in k n bytes

-- the i-th bit turned, where each byte's highest bit is its first
abbrev turned : ℕ → List ℕ → List ℕ
turned i bytes = turned_in (7 - i % 8) (i / 8) bytes

abbrev turned_refused : ℕ → Bool
turned_refused i = is_refused (parsed_of (turned i eighty_bytes))

abbrev all_refused : ℕ → ℕ → Bool
all_refused from count = list_all turned_refused (numbers count from)

-- each bit of the start code, the unit header and the video parameter set
video_parameter_set : all_refused 0 216 ≡ true
unfolding first_bytes lps_width next_variable first_variables shift_of log2_of sites
video_parameter_set = refl

-- and of the sequence parameter set
sequence_parameter_set : all_refused 216 248 ≡ true
unfolding first_bytes lps_width next_variable first_variables shift_of log2_of sites sao coding_quadtree coding_unit intra_unit luma_mode candModeList mode_of_remaining truncated_unary transform_tree quarters transform_unit block_levels no_units no_levels look_picture column_of row_of address_of crosses is_outside residual_coding last_sig_coeff sig_coeff_flags greater1_flags levels_of_flags positions sub_blocks_below coeff_abs_level_remaining exp_golomb scan_order block_position block_number tabulate
sequence_parameter_set = refl

-- and of the picture parameter set
picture_parameter_set : all_refused 464 80 ≡ true
unfolding first_bytes lps_width next_variable first_variables shift_of log2_of sites
picture_parameter_set = refl

-- the start code of the slice, and the first bit of its unit header
slice_start_code : all_refused 544 33 ≡ true
unfolding first_bytes lps_width next_variable first_variables shift_of log2_of sites
slice_start_code = refl

-- its next bit makes the slice a unit of a type that is passed over
passed_over : decode_of (turned 577 eighty_bytes) ≡ Some []
unfolding first_bytes lps_width next_variable first_variables shift_of log2_of sites
passed_over = refl

-- the other bits of the unit header, and the slice header with its byte_alignment
slice_header : all_refused 578 30 ≡ true
unfolding first_bytes lps_width next_variable first_variables shift_of log2_of sites
slice_header = refl

-- the code word, and the zeros behind it
code_word : all_refused 608 32 ≡ true
unfolding first_bytes lps_width next_variable first_variables shift_of log2_of sites sao coding_quadtree coding_unit intra_unit luma_mode candModeList mode_of_remaining truncated_unary transform_tree quarters transform_unit block_levels no_units no_levels look_picture column_of row_of address_of crosses is_outside residual_coding last_sig_coeff sig_coeff_flags greater1_flags levels_of_flags positions sub_blocks_below coeff_abs_level_remaining exp_golomb scan_order block_position block_number tabulate
code_word = refl

-- each bit but that one
turned_bit : (i : ℕ) → i < 640 → i ≢ 577 → turned_refused i ≡ true
turned_bit i h other =
    elim (cases_lt i 216) as (λ _. turned_refused i ≡ true) [
      | inl here ↦ passes turned_refused 216 0 i video_parameter_set (omega arith) (omega arith)
      | inr later ↦ elim (cases_lt i 464) as (λ _. turned_refused i ≡ true) [
        | inl here ↦
            passes turned_refused 248 216 i sequence_parameter_set (omega arith) (omega arith)
        | inr later ↦ elim (cases_lt i 544) as (λ _. turned_refused i ≡ true) [
          | inl here ↦
              passes turned_refused 80 464 i picture_parameter_set (omega arith) (omega arith)
          | inr later ↦ elim (cases_lt i 577) as (λ _. turned_refused i ≡ true) [
            | inl here ↦ passes turned_refused 33 544 i slice_start_code (omega arith) (omega arith)
            | inr later ↦ elim (cases_lt i 608) as (λ _. turned_refused i ≡ true) [
              | inl here ↦
                  passes turned_refused 30 578 i slice_header (omega (arith, other)) (omega arith)
              | inr later ↦ passes turned_refused 32 608 i code_word (omega arith) (omega arith)
            ]
          ]
        ]
      ]
    ]

turned_bit_refused : (i : ℕ) → i < 640 → i ≢ 577 → decode_of (turned i eighty_bytes) ≡ None
turned_bit_refused i h other = shows_nothing (turned i eighty_bytes) (turned_bit i h other)

-- ---- other bytes

last_byte_missing : decode_of (take 79 eighty_bytes) ≡ None
unfolding first_bytes lps_width next_variable first_variables shift_of log2_of sites sao coding_quadtree coding_unit intra_unit luma_mode candModeList mode_of_remaining truncated_unary transform_tree quarters transform_unit block_levels no_units no_levels look_picture column_of row_of address_of crosses is_outside residual_coding last_sig_coeff sig_coeff_flags greater1_flags levels_of_flags positions sub_blocks_below coeff_abs_level_remaining exp_golomb scan_order block_position block_number tabulate
last_byte_missing = refl

bytes_behind : list_all (λ byte. is_refused (parsed_of (eighty_bytes ++ byte ∷ [])))
    (numbers 255 1) ≡ true
unfolding first_bytes lps_width next_variable first_variables shift_of log2_of sites sao coding_quadtree coding_unit intra_unit luma_mode candModeList mode_of_remaining truncated_unary transform_tree quarters transform_unit block_levels no_units no_levels look_picture column_of row_of address_of crosses is_outside residual_coding last_sig_coeff sig_coeff_flags greater1_flags levels_of_flags positions sub_blocks_below coeff_abs_level_remaining exp_golomb scan_order block_position block_number tabulate
bytes_behind = refl

-- a byte other than 0 behind them
byte_behind_refused : (byte : ℕ) → 0 < byte → byte < 256 →
    decode_of (eighty_bytes ++ byte ∷ []) ≡ None
byte_behind_refused byte some small =
    shows_nothing (eighty_bytes ++ byte ∷ [])
    (passes (λ b. is_refused (parsed_of (eighty_bytes ++ b ∷ []))) 255 1 byte bytes_behind
    (omega arith) (omega arith))

-- ---- the four units

abbrev video : List ℕ
video = take 27 eighty_bytes

abbrev sequence : List ℕ
sequence = take 31 (drop 27 eighty_bytes)

abbrev picture : List ℕ
picture = take 10 (drop 58 eighty_bytes)

abbrev slice : List ℕ
slice = drop 68 eighty_bytes

units_in_order : video ++ sequence ++ picture ++ slice ≡ eighty_bytes
units_in_order = refl

-- the parameter sets alone
no_pictures_in_sets : decode_of (video ++ sequence ++ picture) ≡ Some []
unfolding log2_of
no_pictures_in_sets = refl

-- any two of them exchanged
exchanged_refused :
    list_all (λ bytes. is_refused (parsed_of bytes))
    ((sequence ++ video ++ picture ++ slice) ∷
    (picture ++ sequence ++ video ++ slice) ∷
    (slice ++ sequence ++ picture ++ video) ∷
    (video ++ picture ++ sequence ++ slice) ∷
    (video ++ slice ++ picture ++ sequence) ∷
    (video ++ sequence ++ slice ++ picture) ∷
    []) ≡ true
unfolding first_bytes lps_width next_variable first_variables shift_of log2_of sites sao coding_quadtree coding_unit intra_unit luma_mode candModeList mode_of_remaining truncated_unary transform_tree quarters transform_unit block_levels no_units no_levels look_picture column_of row_of address_of crosses is_outside
exchanged_refused = refl

-- ---- zero bytes

abbrev unit_at : ℕ → List ℕ → NalUnit
unit_at nal_unit_type bytes =
    record {
      nal_unit_type = nal_unit_type;
      nuh_layer_id = 0;
      TemporalId = 0;
      payload = strip (drop 6 bytes);
    }

abbrev four_units : List NalUnit
four_units = unit_at 32 video ∷ unit_at 33 sequence ∷ unit_at 34 picture ∷ unit_at 20 slice ∷ []

is_unit_at : (kind : ℕ) (bytes : List ℕ) → kind < 64 → last_of (strip (drop 6 bytes)) ≢ 0 →
    IsUnit (unit_at kind bytes)
is_unit_at kind bytes h e =
    record { kind = h; layer = omega arith; temporal = omega arith; ends = e }

-- the four units, with any numbers of zero bytes before their start code prefixes, and at the end
abbrev with_zeros : ℕ → ℕ → ℕ → ℕ → ℕ → List ℕ
with_zeros a b c d e =
    replicate a 0 ++ drop 1 video ++
    (replicate b 0 ++ drop 1 sequence ++
    (replicate c 0 ++ drop 1 picture ++ (replicate d 0 ++ drop 1 slice ++ replicate e 0)))

with_zeros_stream : (a b c d e : ℕ) → IsByteStream (with_zeros a b c d e) four_units
with_zeros_stream a b c d e =
    more a (unit_at 32 video) (is_unit_at 32 video (omega arith) (λ h. omega arith))
    (more b (unit_at 33 sequence) (is_unit_at 33 sequence (omega arith) (λ h. omega arith))
    (more c (unit_at 34 picture) (is_unit_at 34 picture (omega arith) (λ h. omega arith))
    (more d (unit_at 20 slice) (is_unit_at 20 slice (omega arith) (λ h. omega arith)) (end e))))

with_one_each : with_zeros 1 1 1 1 0 ≡ eighty_bytes
with_one_each = refl

zero_bytes_accepted : FlatPicturesAreShown → (a b c d e : ℕ) →
    decode_of (with_zeros a b c d e) ≡ Some (crop (grey 64 64) 64 64 ∷ [])
zero_bytes_accepted flat a b c d e =
    let these : units_of (with_zeros a b c d e) ≡ Some four_units =
    streams_read (with_zeros a b c d e) four_units (with_zeros_stream a b c d e) in
    let those : units_of eighty_bytes ≡ Some four_units =
    streams_read eighty_bytes four_units (with_zeros_stream 1 1 1 1 0) in
    ap (λ found. option_and_then shown_of (option_and_then parsed_units found))
    (these ∙ sym those) ∙ eighty_bytes_decoded flat
