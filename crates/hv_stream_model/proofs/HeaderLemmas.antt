-- What is read of a parameter set (7.3.2) and of an IDR picture's slice header (7.3.6.1) is what
-- its table was made with, and the table's values can be coded.
use Rattle.std.proofs.Common.{◌≡◌, ℕ, ◌+◌, ◌-◌, ◌*◌, ◌/◌, ◌%◌, ◌^◌, ◌<◌, ◌≤◌, Bool, true, false, cond, List, [], ◌∷◌, ◌++◌, refl, sym, ap, ◌∙◌, subst, arith, append_assoc, eq-eqb, ne_eqb, le-leb, lt-ltb}
use Rattle.std.proofs.lemmas.Bool.Decides.{nat_tests}
use Rattle.std.specs.Prelude.{not, nat_eq, nat_le, nat_lt, ◌&&◌, ℤ, pos, negsuc, neg_ℤ, ◌+ℤ◌, ◌-ℤ◌}
use Rattle.std.proofs.Common.{zero, suc, le-ltb}
use Rattle.std.proofs.lemmas.Int.{ints}
use Rattle.std.specs.List.{list_all}
use Rattle.std.proofs.lemmas.Bool.{ltb-true, and_parts}
use Rattle.std.specs.Int.{is_negative}
use Rattle.hv_types.specs.Configuration.{most_levels}
use Rattle.hv_stream_model.specs.Scripts.{Done, ◌>>=◌, Reads, nothing, one}
use Rattle.hv_stream_model.specs.Fields.{Descriptor, U, Ue, Field, most_zeros, Codes, AllCodable, u, ue, se, code_num, signed_of, HeaderScript}
use Rattle.hv_stream_model.specs.Headers.{ordering, vps_start, vps_end, sps_start, sps_depths, sps_end, Size, is_cropped, window, size_fields, pps, idr_start, qp_delta, fixed, free, read_ordering, is_side, read_offsets, read_window, read_size, read_sps, qp_from}
use Rattle.hv_stream_model.specs.HeaderLaws.{SignedComesBack, IsAllowed, SizesAreAllowed, VideoParametersAreRead, SequenceParametersAreRead, PictureParametersAreRead, SliceHeadersAreRead, VideoParametersAreCodable, SequenceParametersAreCodable, PictureParametersAreCodable, SliceHeadersAreCodable}
use Rattle.hv_stream_model.proofs.ScriptLemmas.{reads_then, reads_map, where_true}

-- ---- parts

pub reads_fixed : (fields : List Field) → Reads (fixed fields) fields tt
reads_fixed [] = nothing
reads_fixed (field ∷ fields) = one (rw (eq-eqb field.value field.value refl) (reads_fixed fields))

-- fields that are fixed, and then a script
pub fixed_then : {A : Type 0} {script : HeaderScript A} {rest : List Field} {a : A}
    (fields : List Field) →
    Reads script rest a → Reads (fixed fields >>= λ _. script) (fields ++ rest) a
fixed_then {script} fields r = reads_then (λ _. script) (reads_fixed fields) r

-- one free value, and then a script
free_then : {A : Type 0} {rest : List Field} {a : A} (descriptor : Descriptor) (value : ℕ)
    (script : ℕ → HeaderScript A) →
    Reads (script value) rest a →
    Reads (free descriptor >>= script) (record { question = descriptor; value = value } ∷ rest) a
free_then descriptor value script r = one r

reads_ordering : (levels : ℕ) → levels ≤ most_levels → Reads read_ordering (ordering levels) levels
reads_ordering levels h =
    let same : nat_eq (levels + 1) (levels + 1) ≡ true = eq-eqb (levels + 1) (levels + 1) refl in
    let few : nat_le levels 3 ≡ true = le-leb levels 3 h in
    let both : (nat_eq (levels + 1) (levels + 1) && nat_le levels 3) ≡ true = rw (same, few) refl in
    one (one (one (one (where_true _ both nothing))))

-- ---- parameter sets

pub reads_vps : VideoParametersAreRead
reads_vps levels h =
    let end : Reads (fixed vps_end >>= λ _. Done levels) vps_end levels =
    reads_map (λ _. levels) (reads_fixed vps_end) in
    let middle : Reads (read_ordering >>= λ l. fixed vps_end >>= λ _. Done l)
    (ordering levels ++ vps_end) levels =
    reads_then (λ l. fixed vps_end >>= λ _. Done l) (reads_ordering levels h) end in
    fixed_then vps_start middle

pub reads_pps : PictureParametersAreRead
reads_pps = reads_fixed pps

-- ---- sizes

side_is : (most n : ℕ) → n % 8 ≡ 0 → 8 ≤ n → n ≤ most → is_side most n ≡ true
side_is most n even least small =
    rw (eq-eqb (n % 8) 0 even, le-leb 8 n least, le-leb n most small) refl

-- what the offsets are that a window flag of 0 stands for
uncropped : (right bottom : ℕ) → not (nat_eq (right + bottom) 0) ≡ false →
    (right ≡ 0) × (bottom ≡ 0)
uncropped right bottom e = grind (arith, nat_tests)

cropped : (right bottom : ℕ) → not (nat_eq (right + bottom) 0) ≡ true → 0 < right + bottom
cropped right bottom e = grind (arith, nat_tests)

reads_offsets : (size : Size) → size.conf_win_right_offset ≤ 3 → size.conf_win_bottom_offset ≤ 3 →
    0 < size.conf_win_right_offset + size.conf_win_bottom_offset →
    Reads (read_offsets size.pic_width_in_luma_samples size.pic_height_in_luma_samples)
    (ue 0 ∷ ue size.conf_win_right_offset ∷ ue 0 ∷ ue size.conf_win_bottom_offset ∷ []) size
reads_offsets size right bottom some =
    let r : ℕ = size.conf_win_right_offset in
    let b : ℕ = size.conf_win_bottom_offset in
    let all : (nat_le r 3 && nat_le b 3 && nat_lt 0 (r + b)) ≡ true =
    rw (le-leb r 3 right, le-leb b 3 bottom, lt-ltb 0 (r + b) some) refl in
    one (one (one (one (where_true _ all nothing))))

-- the window of a size, by its flag
window_case : (size : Size) → IsAllowed size → (flag : Bool) → is_cropped size ≡ flag →
    Reads (free (U 1) >>= λ f. read_window size.pic_width_in_luma_samples
    size.pic_height_in_luma_samples f)
    (cond flag
    (u 1 1 ∷ ue 0 ∷ ue size.conf_win_right_offset ∷ ue 0 ∷ ue size.conf_win_bottom_offset ∷ [])
    (u 1 0 ∷ [])) size
window_case size h true e =
    one (reads_offsets size h.right h.bottom
    (cropped size.conf_win_right_offset size.conf_win_bottom_offset e))
window_case size h false e =
    let none = uncropped size.conf_win_right_offset size.conf_win_bottom_offset e in
    let given : Size = record {
      pic_width_in_luma_samples = size.pic_width_in_luma_samples;
      pic_height_in_luma_samples = size.pic_height_in_luma_samples;
      conf_win_right_offset = 0;
      conf_win_bottom_offset = 0;
    } in
    let same : given ≡ size = λ i. record {
      pic_width_in_luma_samples = size.pic_width_in_luma_samples;
      pic_height_in_luma_samples = size.pic_height_in_luma_samples;
      conf_win_right_offset = sym none.0 i;
      conf_win_bottom_offset = sym none.1 i;
    } in
    one (subst (λ s. Reads {Q = Descriptor} {V = ℕ} (Done given) [] s) same nothing)

reads_window : (size : Size) → IsAllowed size →
    Reads (free (U 1) >>= λ flag. read_window size.pic_width_in_luma_samples
    size.pic_height_in_luma_samples flag) (window size) size
reads_window size h = window_case size h (is_cropped size) refl

reads_size : (size : Size) → IsAllowed size → Reads read_size (size_fields size) size
reads_size size h =
    let width : is_side 4096 size.pic_width_in_luma_samples ≡ true =
    side_is _ _ h.width_multiple h.width_least h.width_most in
    let height : is_side 2176 size.pic_height_in_luma_samples ≡ true =
    side_is _ _ h.height_multiple h.height_least h.height_most in
    let both : (is_side 4096 size.pic_width_in_luma_samples &&
    is_side 2176 size.pic_height_in_luma_samples) ≡ true = rw (width, height) refl in
    one (one (where_true _ both (reads_window size h)))

regroup : (a b c d e : List Field) → a ++ b ++ c ++ d ++ e ≡ a ++ (b ++ (c ++ (d ++ e)))
regroup a b c d e = simp append_assoc

pub reads_sps : SequenceParametersAreRead
reads_sps levels size few allowed =
    let value : ℕ × Size = (levels, size) in
    let end : Reads (fixed sps_end >>= λ _. Done value) sps_end value =
    reads_map (λ _. value) (reads_fixed sps_end) in
    let after_depths : Reads (read_ordering >>= λ l. fixed sps_end >>= λ _. Done (l, size))
    (ordering levels ++ sps_end) value =
    reads_then (λ l. fixed sps_end >>= λ _. Done (l, size)) (reads_ordering levels few) end in
    let after_start : Reads
    (read_size >>= λ s. fixed sps_depths >>= λ _. read_ordering >>= λ l. fixed sps_end >>= λ _.
    Done (l, s))
    (size_fields size ++ (sps_depths ++ (ordering levels ++ sps_end))) value =
    reads_then
    (λ s. fixed sps_depths >>= λ _. read_ordering >>= λ l. fixed sps_end >>= λ _. Done (l, s))
    (reads_size size allowed) (fixed_then sps_depths after_depths) in
    subst (λ fields. Reads read_sps fields value)
    (sym (regroup sps_start (size_fields size) sps_depths (ordering levels) sps_end))
    (fixed_then sps_start after_start)

pub sizes_allowed : SizesAreAllowed
sizes_allowed cfg valid = record {
  width_multiple = omega arith;
  width_least = omega arith;
  width_most = omega arith;
  height_multiple = omega arith;
  height_least = omega arith;
  height_most = omega arith;
  right = omega arith;
  bottom = omega arith;
}

-- ---- slices

even_code : (code half : ℕ) → code ≡ 2 * half → signed_of code ≡ neg_ℤ (pos half)
even_code code half e =
    let even : nat_eq (code % 2) 0 ≡ true = eq-eqb (code % 2) 0 (omega arith) in
    let value : code / 2 ≡ half = omega arith in
    rw (even, value) refl

odd_code : (code half : ℕ) → code ≡ 2 * half + 1 → signed_of code ≡ pos (suc half)
odd_code code half e =
    let odd : nat_eq (code % 2) 0 ≡ false = ne_eqb (code % 2) 0 (λ h. omega arith) in
    let value : code / 2 + 1 ≡ suc half = omega arith in
    rw (odd, value) refl

pub signed_back : SignedComesBack
signed_back (pos zero) = refl
signed_back (pos (suc k)) = odd_code (2 * suc k - 1) k (omega arith)
signed_back (negsuc k) = even_code (2 * k + 2) (suc k) (omega arith)

pub reads_qp : (code qp : ℕ) → (pos 26 +ℤ signed_of code) ≡ pos qp → qp ≤ 51 →
    Reads (qp_from code) [] qp
reads_qp code qp e h =
    let few : nat_le qp 51 ≡ true = le-leb qp 51 h in
    let sign : is_negative (pos qp) ≡ false = le-ltb qp 0 (omega arith) in
    rw (e, sign, few) nothing

pub reads_idr_slice : SliceHeadersAreRead
reads_idr_slice qp h =
    let delta : signed_of (code_num (qp_delta qp)) ≡ qp_delta qp = signed_back (qp_delta qp) in
    let back : (pos 26 +ℤ (pos qp -ℤ pos 26)) ≡ pos qp = omega (arith, ints) in
    let sum : (pos 26 +ℤ signed_of (code_num (qp_delta qp))) ≡ pos qp =
    ap (λ z. pos 26 +ℤ z) delta ∙ back in
    fixed_then idr_start
    (free_then Ue (code_num (qp_delta qp)) qp_from (reads_qp (code_num (qp_delta qp)) qp sum h))

-- ---- every value can be coded

is_codable_as : Descriptor → ℕ → Bool
is_codable_as (U n) value = nat_lt value (2 ^ n)
is_codable_as Ue value = nat_lt value (2 ^ (most_zeros + 1) - 1)

is_codable : Field → Bool
is_codable field = is_codable_as field.question field.value

codes : (d : Descriptor) (value : ℕ) → is_codable_as d value ≡ true → Codes d value
unfolding is_codable_as
codes (U n) value e = ltb-true value (2 ^ n) e
codes Ue value e = ltb-true value (2 ^ (most_zeros + 1) - 1) e

codable : (fields : List Field) → list_all is_codable fields ≡ true → AllCodable fields
unfolding is_codable
codable [] e = tt
codable (field ∷ fields) e =
    let both = and_parts (is_codable field) (list_all is_codable fields) e in
    (codes field.question field.value both.0, codable fields both.1)

pub AllCodable-append : (a b : List Field) → AllCodable a → AllCodable b → AllCodable (a ++ b)
AllCodable-append [] b p q = q
AllCodable-append (field ∷ a) b p q = (p.0, AllCodable-append a b p.1 q)

codable_ordering : (levels : ℕ) → levels ≤ most_levels → AllCodable (ordering levels)
codable_ordering levels h = (omega arith, (omega arith, (omega arith, (omega arith, tt))))

codable_vps_start : AllCodable vps_start
unfolding is_codable is_codable_as
codable_vps_start = codable vps_start refl

codable_vps_end : AllCodable vps_end
unfolding is_codable is_codable_as
codable_vps_end = codable vps_end refl

pub codable_vps : VideoParametersAreCodable
codable_vps levels h =
    AllCodable-append (vps_start ++ ordering levels) vps_end
    (AllCodable-append vps_start (ordering levels) codable_vps_start (codable_ordering levels h))
    codable_vps_end

codable_sps_start : AllCodable sps_start
unfolding is_codable is_codable_as
codable_sps_start = codable sps_start refl

codable_sps_depths : AllCodable sps_depths
unfolding is_codable is_codable_as
codable_sps_depths = codable sps_depths refl

codable_sps_end : AllCodable sps_end
unfolding is_codable is_codable_as
codable_sps_end = codable sps_end refl

codable_window : (size : Size) → IsAllowed size → (flag : Bool) →
    AllCodable (cond flag
    (u 1 1 ∷ ue 0 ∷ ue size.conf_win_right_offset ∷ ue 0 ∷ ue size.conf_win_bottom_offset ∷ [])
    (u 1 0 ∷ []))
codable_window size h true = (
  omega arith,
  (
    omega arith,
    (omega (arith, h.right), (omega arith, (omega (arith, h.bottom), tt))),
  ),
)
codable_window size h false = (omega arith, tt)

codable_size : (size : Size) → IsAllowed size → AllCodable (size_fields size)
codable_size size h = (
  omega (arith, h.width_most),
  (omega (arith, h.height_most), codable_window size h (is_cropped size)),
)

pub codable_sps : SequenceParametersAreCodable
codable_sps levels size few h =
    let start : AllCodable (sps_start ++ size_fields size) =
    AllCodable-append sps_start (size_fields size) codable_sps_start (codable_size size h) in
    let depths : AllCodable (sps_start ++ size_fields size ++ sps_depths) =
    AllCodable-append (sps_start ++ size_fields size) sps_depths start codable_sps_depths in
    let levels_too : AllCodable (sps_start ++ size_fields size ++ sps_depths ++ ordering levels) =
    AllCodable-append (sps_start ++ size_fields size ++ sps_depths) (ordering levels) depths
    (codable_ordering levels few) in
    AllCodable-append (sps_start ++ size_fields size ++ sps_depths ++ ordering levels) sps_end
    levels_too codable_sps_end

pub codable_pps : PictureParametersAreCodable
unfolding is_codable is_codable_as
codable_pps = codable pps refl

codable_idr_start : AllCodable idr_start
unfolding is_codable is_codable_as
codable_idr_start = codable idr_start refl

pub small_code : (z : ℤ) (qp : ℕ) → z ≡ (pos qp -ℤ pos 26) → qp ≤ 51 → Codes Ue (code_num z)
small_code (pos k) qp e h = let small : k ≤ 25 = omega (arith, ints) in omega arith
small_code (negsuc k) qp e h = let small : k ≤ 25 = omega (arith, ints) in omega arith

pub codable_idr_slice : SliceHeadersAreCodable
codable_idr_slice qp h =
    AllCodable-append idr_start (se (qp_delta qp) ∷ []) codable_idr_start
    (small_code (qp_delta qp) qp refl h, tt)
