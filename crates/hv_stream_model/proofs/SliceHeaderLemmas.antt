-- Slice headers of other pictures than an IDR (7.3.6.1, 7.3.7): what is read of them, and that they
-- can be coded.
use Rattle.std.proofs.Common.{◌≡◌, ℕ, ◌+◌, ◌-◌, ◌^◌, ◌<◌, ◌≤◌, Bool, true, false, List, [], ◌∷◌, ◌++◌, length, refl, sym, ap, ◌∙◌, subst, arith, append_assoc, le-leb}
use Rattle.std.specs.Prelude.{nat_eq, nat_le, ◌&&◌, pos, ◌+ℤ◌, ◌-ℤ◌}
use Rattle.std.proofs.lemmas.Int.{ints}
use Rattle.hv_tables.specs.declared.bins.SliceKind.{SliceKind}
use Rattle.hv_tables.specs.declared.bins.SliceKind.TheVariants.{I, P}
use Rattle.hv_stream_model.specs.Scripts.{Done, only_if, ◌>>=◌, Reads, nothing, one}
use Rattle.hv_stream_model.specs.Fields.{U, Ue, Field, Codes, AllCodable, u, ue, se, code_num, signed_of, HeaderScript}
use Rattle.hv_group_model.specs.Structure.{Kept, ReferenceSet, set_size}
use Rattle.hv_stream_model.specs.Headers.{SliceHeader, most_count, type_code, bit_of, side_fields, set_fields, used_count, active_fields, slice_start, sao_flags, qp_delta, fixed, free, qp_from, read_side, read_set, type_from, read_active, read_slice}
use Rattle.hv_stream_model.specs.HeaderLaws.{Rise, AreWithin, AreReferred, IsAllowedSlice, OtherSlicesAreRead, OtherSlicesAreCodable}
use Rattle.hv_stream_model.proofs.ScriptLemmas.{reads_then, reads_map, where_true}
use Rattle.hv_stream_model.proofs.HeaderLemmas.{reads_fixed, fixed_then, signed_back, reads_qp, small_code, AllCodable-append}

-- ---- reading

flag_back : (b : Bool) → nat_eq (bit_of b) 1 ≡ b
flag_back true = refl
flag_back false = refl

reads_side : (most from : ℕ) (side : List Kept) → Rise from side → AreWithin most side →
    Reads (read_side most (length side) from) (side_fields from side) side
reads_side most from [] h w = nothing
reads_side most from (kept ∷ rest) h w =
    let delta : ℕ = kept.distance - from - 1 in
    let distance : from + delta + 1 ≡ kept.distance = omega (arith, h.0) in
    let near : nat_le (from + delta + 1) most ≡ true =
    le-leb (from + delta + 1) most (omega (arith, distance, w.0)) in
    let flag : nat_eq (bit_of kept.is_used) 1 ≡ kept.is_used = flag_back kept.is_used in
    let given : Kept =
    record { distance = from + delta + 1; is_used = nat_eq (bit_of kept.is_used) 1 } in
    let same : given ≡ kept = λ i. record { distance = distance i; is_used = flag i } in
    let fields : List Field = side_fields kept.distance rest in
    let others : Reads (read_side most (length rest) (from + delta + 1)) fields rest =
    subst (λ d. Reads (read_side most (length rest) d) fields rest) (sym distance)
    (reads_side most kept.distance rest h.1 w.1) in
    one (where_true _ near (one (subst (λ k. Reads
    (read_side most (length rest) (from + delta + 1) >>= λ r. Done (given ∷ r)) fields
    (k ∷ rest)) same (reads_map (λ r. given ∷ r) others))))

reads_set : (levels count : ℕ) (references : ReferenceSet) → set_size references ≤ levels + 1 →
    Rise 0 references.before → Rise 0 references.after →
    AreWithin count references.before → AreWithin (most_count - count) references.after →
    Reads (read_set levels count) (set_fields references) references
reads_set levels count references few before after near_before near_after =
    let test : nat_le (set_size references) (levels + 1) ≡ true =
    le-leb (set_size references) (levels + 1) few in
    one (one (where_true _ test (reads_then
    (λ b. read_side (most_count - count) (length references.after) 0 >>= λ a.
    Done (record { before = b; after = a }))
    (reads_side count 0 references.before before near_before)
    (reads_map (λ a. record { before = references.before; after = a })
    (reads_side (most_count - count) 0 references.after after near_after)))))

reads_active : (kind : SliceKind) (used : ℕ) → AreReferred kind used →
    Reads (read_active kind used) (active_fields kind used) tt
reads_active I used h = nothing
reads_active P used h =
    let both : (nat_le 1 used && nat_le used 2) ≡ true =
    rw (le-leb 1 used h.0, le-leb used 2 h.1) refl in
    where_true _ both (reads_fixed (active_fields P used))

reads_type : (kind : SliceKind) → Reads (type_from (type_code kind)) [] kind
reads_type I = nothing
reads_type P = nothing

-- what follows the set, the count and the type
abbrev behind_set : SliceKind → ℕ → ReferenceSet → HeaderScript SliceHeader
behind_set kind count references =
    fixed sao_flags >>= λ _.
    read_active kind (used_count references) >>= λ _.
    free Ue >>= λ delta.
    qp_from delta >>= λ qp.
    Done (record {
      slice_type = kind;
      slice_pic_order_cnt_lsb = count;
      references = references;
      qp = qp;
    })

abbrev behind_count : ℕ → SliceKind → ℕ → HeaderScript SliceHeader
behind_count levels kind count =
    only_if (nat_le 1 count && nat_le count most_count)
    (fixed (u 1 0 ∷ []) >>= λ _. read_set levels count >>= λ references.
    behind_set kind count references)

abbrev behind_type : ℕ → SliceKind → HeaderScript SliceHeader
behind_type levels kind = free (U 8) >>= λ count. behind_count levels kind count

reads_behind_set : (levels : ℕ) (header : SliceHeader) → IsAllowedSlice levels header →
    Reads (behind_set header.slice_type header.slice_pic_order_cnt_lsb header.references)
    (sao_flags ++ (active_fields header.slice_type (used_count header.references) ++
    (se (qp_delta header.qp) ∷ []))) header
reads_behind_set levels header h =
    let code : ℕ = code_num (qp_delta header.qp) in
    let back : (pos 26 +ℤ (pos header.qp -ℤ pos 26)) ≡ pos header.qp = omega (arith, ints) in
    let sum : (pos 26 +ℤ signed_of code) ≡ pos header.qp =
    ap (λ z. pos 26 +ℤ z) (signed_back (qp_delta header.qp)) ∙ back in
    let made : ℕ → SliceHeader = λ qp. record {
      slice_type = header.slice_type;
      slice_pic_order_cnt_lsb = header.slice_pic_order_cnt_lsb;
      references = header.references;
      qp = qp;
    } in
    fixed_then sao_flags
    (reads_then (λ _. free Ue >>= λ delta. qp_from delta >>= λ qp. Done (made qp))
    (reads_active header.slice_type (used_count header.references) h.referred)
    (one (reads_map made (reads_qp code header.qp sum h.qp))))

reads_behind_type : (levels : ℕ) (header : SliceHeader) → IsAllowedSlice levels header →
    Reads (behind_type levels header.slice_type)
    (u 8 header.slice_pic_order_cnt_lsb ∷ ((u 1 0 ∷ []) ++ (set_fields header.references ++
    (sao_flags ++ (active_fields header.slice_type (used_count header.references) ++
    (se (qp_delta header.qp) ∷ [])))))) header
reads_behind_type levels header h =
    let count : ℕ = header.slice_pic_order_cnt_lsb in
    let both : (nat_le 1 count && nat_le count most_count) ≡ true =
    rw (le-leb 1 count h.count_least, le-leb count most_count h.count_most) refl in
    one (where_true _ both (fixed_then (u 1 0 ∷ [])
    (reads_then (λ references. behind_set header.slice_type count references)
    (reads_set levels count header.references h.kept h.before h.after h.before_most h.after_most)
    (reads_behind_set levels header h))))

regroup : (a b c d : List Field) → a ++ b ++ c ++ d ≡ a ++ (b ++ (c ++ d))
regroup a b c d = simp append_assoc

pub reads_slice : OtherSlicesAreRead
reads_slice levels header h =
    let set : List Field = set_fields header.references in
    let active : List Field = active_fields header.slice_type (used_count header.references) in
    let end : List Field = se (qp_delta header.qp) ∷ [] in
    let all : List Field → List Field = λ rest.
    slice_start ++ ue (type_code header.slice_type) ∷ u 8 header.slice_pic_order_cnt_lsb ∷
    u 1 0 ∷ rest in
    subst (λ rest. Reads (read_slice levels) (all rest) header)
    (sym (regroup set sao_flags active end))
    (fixed_then slice_start (one (reads_then (behind_type levels) (reads_type header.slice_type)
    (reads_behind_type levels header h))))

-- ---- every value can be coded

flag_small : (b : Bool) → bit_of b < 2 ^ 1
flag_small true = omega arith
flag_small false = omega arith

codable_side : (most from : ℕ) (side : List Kept) → most ≤ most_count → AreWithin most side →
    AllCodable (side_fields from side)
codable_side most from [] few w = tt
codable_side most from (kept ∷ rest) few w =
    let others = codable_side most kept.distance rest few w.1 in
    (omega (arith, few, w.0), (flag_small kept.is_used, others))

codable_type : (kind : SliceKind) → Codes Ue (type_code kind)
codable_type I = omega arith
codable_type P = omega arith

codable_active : (kind : SliceKind) (used : ℕ) → AreReferred kind used →
    AllCodable (active_fields kind used)
codable_active I used h = tt
codable_active P used h = (omega arith, (omega (arith, h.1), (omega arith, tt)))

pub codable_slice : OtherSlicesAreCodable
codable_slice levels header few h =
    let references : ReferenceSet = header.references in
    let count : ℕ = header.slice_pic_order_cnt_lsb in
    let before : List Field = side_fields 0 references.before in
    let after : List Field = side_fields 0 references.after in
    let active : List Field = active_fields header.slice_type (used_count references) in
    let end : List Field = se (qp_delta header.qp) ∷ [] in
    let sides : AllCodable (before ++ after) =
    AllCodable-append before after
    (codable_side count 0 references.before h.count_most h.before_most)
    (codable_side (most_count - count) 0 references.after (omega arith) h.after_most) in
    let set : AllCodable (set_fields references) =
    (omega (arith, few, h.kept), (omega (arith, few, h.kept), sides)) in
    let flags : AllCodable sao_flags = (omega arith, (omega arith, tt)) in
    let last : AllCodable end = (small_code (qp_delta header.qp) header.qp refl h.qp, tt) in
    let rest : AllCodable (set_fields references ++ sao_flags ++ active ++ end) =
    AllCodable-append (set_fields references ++ sao_flags ++ active) end
    (AllCodable-append (set_fields references ++ sao_flags) active
    (AllCodable-append (set_fields references) sao_flags set flags)
    (codable_active header.slice_type (used_count references) h.referred)) last in
    let small : count < 2 ^ 8 = omega (arith, h.count_most) in
    (omega arith, (omega arith, (codable_type header.slice_type, (small, (omega arith, rest)))))
