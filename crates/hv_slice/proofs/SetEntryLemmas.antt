-- The entries of a reference set (7.3.7) are its pictures, for `entries`, and a header with them is
-- the definition's, for `put_slice`.
use Rattle.std.proofs.Common.{◌≡◌, ◌≢◌, ℕ, zero, suc, ◌+◌, ◌-◌, ◌<◌, ◌≤◌, List, [], ◌∷◌, ◌++◌, length, map, take, drop, refl, sym, ap, ap₂, ◌∙◌, arith}
use Rattle.std.specs.Prelude.{slice_get, slice_set, Some, pos, neg_ℤ}
use Rattle.std.specs.Int.RustNames.{unsigned_abs}
use Rattle.std.proofs.lemmas.List.{take_at, drop_at, take-take, drop-take, take_more, take_more_set, length-set, length-map}
use Rattle.std.proofs.lemmas.Option.{get_or_from_slice_get}
use Rattle.hv_types.specs.Configuration.{most_levels}
use Rattle.hv_tables.specs.declared.bins.SliceKind.TheVariants.{P}
use Rattle.hv_group_model.specs.Structure.{Kept, ReferenceSet, reference_set, set_size, coded_of, qp_at}
use Rattle.hv_stream_model.specs.Headers.{SliceHeader, slice, slice_header_of}
use Rattle.hv_stream_model.specs.HeaderLaws.{IsAllowedSlice, SlicesOfGroupsAreAllowed, header_of}
use Rattle.hv_decision.specs.declared.row.SetEntry.{SetEntry}
use Rattle.hv_decision.specs.Sets.{entry_before, entry_after, set_entries}
use Rattle.hv_slice.specs.Entries.{kept_of, side_of, header_with}

-- ---- gathering

-- one entry more
pub one_entry : (entries set : List SetEntry) (i at : ℕ) (entry : SetEntry) → at ≡ i →
    length entries ≡ 4 → i < 4 → i < length set → take i entries ≡ take i set →
    slice_get set i ≡ Some entry →
    (length (slice_set entries at entry) ≡ 4) ×
    (take (i + 1) (slice_set entries at entry) ≡ take (i + 1) set)
one_entry entries set i at entry ea four few below e here =
    let more : take (i + 1) (slice_set entries i entry) ≡ take i entries ++ entry ∷ [] =
    take_more_set entries i entry (omega (arith, four)) in
    let all : take (i + 1) set ≡ take i set ++ entry ∷ [] =
    take_more set i entry below ∙
    ap (λ x. take i set ++ x ∷ []) (get_or_from_slice_get set i entry entry here) in (
      length-set entries at entry ∙ four,
      ap (λ j. take (i + 1) (slice_set entries j entry)) ea ∙ more ∙
          ap (λ xs. xs ++ entry ∷ []) e ∙ sym all,
    )

-- ---- both sides

abs_of_before : (distance : ℕ) → unsigned_abs (neg_ℤ (pos distance)) ≡ distance
abs_of_before zero = refl
abs_of_before (suc distance) = refl

side_of_before : (side : List Kept) → side_of (map entry_before side) ≡ side
side_of_before [] = refl
side_of_before (kept ∷ side) =
    let same : kept_of (entry_before kept) ≡ kept =
    λ i. record { distance = abs_of_before kept.distance i; is_used = kept.is_used } in
    ap₂ (λ k s. k ∷ s) same (side_of_before side)

side_of_after : (side : List Kept) → side_of (map entry_after side) ≡ side
side_of_after [] = refl
side_of_after (kept ∷ side) = ap (λ s. kept ∷ s) (side_of_after side)

front_side : (set : ReferenceSet) (n : ℕ) (entries : List SetEntry) → n ≡ length set.before →
    entries ≡ set_entries set → side_of (take n entries) ≡ set.before
front_side set n entries en ee =
    let left : List SetEntry = map entry_before set.before in
    let right : List SetEntry = map entry_after set.after in
    ap₂ (λ k xs. side_of (take k xs)) en ee ∙
    ap side_of (take_at left right (length set.before) (length-map set.before entry_before)) ∙
    side_of_before set.before

back_side : (set : ReferenceSet) (n : ℕ) (entries : List SetEntry) → n ≡ length set.before →
    entries ≡ set_entries set → side_of (drop n entries) ≡ set.after
back_side set n entries en ee =
    let left : List SetEntry = map entry_before set.before in
    let right : List SetEntry = map entry_after set.after in
    ap₂ (λ k xs. side_of (drop k xs)) en ee ∙
    ap side_of (drop_at left right (length set.before) (length-map set.before entry_before)) ∙
    side_of_after set.after

-- ---- headers

pub same_header : (count levels base picture qp before all : ℕ) (entries : List SetEntry) →
    take (set_size (reference_set count levels picture)) entries ≡
    set_entries (reference_set count levels picture) →
    all ≡ set_size (reference_set count levels picture) →
    before ≡ length (reference_set count levels picture).before →
    qp ≡ qp_at base (coded_of count levels picture).depth →
    header_with picture (take before entries) (take (all - before) (drop before entries)) qp ≡
    header_of count levels base picture
same_header count levels base picture qp before all entries ee ea eb eq =
    let set : ReferenceSet = reference_set count levels picture in
    let whole : take all entries ≡ set_entries set = ap (λ n. take n entries) ea ∙ ee in
    let within : before ≤ all = omega (arith, ea, eb) in
    let count_of : before + (all - before) ≡ all = omega (arith, within) in
    let front : side_of (take before entries) ≡ set.before =
    ap side_of (sym (take-take before all entries within)) ∙
    front_side set before (take all entries) eb whole in
    let back : side_of (take (all - before) (drop before entries)) ≡ set.after =
    ap side_of (sym (drop-take before (all - before) entries) ∙
    ap (λ n. drop before (take n entries)) count_of) ∙
    back_side set before (take all entries) eb whole in
    λ i. record {
      slice_type = P;
      slice_pic_order_cnt_lsb = picture;
      references = record { before = front i; after = back i };
      qp = eq i;
    }

-- a header that is allowed at some number of levels is allowed at three
loosen : (levels : ℕ) (header : SliceHeader) → levels ≤ most_levels → IsAllowedSlice levels header →
    IsAllowedSlice 3 header
loosen levels header low h = record {
  count_least = h.count_least;
  count_most = h.count_most;
  kept = omega (arith, low, h.kept);
  before = h.before;
  after = h.after;
  before_most = h.before_most;
  after_most = h.after_most;
  referred = h.referred;
  qp = h.qp;
}

pub other_header : SlicesOfGroupsAreAllowed → (count levels base picture : ℕ) → picture ≢ 0 →
    count ≤ 64 → levels ≤ most_levels → picture < count →
    (slice_header_of count levels base picture ≡ slice (header_of count levels base picture)) ×
    IsAllowedSlice 3 (header_of count levels base picture)
other_header law count levels base zero some few low below = absurd (some refl)
other_header law count levels base (suc k) some few low below =
    let both = law count levels base k few low below in
    (both.0, loosen levels (header_of count levels base (suc k)) low both.1)
