-- Reference picture sets (8.3.2) and list 0 (8.3.4) by the counts of their pictures.
use Rattle.std.proofs.Common.{◌≡◌, ℕ, zero, suc, ◌+◌, ◌-◌, ◌<◌, ◌≤◌, Bool, true, false, List, [], ◌∷◌, ◌++◌, length, map, refl, sym, ap, ap₂, ◌∙◌, arith, inl, inr, cond, length-append}
use Rattle.std.specs.Prelude.{nat_eq, filter}
use Rattle.std.specs.Int.{abs_diff}
use Rattle.std.specs.List.{list_any}
use Rattle.std.proofs.lemmas.Bool.Decides.{nat_tests}
use Rattle.std.proofs.lemmas.List.{length-map}
use Rattle.std.proofs.lemmas.List.Sums.{length-filter}
use Rattle.std.proofs.lemmas.List.Elements.{filter-append}
use Rattle.hv_group_model.specs.Structure.{Coded, Kept, kept, is_kept, kept_among, place_in, falling, rising}
use Rattle.hv_stream_model.specs.Headers.{SliceHeader, used_in}
use Rattle.hv_stream_model.specs.HeaderLaws.{header_of}
use Rattle.hv_group_model.specs.Structure.{coding}
use Rattle.hv_slice_model.specs.Slices.{counts_before, counts_after, set_counts, used, list_0}
use Rattle.hv_model.specs.ReferenceLaws.{ListZeroHasTheActiveReferences}
use Rattle.hv_model.proofs.MembershipLemmas.{either, or_left, among_behind, among_left, among_right, among_parts, Among, AllAmong}

-- ---- list 0 and the set

used_counted : (f : Kept → ℕ) (side : List Kept) → length (map f (used side)) ≡ used_in side
used_counted f side = length-map (used side) f ∙ length-filter (λ k. k.is_used) side

pub list_counted : ListZeroHasTheActiveReferences
list_counted header =
    let before : List Kept = header.references.before in
    let after : List Kept = header.references.after in
    let count : ℕ = header.slice_pic_order_cnt_lsb in
    length-append (counts_before count (used before)) (counts_after count (used after)) ∙
    ap₂ (λ a b. a + b) (used_counted (λ k. count - k.distance) before)
    (used_counted (λ k. count + k.distance) after)

used_case : (n x : ℕ) (all : List ℕ) (t : Bool) (f : Kept → ℕ) (k : Kept) (rest : List Kept) →
    f k ≡ x → (Among n (map f rest) → Among n all) → Among n (map f (cond t (k ∷ rest) rest)) →
    Among n (x ∷ all)
used_case n x all true f k rest e behind h =
    elim (either (nat_eq n (f k)) (list_any (nat_eq n) (map f rest)) h)
    as (λ _. Among n (x ∷ all)) [
      | inl here ↦ or_left (nat_eq n x) (list_any (nat_eq n) all) (ap (nat_eq n) (sym e) ∙ here)
      | inr there ↦ among_behind n x all (behind there)
    ]
used_case n x all false f k rest e behind h = among_behind n x all (behind h)

used_among : (f : Kept → ℕ) (side : List Kept) → AllAmong (map f (used side)) (map f side)
used_among f [] n h = h
used_among f (k ∷ side) n h =
    used_case n (f k) (map f side) k.is_used f k (used side) refl (used_among f side n) h

-- what list 0 has the set names
pub list_named : (header : SliceHeader) → AllAmong (list_0 header) (set_counts header)
list_named header n h =
    let count : ℕ = header.slice_pic_order_cnt_lsb in
    let before : List Kept = header.references.before in
    let after : List Kept = header.references.after in
    elim
    (among_parts n (counts_before count (used before)) (counts_after count (used after)) h)
    as (λ _. Among n (set_counts header)) [
      | inl first ↦ among_left n (counts_before count before) (counts_after count after)
          (used_among (λ k. count - k.distance) before n first)
      | inr last ↦ among_right n (counts_before count before) (counts_after count after)
          (used_among (λ k. count + k.distance) after n last)
    ]

-- ---- the sets of a group

pub back_before : (picture other : ℕ) → other < picture →
    picture - abs_diff picture other ≡ other
back_before picture other h = grind (arith, nat_tests)

pub back_after : (picture other : ℕ) → picture < other →
    picture + abs_diff picture other ≡ other
back_after picture other h = grind (arith, nat_tests)

module _ (order : List Coded) (place picture : ℕ) where
  abbrev keeps : ℕ → Bool
  keeps other = is_kept order place other

  one_before : (t : Bool) (n : ℕ) (rest : List Kept) (others : List ℕ) → n < picture →
      counts_before picture rest ≡ others →
      counts_before picture (cond t (kept order place picture n ∷ []) [] ++ rest) ≡
      cond t (n ∷ others) others
  one_before true n rest others h e = ap₂ (λ x xs. x ∷ xs) (back_before picture n h) e
  one_before false n rest others h e = e

  pub kept_before : (m : ℕ) → m ≤ picture →
      counts_before picture (kept_among order place picture (falling m)) ≡
      filter (is_kept order place) (falling m)
  kept_before zero h = refl
  kept_before (suc m) h =
      one_before (is_kept order place m) m (kept_among order place picture (falling m))
      (filter (is_kept order place) (falling m)) (omega arith) (kept_before m (omega arith))

  one_after : (t : Bool) (n : ℕ) (rest : List Kept) (others : List ℕ) → picture < n →
      counts_after picture rest ≡ others →
      counts_after picture (cond t (kept order place picture n ∷ []) [] ++ rest) ≡
      cond t (n ∷ others) others
  one_after true n rest others h e = ap₂ (λ x xs. x ∷ xs) (back_after picture n h) e
  one_after false n rest others h e = e

  pub kept_after : (m from : ℕ) → picture < from →
      counts_after picture (kept_among order place picture (rising m from)) ≡
      filter (is_kept order place) (rising m from)
  kept_after zero from h = refl
  kept_after (suc m) from h =
      one_after (is_kept order place from) from
      (kept_among order place picture (rising m (from + 1)))
      (filter (is_kept order place) (rising m (from + 1))) h
      (kept_after m (from + 1) (omega arith))

-- the other pictures of a group, as they stand in a set
abbrev pub others_of : ℕ → ℕ → List ℕ
others_of count picture = falling picture ++ rising (count - 1 - picture) (picture + 1)

-- the set of a picture but the first has just the others that are kept
pub set_of_kept : (count levels qp k : ℕ) →
    set_counts (header_of count levels qp (suc k)) ≡
    filter
    (is_kept (coding count levels) (place_in (coding count levels) (suc k)))
    (others_of count (suc k))
set_of_kept count levels qp k =
    let order : List Coded = coding count levels in
    let place : ℕ = place_in order (suc k) in
    ap₂ (λ a b. a ++ b) (kept_before order place (suc k) (suc k) (omega arith))
    (kept_after order place (suc k) (count - 1 - suc k) (suc k + 1) (omega arith)) ∙
    sym (filter-append (is_kept order place) (falling (suc k))
    (rising (count - 1 - suc k) (suc k + 1)))
