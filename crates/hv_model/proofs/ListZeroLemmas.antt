-- List 0 (8.3.4) of the pictures of a group: the used members of a set give the references.
use Rattle.std.proofs.Common.{◌≡◌, ℕ, zero, suc, ◌+◌, ◌-◌, ◌<◌, ◌≤◌, Bool, true, false, List, [], ◌∷◌, ◌++◌, length, map, take, drop, slice_index_or, refl, sym, ap, ap₂, ◌∙◌, arith, cond, inl, inr, eqb-true}
use Rattle.std.specs.Prelude.{◌||◌, nat_eq, filter, flat_map}
use Rattle.std.specs.List.{list_all, list_any}
use Rattle.std.proofs.lemmas.Bool.{and_parts, false≢true, and_from}
use Rattle.std.proofs.lemmas.Bool.Decides.{nat_tests}
use Rattle.hv_lemmas.proofs.ComputedLemmas.{holds_at}
use Rattle.hv_group_model.specs.Structure.{Coded, Kept, coded, coding, is_among, is_referred, is_kept, kept, kept_among, references_at, place_in, falling, rising}
use Rattle.hv_stream_model.specs.Headers.{most_count}
use Rattle.hv_slice_model.specs.Slices.{counts_before, counts_after, used}
use Rattle.hv_model.specs.ReferenceLaws.{SetsGiveTheReferences}
use Rattle.hv_model.proofs.MembershipLemmas.{either, or_left, Among, among_behind, among_parts, among_rising}
use Rattle.hv_model.proofs.OrderLemmas.{numbers_of, in_order, refers_well, IsGood, orders_good}
use Rattle.hv_model.proofs.ReferenceLemmas.{back_before, back_after}
use Rattle.hv_stream_model.proofs.StreamLemmas.{same_bytes-true}

-- ---- the used ones of a side are those that the picture refers to, where these are kept

chosen : (u r : Bool) (f : Kept → ℕ) (k : Kept) (n : ℕ) (rest : List Kept) (others : List ℕ) →
    u ≡ r → f k ≡ n → map f rest ≡ others → map f (cond u (k ∷ rest) rest) ≡ cond r (n ∷ others) others
chosen true true f k n rest others same first e = ap₂ (λ x xs. x ∷ xs) first e
chosen true false f k n rest others same first e = absurd (false≢true (sym same))
chosen false true f k n rest others same first e = absurd (false≢true same)
chosen false false f k n rest others same first e = e

module _ (order : List Coded) (place picture : ℕ)
    (kept_all : (other : ℕ) → list_any (nat_eq other) (references_at order place) ≡ true →
    is_kept order place other ≡ true) where
  abbrev refers : ℕ → Bool
  refers other = list_any (nat_eq other) (references_at order place)

  one_used : (t r : Bool) (f : Kept → ℕ) (n : ℕ) (rest : List Kept) (others : List ℕ) →
      list_any (nat_eq n) (references_at order place) ≡ r → (r ≡ true → t ≡ true) →
      f (kept order place picture n) ≡ n → map f (used rest) ≡ others →
      map f (used (cond t (kept order place picture n ∷ []) [] ++ rest)) ≡ cond r (n ∷ others) others
  one_used true r f n rest others same stays first e =
      chosen (list_any (nat_eq n) (references_at order place)) r f (kept order place picture n) n
      (used rest) others same first e
  one_used false true f n rest others same stays first e = absurd (false≢true (stays refl))
  one_used false false f n rest others same stays first e = e

  used_before : (m : ℕ) → m ≤ picture →
      counts_before picture (used (kept_among order place picture (falling m))) ≡
      filter refers (falling m)
  used_before zero h = refl
  used_before (suc m) h =
      one_used (is_kept order place m) (refers m) (λ k. picture - k.distance) m
      (kept_among order place picture (falling m)) (filter refers (falling m)) refl (kept_all m)
      (back_before picture m (omega arith)) (used_before m (omega arith))

  used_after : (m from : ℕ) → picture < from →
      counts_after picture (used (kept_among order place picture (rising m from))) ≡
      filter refers (rising m from)
  used_after zero from h = refl
  used_after (suc m) from h =
      one_used (is_kept order place from) (refers from) (λ k. picture + k.distance) from
      (kept_among order place picture (rising m (from + 1)))
      (filter refers (rising m (from + 1))) refl (kept_all from) (back_after picture from h)
      (used_after m (from + 1) (omega arith))

-- ---- a picture of a group has a place in coding order

pub record IsFound (order : List Coded) (n : ℕ) : Type 0 where
  pub below : place_in order n < length order
  pub there : (slice_index_or order (place_in order n) (coded 0 0 [])).picture ≡ n

found_here : (t : Bool) (c : Coded) (order : List Coded) (n : ℕ) → (t ≡ true → c.picture ≡ n) →
    (t ≡ false → IsFound order n) →
    (cond t 0 (suc (place_in order n)) < suc (length order)) ×
    ((slice_index_or (c ∷ order) (cond t 0 (suc (place_in order n))) (coded 0 0 [])).picture ≡ n)
found_here true c order n here later = (omega arith, here refl)
found_here false c order n here later =
    let h = later refl in
    let below : place_in order n < length order = h.below in
    (omega (arith, below), h.there)

or_second : (x y : Bool) → (x || y) ≡ true → x ≡ false → y ≡ true
or_second true y e f = absurd (false≢true (sym f))
or_second false y e f = e

nat_eq_sym : (a b : ℕ) → nat_eq a b ≡ nat_eq b a
nat_eq_sym a b = grind (arith, nat_tests)

found : (order : List Coded) (n : ℕ) → Among n (numbers_of order) → IsFound order n
found [] n h = absurd (false≢true h)
found (c ∷ order) n h =
    let both = found_here (nat_eq c.picture n) c order n (eqb-true c.picture n)
    (λ apart. found order n (or_second (nat_eq n c.picture)
    (list_any (nat_eq n) (numbers_of order)) h (nat_eq_sym n c.picture ∙ apart))) in
    record { below = both.0; there = both.1 }

filter_among : (p : ℕ → Bool) (n : ℕ) (xs : List ℕ) → Among n (filter p xs) → Among n xs
filter_among p n [] h = h
filter_among p n (x ∷ xs) h = go (p x) (filter p xs) (filter_among p n xs) h
  where
    go : (t : Bool) (rest : List ℕ) → (Among n rest → Among n xs) →
        Among n (cond t (x ∷ rest) rest) → Among n (x ∷ xs)
    go true rest behind h = elim (either (nat_eq n x) (list_any (nat_eq n) rest) h)
        as (λ _. Among n (x ∷ xs)) [
          | inl here ↦ or_left (nat_eq n x) (list_any (nat_eq n) xs) here
          | inr there ↦ among_behind n x xs (behind there)
        ]
    go false rest behind h = among_behind n x xs (behind h)

in_order_among : (n : ℕ) (counts numbers : List ℕ) →
    Among n (flat_map (λ m. filter (nat_eq m) numbers) counts) → Among n numbers
in_order_among n [] numbers h = absurd (false≢true h)
in_order_among n (m ∷ counts) numbers h =
    elim
    (among_parts n (filter (nat_eq m) numbers)
    (flat_map (λ k. filter (nat_eq k) numbers) counts) h)
    as (λ _. Among n numbers) [
      | inl here ↦ filter_among (nat_eq m) n numbers here
      | inr there ↦ in_order_among n counts numbers there
    ]

picture_found : (count : ℕ) (order : List Coded) → IsGood count order → (n : ℕ) → n < count →
    IsFound order n
picture_found count order good n below =
    found order n
    (in_order_among n (rising (most_count + 1) 0) (numbers_of order)
    (ap (λ xs. list_any (nat_eq n) xs)
    (same_bytes-true (in_order (numbers_of order)) (rising count 0) good.shown) ∙
    among_rising n count 0 (omega arith) (omega arith)))

-- ---- what a picture refers to is kept

all_any : (p : ℕ → Bool) (n : ℕ) (xs : List ℕ) → list_all p xs ≡ true → Among n xs → p n ≡ true
all_any p n [] all h = absurd (false≢true h)
all_any p n (x ∷ xs) all h =
    let both = and_parts (p x) (list_all p xs) all in
    elim (either (nat_eq n x) (list_any (nat_eq n) xs) h) as (λ _. p n ≡ true) [
      | inl here ↦ ap p (eqb-true n x here) ∙ both.0
      | inr there ↦ all_any p n xs both.1 there
    ]

referred_here : (order : List Coded) (place other : ℕ) → place < length order →
    list_any (nat_eq other) (references_at order place) ≡ true →
    is_referred (drop place order) other ≡ true
referred_here [] place other below h = absurd (omega arith)
referred_here (c ∷ order) zero other below h =
    or_left (list_any (nat_eq other) c.references) (is_referred order other) h
referred_here (c ∷ order) (suc place) other below h =
    referred_here order place other (omega arith) h

pub references_given : SetsGiveTheReferences
references_given count levels qp k few low below =
    let order : List Coded = coding count levels in
    let picture : ℕ = suc k in
    let good : IsGood count order = orders_good count levels (omega arith) few low in
    let place : ℕ = place_in order picture in
    let here : IsFound order picture = picture_found count order good picture below in
    let c : Coded = slice_index_or order place (coded 0 0 []) in
    let there : place < length order = here.below in
    let well : refers_well count order c ≡ true =
    holds_at (refers_well count order) order place (coded 0 0 []) good.referring there in
    let both = and_parts
    (list_all (is_among (take (place_in order c.picture) order)) c.references) _ well in
    let earlier : list_all (is_among (take place order)) c.references ≡ true =
    ap (λ n. list_all (is_among (take (place_in order n) order)) c.references) (sym here.there) ∙
    both.0 in
    let kept_all : (other : ℕ) → list_any (nat_eq other) c.references ≡ true →
    is_kept order place other ≡ true =
    λ other h. and_from (is_among (take place order) other) (is_referred (drop place order) other)
    (all_any (is_among (take place order)) other c.references earlier h)
    (referred_here order place other there h) in
    let sorted : filter (λ other. list_any (nat_eq other) c.references) (falling picture) ++
    filter (λ other. list_any (nat_eq other) c.references)
    (rising (count - 1 - picture) (picture + 1)) ≡ c.references =
    ap (λ n. filter (λ other. list_any (nat_eq other) c.references) (falling n) ++
    filter (λ other. list_any (nat_eq other) c.references) (rising (count - 1 - n) (n + 1)))
    (sym here.there) ∙
    same_bytes-true _ c.references both.1 in
    ap₂ (λ a b. a ++ b) (used_before order place picture kept_all picture (omega arith))
    (used_after order place picture kept_all (count - 1 - picture) (picture + 1) (omega arith)) ∙
    sorted
