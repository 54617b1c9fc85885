-- What the counts need of each structure, found by computing all of them: a picture refers to at most two others of its
-- group, which are different (8.3.4).
use Rattle.std.proofs.Common.{◌≡◌, ℕ, ◌+◌, ◌<◌, ◌≤◌, ◌∙◌, sym, ap, ap₂, subst, refl, Bool, true, false, not, nat_eq, nat_lt, ◌&&◌, ◌||◌, Option, None, Some, List, [], ◌∷◌, length, slice_index_or, arith, inl, inr}
use Rattle.std.specs.Prelude.{◌⊎◌, slice_get}
use Rattle.std.specs.List.{list_all, list_any}
use Rattle.std.proofs.lemmas.Bool.{and_parts, cases_lt, eq-eqb, ne_eqb, eqb-false, eqb-true, ltb-true, not-true}
use Rattle.hv_group_model.specs.Structure.{Coded, coded, coding, place_in, picture_at, rising}
use Rattle.hv_decision.specs.Orders.{IsOrder}
use Rattle.hv_decision.specs.Structure.{Structure, IsStructure}
use Rattle.hv_lemmas.proofs.ComputedLemmas.{holds_at}
use Rattle.hv_decision.proofs.EachStructureLemmas.{each_count, each_levels, length-coding, place_below}
use Rattle.hv_decision.proofs.OrderLemmas.{orders}
use Rattle.hv_manager.specs.Progress.{coded_at, names, one_where, one_at}

-- ---- computed

unfoldable pub are_apart : ℕ → ℕ → List ℕ → Bool
are_apart count picture [] = true
are_apart count picture (a ∷ []) = nat_lt a count && not (nat_eq a picture)
are_apart count picture (a ∷ b ∷ []) =
    (nat_lt a count && not (nat_eq a picture)) && ((nat_lt b count && not (nat_eq b picture)) && not (nat_eq b a))
are_apart count picture (a ∷ b ∷ c ∷ rest) = false

unfoldable are_apart_in : ℕ → List Coded → Bool
are_apart_in count order = list_all (λ c. are_apart count c.picture c.references) order

unfoldable is_apart_count : ℕ → Bool
is_apart_count count = list_all (λ levels. are_apart_in count (coding count levels)) (rising 4 0)

low : list_all is_apart_count (rising 40 1) ≡ true
unfolding is_apart_count are_apart_in are_apart
low = refl

high : list_all is_apart_count (rising 24 41) ≡ true
unfolding is_apart_count are_apart_in are_apart
high = refl

levels_at : (count levels : ℕ) → is_apart_count count ≡ true → levels ≤ 3 →
    list_all (λ c. are_apart count c.picture c.references) (coding count levels) ≡ true
unfolding is_apart_count are_apart_in
levels_at count levels all few = each_levels (λ l. are_apart_in count (coding count l)) levels all few

-- ---- a picture by its place and by its number

order_of : (s : Structure) → IsStructure s → IsOrder s.count s.levels
order_of s is = orders s.count s.levels is.some is.most is.few

pub length-order : (s : Structure) → IsStructure s → length (coding s.count s.levels) ≡ s.count
length-order s is = length-coding s.count s.levels is.some is.most is.few

-- the picture at a place is coded as what stands there
pub coded-picture_at : (s : Structure) (place : ℕ) → IsStructure s → place < s.count →
    coded_at s.count s.levels (picture_at s.count s.levels place) ≡
    slice_index_or (coding s.count s.levels) place (coded 0 0 [])
coded-picture_at s place is below =
    ap (λ n. slice_index_or (coding s.count s.levels) n (coded 0 0 [])) ((order_of s is).place_of place below)

apart_at : (s : Structure) (k : ℕ) → IsStructure s → k < s.count →
    are_apart s.count k (coded_at s.count s.levels k).references ≡ true
apart_at s k is below =
    let order : List Coded = coding s.count s.levels in
    let there : place_in order k < s.count = place_below s.count s.levels k is.some is.most is.few below in
    let test : are_apart s.count (coded_at s.count s.levels k).picture (coded_at s.count s.levels k).references ≡ true =
    holds_at (λ c. are_apart s.count c.picture c.references) order (place_in order k) (coded 0 0 [])
    (levels_at s.count s.levels (each_count is_apart_count s.count low high is.some is.most (cases_lt s.count 41)) is.few)
    (omega (arith, length-order s is)) in
    subst (λ p. are_apart s.count p (coded_at s.count s.levels k).references ≡ true)
    ((order_of s is).picture_of k below) test

-- ---- what follows

one_yes : (j k : ℕ) → j ≡ k → one_where (nat_eq j k) ≡ 1
one_yes j k e = ap one_where (eq-eqb j k e)

one_no : (j k : ℕ) → (j ≡ k → ⊥) → one_where (nat_eq j k) ≡ 0
one_no j k away = ap one_where (ne_eqb j k away)

pub one_at-same : (k : ℕ) → one_at (Some k) k ≡ 1
one_at-same k = one_yes k k refl

pub one_at-le : (picture : Option ℕ) (k : ℕ) → one_at picture k ≤ 1
one_at-le None k = omega arith
one_at-le (Some picture) k = at_most (nat_eq k picture)
  where
    at_most : (test : Bool) → one_where test ≤ 1
    at_most true = omega arith
    at_most false = omega arith

-- of tests that exclude one another the sum is that of their disjunction
one_of_two : (t u : Bool) → (t ≡ true → u ≡ true → ⊥) → one_where t + one_where u + 0 ≡ one_where (t || (u || false))
one_of_two true true tu = absurd (tu refl refl)
one_of_two true false tu = refl
one_of_two false true tu = refl
one_of_two false false tu = refl

one_of_three : (t u v : Bool) → (t ≡ true → u ≡ true → ⊥) → (t ≡ true → v ≡ true → ⊥) → (u ≡ true → v ≡ true → ⊥) →
    one_where t + one_where u + one_where v ≡ one_where (t || (u || (v || false)))
one_of_three true true v tu tv uv = absurd (tu refl refl)
one_of_three true false true tu tv uv = absurd (tv refl refl)
one_of_three true false false tu tv uv = refl
one_of_three false true true tu tv uv = absurd (uv refl refl)
one_of_three false true false tu tv uv = refl
one_of_three false false true tu tv uv = refl
one_of_three false false false tu tv uv = refl

one_alone : (t : Bool) → one_where t + 0 + 0 ≡ one_where (t || false)
one_alone true = refl
one_alone false = refl

excluded : (j a b : ℕ) → not (nat_eq b a) ≡ true → nat_eq j a ≡ true → nat_eq j b ≡ true → ⊥
excluded j a b apart is_a is_b = eqb-false b a (not-true (nat_eq b a) apart) (sym (eqb-true j b is_b) ∙ eqb-true j a is_a)

named_sum_of : (count picture : ℕ) (references : List ℕ) (j : ℕ) → are_apart count picture references ≡ true →
    one_where (nat_eq j picture) + one_at (slice_get references 0) j + one_at (slice_get references 1) j ≡
    one_where (nat_eq j picture || list_any (nat_eq j) references)
unfolding are_apart
named_sum_of count picture [] j test = one_alone (nat_eq j picture)
named_sum_of count picture (a ∷ []) j test =
    let apart = and_parts (nat_lt a count) (not (nat_eq a picture)) test in
    one_of_two (nat_eq j picture) (nat_eq j a) (excluded j picture a apart.1)
named_sum_of count picture (a ∷ b ∷ []) j test =
    let outer = and_parts (nat_lt a count && not (nat_eq a picture))
    ((nat_lt b count && not (nat_eq b picture)) && not (nat_eq b a)) test in
    let first = and_parts (nat_lt a count) (not (nat_eq a picture)) outer.0 in
    let inner = and_parts (nat_lt b count && not (nat_eq b picture)) (not (nat_eq b a)) outer.1 in
    let second = and_parts (nat_lt b count) (not (nat_eq b picture)) inner.0 in
    one_of_three (nat_eq j picture) (nat_eq j a) (nat_eq j b)
    (excluded j picture a first.1) (excluded j picture b second.1) (excluded j a b inner.1)
named_sum_of count picture (a ∷ b ∷ c ∷ rest) j test = cc

-- the picture itself and its references, counted one by one, are those that it names
pub named_sum : (s : Structure) (k : ℕ) (first second : Option ℕ) (j : ℕ) → IsStructure s → k < s.count →
    first ≡ slice_get (coded_at s.count s.levels k).references 0 →
    second ≡ slice_get (coded_at s.count s.levels k).references 1 →
    one_at (Some k) j + one_at first j + one_at second j ≡ one_where (names (coded_at s.count s.levels k) j)
named_sum s k first second j is below e f =
    let refs : List ℕ = (coded_at s.count s.levels k).references in
    ap₂ (λ x y. one_at (Some k) j + one_at x j + one_at y j) e f
    ∙ named_sum_of s.count k refs j (apart_at s k is below)
    ∙ ap (λ p. one_where (nat_eq j p || list_any (nat_eq j) refs)) (sym ((order_of s is).picture_of k below))

below_of : (count picture : ℕ) (references : List ℕ) → are_apart count picture references ≡ true →
    (x : ℕ) → (slice_get references 0 ≡ Some x) ⊎ (slice_get references 1 ≡ Some x) → x < count
unfolding are_apart
below_of count picture [] test x (inl e) = cc
below_of count picture [] test x (inr e) = cc
below_of count picture (a ∷ []) test x (inl e) =
    let is : a ≡ x = cc in
    subst (λ n. n < count) is (ltb-true a count (and_parts (nat_lt a count) (not (nat_eq a picture)) test).0)
below_of count picture (a ∷ []) test x (inr e) = cc
below_of count picture (a ∷ b ∷ []) test x (inl e) =
    let is : a ≡ x = cc in
    let outer = and_parts (nat_lt a count && not (nat_eq a picture))
    ((nat_lt b count && not (nat_eq b picture)) && not (nat_eq b a)) test in
    subst (λ n. n < count) is (ltb-true a count (and_parts (nat_lt a count) (not (nat_eq a picture)) outer.0).0)
below_of count picture (a ∷ b ∷ []) test x (inr e) =
    let is : b ≡ x = cc in
    let outer = and_parts (nat_lt a count && not (nat_eq a picture))
    ((nat_lt b count && not (nat_eq b picture)) && not (nat_eq b a)) test in
    let inner = and_parts (nat_lt b count && not (nat_eq b picture)) (not (nat_eq b a)) outer.1 in
    subst (λ n. n < count) is (ltb-true b count (and_parts (nat_lt b count) (not (nat_eq b picture)) inner.0).0)
below_of count picture (a ∷ b ∷ c ∷ rest) test x (inl e) = cc
below_of count picture (a ∷ b ∷ c ∷ rest) test x (inr e) = cc

-- a reference is a picture of the group
pub first_below : (s : Structure) (k : ℕ) (first : Option ℕ) → IsStructure s → k < s.count →
    first ≡ slice_get (coded_at s.count s.levels k).references 0 → (x : ℕ) → first ≡ Some x → x < s.count
first_below s k first is below e x at =
    below_of s.count k (coded_at s.count s.levels k).references (apart_at s k is below) x (inl (sym e ∙ at))

pub second_below : (s : Structure) (k : ℕ) (second : Option ℕ) → IsStructure s → k < s.count →
    second ≡ slice_get (coded_at s.count s.levels k).references 1 → (x : ℕ) → second ≡ Some x → x < s.count
second_below s k second is below e x at =
    below_of s.count k (coded_at s.count s.levels k).references (apart_at s k is below) x (inr (sym e ∙ at))

two_of : (count picture : ℕ) (references : List ℕ) → are_apart count picture references ≡ true → length references ≤ 2
unfolding are_apart
two_of count picture [] test = omega arith
two_of count picture (a ∷ []) test = omega arith
two_of count picture (a ∷ b ∷ []) test = omega arith
two_of count picture (a ∷ b ∷ c ∷ rest) test = cc

pub two_references : (s : Structure) (k : ℕ) → IsStructure s → k < s.count →
    length (coded_at s.count s.levels k).references ≤ 2
two_references s k is below = two_of s.count k (coded_at s.count s.levels k).references (apart_at s k is below)
