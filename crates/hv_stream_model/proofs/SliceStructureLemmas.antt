-- The slice headers of all groups are of this profile (7.3.6.1, 7.3.7): the sizes of their
-- reference sets by computing all of them, and the order and range of their distances.
use Rattle.std.proofs.Common.{◌≡◌, ℕ, zero, suc, ◌+◌, ◌-◌, ◌<◌, ◌≤◌, Bool, true, false, cond, List, [], ◌∷◌, ◌++◌, length, map, refl, sym, ap, ap₂, ◌∙◌, arith, inl, inr}
use Rattle.std.specs.Prelude.{nat_lt, nat_eq, ◌&&◌}
use Rattle.std.specs.List.{list_all}
use Rattle.std.specs.Int.{abs_diff}
use Rattle.std.proofs.lemmas.Bool.{and_parts, cases_lt, ltb-true}
use Rattle.std.proofs.lemmas.Bool.Decides.{nat_tests}
use Rattle.hv_types.specs.Configuration.{most_levels}
use Rattle.hv_group_model.proofs.NumberListLemmas.{below_all}
use Rattle.hv_group_model.specs.Structure.{Coded, coding, place_in, falling, rising, Kept, kept, is_kept, kept_among, references_at, ReferenceSet, reference_set, set_in, set_size}
use Rattle.hv_stream_model.specs.Headers.{most_count, used_count}
use Rattle.hv_stream_model.specs.HeaderLaws.{Rise, AreWithin, SlicesOfGroupsAreAllowed}
use Rattle.hv_group_model.proofs.LifeLemmas.{Life, life_in, kept_lives, kept_among-lives}

-- ---- sizes

abbrev is_small : ℕ → ReferenceSet → Bool
is_small levels set =
    nat_lt (set_size set) (levels + 2) && (nat_lt 0 (used_count set) && nat_lt (used_count set) 3)

-- the set of a picture, by the lives of those before and behind it
abbrev set_by : List Coded → Life → List Life → List Life → ReferenceSet
set_by order life before after =
    let references = references_at order life.place in record {
      before = kept_lives references life.place life.picture before;
      after = kept_lives references life.place life.picture after;
    }

-- the sets of pictures from the last one of these down to the second
abbrev are_small : ℕ → List Coded → List Life → List Life → Bool
are_small levels order [] after = true
are_small levels order (life ∷ []) after = true
are_small levels order (life ∷ next ∷ lives) after =
    is_small levels (set_by order life (next ∷ lives) after) &&
    are_small levels order (next ∷ lives) (life ∷ after)

unfoldable group_is_small : ℕ → ℕ → Bool
group_is_small levels count =
    let order = coding count levels in
    are_small levels order (map (life_in order) (falling count)) []

place_in-le : (order : List Coded) (picture : ℕ) → place_in order picture ≤ length order
place_in-le [] picture = omega arith
place_in-le (c ∷ order) picture = go (nat_eq c.picture picture) (place_in-le order picture)
  where
    go : (b : Bool) → place_in order picture ≤ length order →
        cond b 0 (suc (place_in order picture)) ≤ suc (length order)
    go true h = omega arith
    go false h = omega (arith, h)

set_in-by : (order : List Coded) (n m : ℕ) →
    set_in order (suc n + m) n ≡
    set_by order (life_in order n) (map (life_in order) (falling n))
    (map (life_in order) (rising m (suc n)))
set_in-by order n m =
    let place : ℕ = place_in order n in
    let within : place ≤ length order = place_in-le order n in
    let count : suc n + m - 1 - n ≡ m = omega arith in
    let next : n + 1 ≡ suc n = omega arith in
    let after : kept_among order place n (rising (suc n + m - 1 - n) (n + 1)) ≡
    kept_lives (references_at order place) place n (map (life_in order) (rising m (suc n))) =
    ap₂ (λ c x. kept_among order place n (rising c x)) count next ∙
    kept_among-lives order place n (rising m (suc n)) within in
    ap₂ (λ b a. record { before = b; after = a })
    (kept_among-lives order place n (falling n) within) after

small_below : (levels : ℕ) (order : List Coded) (n m : ℕ) →
    are_small levels order (map (life_in order) (falling n))
    (map (life_in order) (rising m n)) ≡ true →
    (k : ℕ) → 0 < k → k < n → is_small levels (set_in order (n + m) k) ≡ true
small_below levels order zero m all k some below = absurd (omega arith)
small_below levels order (suc zero) m all k some below = absurd (omega arith)
small_below levels order (suc (suc n)) m all k some below =
    let life : ℕ → Life = life_in order in
    let parts = and_parts
    (is_small levels (set_by order (life (suc n)) (map life (falling (suc n)))
    (map life (rising m (suc (suc n))))))
    (are_small levels order (map life (falling (suc n)))
    (life (suc n) ∷ map life (rising m (suc (suc n))))) all in
    let next : suc n + 1 ≡ suc (suc n) = omega arith in
    let others : are_small levels order (map life (falling (suc n)))
    (map life (rising (suc m) (suc n))) ≡ true =
    ap (λ x. are_small levels order (map life (falling (suc n)))
    (life (suc n) ∷ map life (rising m x))) next ∙ parts.1 in
    let count : suc n + suc m ≡ suc (suc n) + m = omega arith in
    elim (cases_lt k (suc n)) [
      | inl h ↦ ap (λ c. is_small levels (set_in order c k)) (sym count) ∙
          small_below levels order (suc n) (suc m) others k some h
      | inr h ↦ let here : k ≡ suc n = omega arith in
          ap (λ x. is_small levels (set_in order (suc (suc n) + m) x)) here ∙
          ap (is_small levels) (set_in-by order (suc n) m) ∙ parts.0
    ]

unfoldable groups_are_small : ℕ → Bool
groups_are_small levels = list_all (group_is_small levels) (falling 65)

all_groups : list_all groups_are_small (falling 4) ≡ true
unfolding groups_are_small group_is_small
all_groups = refl

pub small_sets : (count levels k : ℕ) → count ≤ 64 → levels ≤ most_levels → 0 < k → k < count →
    is_small levels (reference_set count levels k) ≡ true
unfolding groups_are_small group_is_small
small_sets count levels k few low some below =
    let group : group_is_small levels count ≡ true =
    below_all (group_is_small levels) 65 count
    (below_all groups_are_small 4 levels all_groups (omega arith)) (omega arith) in
    let whole : count + 0 ≡ count = omega arith in
    ap (λ c. is_small levels (set_in (coding count levels) c k)) (sym whole) ∙
    small_below levels (coding count levels) count 0 group k some below

-- ---- distances

before_distance : (picture other : ℕ) → other < picture → abs_diff picture other ≡ picture - other
before_distance picture other h = grind (arith, nat_tests)

after_distance : (picture other : ℕ) → picture < other → abs_diff picture other ≡ other - picture
after_distance picture other h = grind (arith, nat_tests)

rise_more : (b : Bool) (from : ℕ) (k : Kept) (rest : List Kept) → from < k.distance →
    Rise k.distance rest → Rise from rest → Rise from (cond b (k ∷ []) [] ++ rest)
rise_more true from k rest far behind others = (far, behind)
rise_more false from k rest far behind others = others

rise_before : (order : List Coded) (place picture n from : ℕ) → n ≤ picture →
    from ≤ picture - n → Rise from (kept_among order place picture (falling n))
rise_before order place picture zero from h near = tt
rise_before order place picture (suc n) from h near =
    let far : abs_diff picture n ≡ picture - n = before_distance picture n (omega arith) in
    rise_more (is_kept order place n) from (kept order place picture n)
    (kept_among order place picture (falling n)) (omega (arith, far))
    (rise_before order place picture n (abs_diff picture n) (omega arith) (omega (arith, far)))
    (rise_before order place picture n from (omega arith) (omega arith))

rise_after : (order : List Coded) (place picture m next from : ℕ) → picture < next →
    from < next - picture → Rise from (kept_among order place picture (rising m next))
rise_after order place picture zero next from h near = tt
rise_after order place picture (suc m) next from h near =
    let far : abs_diff picture next ≡ next - picture = after_distance picture next h in
    rise_more (is_kept order place next) from (kept order place picture next)
    (kept_among order place picture (rising m (next + 1))) (omega (arith, far))
    (rise_after order place picture m (next + 1) (abs_diff picture next) (omega arith)
    (omega (arith, far)))
    (rise_after order place picture m (next + 1) from (omega arith) (omega arith))

within_more : (b : Bool) (most : ℕ) (k : Kept) (rest : List Kept) → k.distance ≤ most →
    AreWithin most rest → AreWithin most (cond b (k ∷ []) [] ++ rest)
within_more true most k rest near others = (near, others)
within_more false most k rest near others = others

within_before : (order : List Coded) (place picture n : ℕ) → n ≤ picture →
    AreWithin picture (kept_among order place picture (falling n))
within_before order place picture zero h = tt
within_before order place picture (suc n) h =
    let far : abs_diff picture n ≡ picture - n = before_distance picture n (omega arith) in
    within_more (is_kept order place n) picture (kept order place picture n)
    (kept_among order place picture (falling n)) (omega (arith, far))
    (within_before order place picture n (omega arith))

within_after : (order : List Coded) (place picture m next most : ℕ) → picture < next →
    next + m ≤ most + 1 →
    AreWithin (most - picture) (kept_among order place picture (rising m next))
within_after order place picture zero next most h small = tt
within_after order place picture (suc m) next most h small =
    let far : abs_diff picture next ≡ next - picture = after_distance picture next h in
    within_more (is_kept order place next) (most - picture) (kept order place picture next)
    (kept_among order place picture (rising m (next + 1))) (omega (arith, far))
    (within_after order place picture m (next + 1) most (omega arith) (omega arith))

-- ---- headers

pub slices_allowed : SlicesOfGroupsAreAllowed
slices_allowed count levels qp k few low below =
    let set : ReferenceSet = reference_set count levels (suc k) in
    let order : List Coded = coding count levels in
    let place : ℕ = place_in order (suc k) in
    let tests = and_parts (nat_lt (set_size set) (levels + 2))
    (nat_lt 0 (used_count set) && nat_lt (used_count set) 3)
    (small_sets count levels (suc k) few low (omega arith) below) in
    let used = and_parts (nat_lt 0 (used_count set)) (nat_lt (used_count set) 3) tests.1 in
    let size : set_size set < levels + 2 = ltb-true (set_size set) (levels + 2) tests.0 in
    let least : 0 < used_count set = ltb-true 0 (used_count set) used.0 in
    let most : used_count set < 3 = ltb-true (used_count set) 3 used.1 in (
      refl,
      record {
        count_least = omega arith;
        count_most = omega arith;
        kept = omega (arith, size);
        before = rise_before order place (suc k) (suc k) 0 (omega arith) (omega arith);
        after = rise_after order place (suc k) (count - 1 - suc k) (suc k + 1) 0 (omega arith)
            (omega arith);
        before_most = within_before order place (suc k) (suc k) (omega arith);
        after_most = within_after order place (suc k) (count - 1 - suc k) (suc k + 1) most_count
            (omega arith) (omega arith);
        referred = (omega (arith, least), omega (arith, most));
        qp = omega arith;
      },
    )
