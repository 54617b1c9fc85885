-- The coding orders of all groups: found by computing all structures.
use Rattle.std.proofs.Common.{◌≡◌, ℕ, ◌+◌, ◌-◌, ◌≤◌, Bool, true, List, ◌++◌, map, drop, refl, arith, inl, inr}
use Rattle.std.specs.Prelude.{◌&&◌, nat_eq, nat_lt, filter, flat_map, take}
use Rattle.std.specs.List.{list_all, list_any}
use Rattle.std.proofs.lemmas.Bool.{and_parts, cases_lt}
use Rattle.hv_types.specs.Configuration.{most_levels}
use Rattle.hv_group_model.specs.Structure.{Coded, coding, place_in, is_among, falling, rising}
use Rattle.hv_group_model.proofs.NumberListLemmas.{in_range}
use Rattle.hv_stream_model.specs.Headers.{most_count}
use Rattle.hv_stream_model.specs.Units.{same_bytes}
use Rattle.hv_model.specs.Decoding.{are_different}

-- the pictures in coding order
abbrev pub numbers_of : List Coded → List ℕ
numbers_of order = map (λ c. c.picture) order

-- the numbers from 0 to the greatest count, each as often as it stands in a list
abbrev pub in_order : List ℕ → List ℕ
in_order numbers = flat_map (λ n. filter (nat_eq n) numbers) (rising (most_count + 1) 0)

-- a picture's references are coded before it; those before it in output order stand first, the
-- nearest first, and then those behind it, the nearest first
abbrev pub refers_well : ℕ → List Coded → Coded → Bool
refers_well count order c =
    list_all (is_among (take (place_in order c.picture) order)) c.references &&
    same_bytes
    (filter (λ other. list_any (nat_eq other) c.references) (falling c.picture) ++
    filter (λ other. list_any (nat_eq other) c.references)
    (rising (count - 1 - c.picture) (c.picture + 1)))
    c.references

unfoldable is_good_order : ℕ → List Coded → Bool
is_good_order count order =
    list_all (λ c. nat_lt c.picture count) order &&
    (are_different (numbers_of order) &&
    (list_all (λ c. nat_lt 0 c.picture) (drop 1 order) &&
    (same_bytes (in_order (numbers_of order)) (rising count 0) &&
    list_all (refers_well count order) order)))

unfoldable is_good_count : ℕ → Bool
is_good_count count =
    list_all (λ levels. is_good_order count (coding count levels)) (rising (most_levels + 1) 0)

first_counts : list_all is_good_count (rising 30 1) ≡ true
unfolding is_good_count is_good_order
first_counts = refl

middle_counts : list_all is_good_count (rising 20 31) ≡ true
unfolding is_good_count is_good_order
middle_counts = refl

last_counts : list_all is_good_count (rising 14 51) ≡ true
unfolding is_good_count is_good_order
last_counts = refl

good_count : (count : ℕ) → 1 ≤ count → count ≤ 64 → is_good_count count ≡ true
good_count count some most = elim (cases_lt count 31) as (λ _. is_good_count count ≡ true) [
  | inl few ↦ in_range is_good_count count 1 30 first_counts some (omega arith)
  | inr more ↦ elim (cases_lt count 51) as (λ _. is_good_count count ≡ true) [
    | inl few ↦ in_range is_good_count count 31 20 middle_counts more (omega arith)
    | inr many ↦ in_range is_good_count count 51 14 last_counts many (omega arith)
  ]
]

pub record IsGood (count : ℕ) (order : List Coded) : Type 0 where
  pub below : list_all (λ c. nat_lt c.picture count) order ≡ true
  pub different : are_different (numbers_of order) ≡ true
  pub later : list_all (λ c. nat_lt 0 c.picture) (drop 1 order) ≡ true
  pub shown : same_bytes (in_order (numbers_of order)) (rising count 0) ≡ true
  pub referring : list_all (refers_well count order) order ≡ true

good_parts : (count : ℕ) (order : List Coded) → is_good_order count order ≡ true →
    IsGood count order
unfolding is_good_order
good_parts count order e =
    let one = and_parts _ _ e in
    let two = and_parts _ _ one.1 in
    let three = and_parts _ _ two.1 in
    let four = and_parts _ _ three.1 in
    record {
      below = one.0;
      different = two.0;
      later = three.0;
      shown = four.0;
      referring = four.1;
    }

pub orders_good : (count levels : ℕ) → 1 ≤ count → count ≤ 64 → levels ≤ most_levels →
    IsGood count (coding count levels)
unfolding is_good_count
orders_good count levels some most few =
    good_parts count (coding count levels)
    (in_range (λ l. is_good_order count (coding count l)) levels 0 (most_levels + 1)
    (good_count count some most) (omega arith) (omega arith))
