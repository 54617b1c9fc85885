-- What holds of the structure of each count and number of levels: found by computing all of them.
use Rattle.std.proofs.Common.{◌≡◌, ℕ, ◌+◌, ◌<◌, Bool, true, cond, nat_eq, nat_lt, ◌&&◌, List, [], ◌∷◌, length, map, slice_index_or, refl, ◌-◌, ◌≤◌, arith, inl, inr, eqb-true}
use Rattle.std.specs.Prelude.{◌⊎◌}
use Rattle.std.proofs.lemmas.Bool.{and_parts, cases_lt, ltb-true}
use Rattle.std.specs.List.{list_all}
use Rattle.hv_types.specs.Configuration.{most_levels}
use Rattle.hv_group_model.specs.Structure.{Coded, coded, coding, place_in, falling, rising}
use Rattle.hv_decision.specs.declared.row.Life.{Life}
use Rattle.hv_decision.specs.Sets.{life_in, is_kept_at}
use Rattle.hv_lemmas.proofs.ComputedLemmas.{holds_at}
use Rattle.hv_group_model.proofs.NumberListLemmas.{below_all, in_range}
use Rattle.hv_decision.proofs.ListLemmas.{all-map}

-- how many of these lives are kept at a place
unfoldable pub kept_count : ℕ → List Life → ℕ
kept_count place [] = 0
kept_count place (life ∷ lives) = cond (is_kept_at life place) 1 0 + kept_count place lives

-- a coding order has so many pictures, each of them at some place; no depth is above levels + 1, and
-- at no place are more than levels + 1 pictures kept
unfoldable pub is_sound_order : ℕ → ℕ → List Coded → Bool
is_sound_order count levels order =
    let pictures = falling count in
    let lives = map (life_in order) pictures in
    nat_eq (length order) count
    && (list_all (λ c. nat_lt c.depth (levels + 2)) order
    && (list_all (λ c. nat_lt c.picture count) order
    && (list_all (λ life. nat_lt life.place count) lives
    && list_all (λ place. nat_lt (kept_count place lives) (levels + 2)) pictures)))

unfoldable pub is_sound_count : ℕ → Bool
is_sound_count count =
    list_all (λ levels. is_sound_order count levels (coding count levels)) (rising (most_levels + 1) 0)

low : list_all is_sound_count (rising 40 1) ≡ true
unfolding is_sound_count is_sound_order kept_count
low = refl

high : list_all is_sound_count (rising 24 41) ≡ true
unfolding is_sound_count is_sound_order kept_count
high = refl

-- a test that holds of each count, in two parts, so that neither takes too many steps
pub each_count : (p : ℕ → Bool) (count : ℕ) → list_all p (rising 40 1) ≡ true →
    list_all p (rising 24 41) ≡ true → 1 ≤ count → count ≤ 64 → (count < 41) ⊎ (41 ≤ count) →
    p count ≡ true
each_count p count low high some most (inl few) = in_range p count 1 40 low some (omega arith)
each_count p count low high some most (inr many) = in_range p count 41 24 high many (omega arith)

-- a test that holds of each number of levels
pub each_levels : (p : ℕ → Bool) (levels : ℕ) → list_all p (rising (most_levels + 1) 0) ≡ true → levels ≤ most_levels →
    p levels ≡ true
each_levels p levels all few = in_range p levels 0 (most_levels + 1) all (omega arith) (omega arith)

levels_at : (count levels : ℕ) → is_sound_count count ≡ true → levels ≤ most_levels →
    is_sound_order count levels (coding count levels) ≡ true
unfolding is_sound_count
levels_at count levels all few =
    each_levels (λ l. is_sound_order count l (coding count l)) levels all few

pub record Sound (count levels : ℕ) (order : List Coded) : Type 0 where
  pub long : length order ≡ count
  pub depths : list_all (λ c. nat_lt c.depth (levels + 2)) order ≡ true
  pub pictures : list_all (λ c. nat_lt c.picture count) order ≡ true
  pub places : list_all (λ life. nat_lt life.place count) (map (life_in order) (falling count)) ≡ true
  pub kept_few :
      list_all (λ place. nat_lt (kept_count place (map (life_in order) (falling count))) (levels + 2))
      (falling count) ≡ true

sound_parts : (count levels : ℕ) (order : List Coded) → is_sound_order count levels order ≡ true →
    Sound count levels order
unfolding is_sound_order
sound_parts count levels order e =
    let one = and_parts _ _ e in
    let two = and_parts _ _ one.1 in
    let three = and_parts _ _ two.1 in
    let four = and_parts _ _ three.1 in
    record {
      long = eqb-true _ _ one.0;
      depths = two.0;
      pictures = three.0;
      places = four.0;
      kept_few = four.1;
    }

pub sound : (count levels : ℕ) → 1 ≤ count → count ≤ 64 → levels ≤ most_levels → Sound count levels (coding count levels)
sound count levels some most few =
    sound_parts count levels (coding count levels)
    (levels_at count levels (each_count is_sound_count count low high some most (cases_lt count 41)) few)

-- ---- what follows

pub length-coding : (count levels : ℕ) → 1 ≤ count → count ≤ 64 → levels ≤ most_levels → length (coding count levels) ≡ count
length-coding count levels some most few = (sound count levels some most few).long

lives_below : (p : Life → Bool) (order : List Coded) (n k : ℕ) →
    list_all p (map (life_in order) (falling n)) ≡ true → k < n → p (life_in order k) ≡ true
lives_below p order n k all below =
    below_all (λ j. p (life_in order j)) n k (all-map p (life_in order) (falling n) all) below

pub place_below : (count levels k : ℕ) → 1 ≤ count → count ≤ 64 → levels ≤ most_levels → k < count →
    place_in (coding count levels) k < count
place_below count levels k some most few below =
    ltb-true _ _ (lives_below (λ life. nat_lt life.place count) (coding count levels) count k
    (sound count levels some most few).places below)

pub kept-le : (count levels place : ℕ) → 1 ≤ count → count ≤ 64 → levels ≤ most_levels → place < count →
    kept_count place (map (life_in (coding count levels)) (falling count)) ≤ levels + 1
kept-le count levels place some most few below =
    let test : ℕ → Bool =
    λ p. nat_lt (kept_count p (map (life_in (coding count levels)) (falling count))) (levels + 2) in
    let few' : kept_count place (map (life_in (coding count levels)) (falling count)) < levels + 2 =
    ltb-true _ _ (below_all test count place (sound count levels some most few).kept_few below) in
    omega arith

pub depth-le : (count levels place : ℕ) → 1 ≤ count → count ≤ 64 → levels ≤ most_levels → place < count →
    (slice_index_or (coding count levels) place (coded 0 0 [])).depth ≤ levels + 1
depth-le count levels place some most few below =
    let s = sound count levels some most few in
    let long = s.long in
    let low' : (slice_index_or (coding count levels) place (coded 0 0 [])).depth < levels + 2 =
    ltb-true _ _ (holds_at (λ c. nat_lt c.depth (levels + 2)) (coding count levels) place (coded 0 0 []) s.depths
    (omega (arith, long))) in
    omega arith

pub picture-lt : (count levels place : ℕ) → 1 ≤ count → count ≤ 64 → levels ≤ most_levels → place < count →
    (slice_index_or (coding count levels) place (coded 0 0 [])).picture < count
picture-lt count levels place some most few below =
    let s = sound count levels some most few in
    let long = s.long in
    ltb-true _ _ (holds_at (λ c. nat_lt c.picture count) (coding count levels) place (coded 0 0 []) s.pictures
    (omega (arith, long)))
