-- The counts of the pictures that name one: place by place in coding order, for `all_live` and `finished`. And when all
-- references of a picture are filtered, for `ready`.
use Rattle.std.proofs.Common.{◌≡◌, ℕ, zero, suc, ◌+◌, ◌<◌, ◌≤◌, ◌∙◌, sym, ap, refl, Bool, true, false, Option, List, [], ◌∷◌, length, take, drop, replicate, slice_index_or, arith}
use Rattle.std.specs.Prelude.{All, count_by, slice_get, slice_index}
use Rattle.std.proofs.lemmas.Bool.{both_ways}
use Rattle.std.proofs.lemmas.List.{get_or-replicate, length-drop, length-replicate, length-take, take_all}
use Rattle.std.proofs.lemmas.List.Elements.{All-from_get_or}
use Rattle.std.proofs.lemmas.List.Sums.{count_by-le-length, sum_by_more, sum_by-drop_more}
use Rattle.hv_group_model.specs.Structure.{Coded, coded, coding, picture_at}
use Rattle.hv_decision.specs.Structure.{Structure, IsStructure}
use Rattle.hv_manager.specs.Progress.{AreCounts, coded_at, filtered_or_none, names, one_where, one_at}
use Rattle.hv_manager.proofs.StructureLemmas.{coded-picture_at, length-order, one_at-le, two_references}

-- ---- upwards

-- these are the counts of the pictures that are named before a place in coding order
pub record AreCountsBefore (s : Structure) (place : ℕ) (live : List ℕ) : Type 0 where
  pub long : length live ≡ s.count
  pub each : (k : ℕ) → k < s.count →
      slice_index live k ≡ count_by (λ c. names c k) (take place (coding s.count s.levels))

pub counted_none : (s : Structure) (live : List ℕ) → live ≡ replicate s.count 0 → AreCountsBefore s 0 live
counted_none s live is = record {
  long = ap length is ∙ length-replicate s.count 0;
  each = λ k below. ap (λ xs. slice_index xs k) is ∙ get_or-replicate s.count k 0 0 below;
}

pub counted_more : (s : Structure) (place picture : ℕ) (old new : List ℕ) → IsStructure s → place < s.count →
    picture ≡ picture_at s.count s.levels place → AreCountsBefore s place old → length new ≡ s.count →
    ((k : ℕ) → k < s.count →
    slice_index new k ≡ slice_index old k + one_where (names (coded_at s.count s.levels picture) k)) →
    AreCountsBefore s (place + 1) new
counted_more s place picture old new is below at before long added = record {
  long = long;
  each = λ k inside.
      let order : List Coded = coding s.count s.levels in
      let here : coded_at s.count s.levels picture ≡ slice_index_or order place (coded 0 0 []) =
      ap (coded_at s.count s.levels) at ∙ coded-picture_at s place is below in
      let one : one_where (names (coded_at s.count s.levels picture) k) ≡
      one_where (names (slice_index_or order place (coded 0 0 [])) k) = ap (λ c. one_where (names c k)) here in
      let more : count_by (λ c. names c k) (take (place + 1) order) ≡
      count_by (λ c. names c k) (take place order) + one_where (names (slice_index_or order place (coded 0 0 [])) k) =
      sum_by_more (λ c. one_where (names c k)) order place (coded 0 0 []) (omega (arith, length-order s is)) in
      omega (arith, added k inside, before.each k inside, one, more);
}

pub counted_small : (s : Structure) (place : ℕ) (live : List ℕ) → place ≤ 64 → AreCountsBefore s place live →
    All (λ n. n ≤ 64) live
counted_small s place live few before =
    All-from_get_or (λ n. n ≤ 64) live 0
    (λ k below.
    let taken : List Coded = take place (coding s.count s.levels) in
    omega (
      arith,
      before.each k (omega (arith, before.long)),
      count_by-le-length (λ c. names c k) taken,
      length-take place (coding s.count s.levels),
    ))

pub counted_all : (s : Structure) (place : ℕ) (live : List ℕ) → IsStructure s → place ≡ s.count →
    AreCountsBefore s place live → AreCounts s.count s.levels 0 live
counted_all s place live is end before = record {
  long = before.long;
  each = λ k below. before.each k below
      ∙ ap (count_by (λ c. names c k))
      (take_all place (coding s.count s.levels) (omega (arith, length-order s is)));
}

-- ---- downwards

pub counted_first : (s : Structure) (place picture : ℕ) (live : List ℕ) (k : ℕ) → IsStructure s → place < s.count →
    picture ≡ picture_at s.count s.levels place → AreCounts s.count s.levels place live → k < s.count →
    slice_index live k ≡
    one_where (names (coded_at s.count s.levels picture) k)
    + count_by (λ c. names c k) (drop (place + 1) (coding s.count s.levels))
counted_first s place picture live k is below at counts inside =
    let order : List Coded = coding s.count s.levels in
    let here : coded_at s.count s.levels picture ≡ slice_index_or order place (coded 0 0 []) =
    ap (coded_at s.count s.levels) at ∙ coded-picture_at s place is below in
    let one : one_where (names (coded_at s.count s.levels picture) k) ≡
    one_where (names (slice_index_or order place (coded 0 0 [])) k) = ap (λ c. one_where (names c k)) here in
    let less : count_by (λ c. names c k) (drop place order) ≡
    one_where (names (slice_index_or order place (coded 0 0 [])) k) + count_by (λ c. names c k) (drop (place + 1) order) =
    sum_by-drop_more (λ c. one_where (names c k)) order place (coded 0 0 []) (omega (arith, length-order s is)) in
    omega (arith, counts.each k inside, one, less)

pub counted_held : (s : Structure) (place picture : ℕ) (live : List ℕ) (k : ℕ) → IsStructure s → place < s.count →
    picture ≡ picture_at s.count s.levels place → AreCounts s.count s.levels place live → k < s.count →
    one_where (names (coded_at s.count s.levels picture) k) ≤ slice_index live k
counted_held s place picture live k is below at counts inside =
    omega (arith, counted_first s place picture live k is below at counts inside)

pub counted_less : (s : Structure) (place picture : ℕ) (old new : List ℕ) → IsStructure s → place < s.count →
    picture ≡ picture_at s.count s.levels place → AreCounts s.count s.levels place old → length new ≡ s.count →
    ((k : ℕ) → k < s.count →
    slice_index old k ≡ one_where (names (coded_at s.count s.levels picture) k) + slice_index new k) →
    AreCounts s.count s.levels (place + 1) new
counted_less s place picture old new is below at counts long taken = record {
  long = long;
  each = λ k inside. omega (arith, taken k inside, counted_first s place picture old k is below at counts inside);
}

pub counted_most : (s : Structure) (place : ℕ) (live : List ℕ) (k : ℕ) → IsStructure s →
    AreCounts s.count s.levels place live → k < s.count → slice_index live k ≤ s.count
counted_most s place live k is counts inside =
    let rest : List Coded = drop place (coding s.count s.levels) in
    omega (
      arith,
      counts.each k inside,
      count_by-le-length (λ c. names c k) rest,
      length-drop place (coding s.count s.levels),
      length-order s is,
    )

-- ---- one at a time

-- a number that grows by one at most
pub small_more : (m : ℕ) (picture : Option ℕ) (old new : List ℕ) → length new ≡ length old →
    ((k : ℕ) → k < length old → slice_index new k ≡ slice_index old k + one_at picture k) →
    All (λ n. n ≤ m) old → All (λ n. n ≤ m + 1) new
small_more m picture old new long added small =
    All-from_get_or (λ n. n ≤ m + 1) new 0
    (λ k below. omega (
      arith,
      added k (omega (arith, long)),
      small k 0 (omega (arith, long)),
      one_at-le picture k,
    ))

pub small_enough : (m : ℕ) (xs : List ℕ) → m < 255 → All (λ n. n ≤ m) xs → All (λ n. n < 255) xs
small_enough m xs few small k d below = omega (arith, small k d below)

-- ---- ready

pub ready_from : (f : List Bool) (references : List ℕ) → length references ≤ 2 →
    filtered_or_none f (slice_get references 0) ≡ true → filtered_or_none f (slice_get references 1) ≡ true →
    All (λ r. slice_index_or f r false ≡ true) references
ready_from f [] few first second k d below = absurd (omega arith)
ready_from f (a ∷ []) few first second zero d below = first
ready_from f (a ∷ []) few first second (suc k) d below = absurd (omega arith)
ready_from f (a ∷ b ∷ []) few first second zero d below = first
ready_from f (a ∷ b ∷ []) few first second (suc zero) d below = second
ready_from f (a ∷ b ∷ []) few first second (suc (suc k)) d below = absurd (omega arith)
ready_from f (a ∷ b ∷ c ∷ rest) few first second k d below = absurd (omega arith)

pub ready_first : (f : List Bool) (references : List ℕ) → All (λ r. slice_index_or f r false ≡ true) references →
    filtered_or_none f (slice_get references 0) ≡ true
ready_first f [] all = refl
ready_first f (a ∷ rest) all = all 0 0 (omega arith)

pub ready_second : (f : List Bool) (references : List ℕ) → All (λ r. slice_index_or f r false ≡ true) references →
    filtered_or_none f (slice_get references 1) ≡ true
ready_second f [] all = refl
ready_second f (a ∷ []) all = refl
ready_second f (a ∷ b ∷ rest) all = all 1 0 (omega arith)

-- .. as the code asks: the first one, and where that is filtered the second one
pub ready_then : (s : Structure) (filtered read again : List Bool) (k : ℕ) (first second : Option ℕ) (answer : Bool) →
    IsStructure s → k < s.count → read ≡ filtered → again ≡ filtered →
    first ≡ slice_get (coded_at s.count s.levels k).references 0 →
    second ≡ slice_get (coded_at s.count s.levels k).references 1 →
    filtered_or_none read first ≡ true → answer ≡ filtered_or_none again second →
    (answer ≡ true → All (λ r. slice_index_or filtered r false ≡ true) (coded_at s.count s.levels k).references)
    × (All (λ r. slice_index_or filtered r false ≡ true) (coded_at s.count s.levels k).references → answer ≡ true)
ready_then s filtered read again k first second answer is below e e' f g there is_answer = (forth, back)
  where
    references : List ℕ
    references = (coded_at s.count s.levels k).references

    same : answer ≡ filtered_or_none filtered (slice_get references 1)
    same = is_answer ∙ ap (λ xs. filtered_or_none xs second) e' ∙ ap (filtered_or_none filtered) g

    forth : answer ≡ true → All (λ r. slice_index_or filtered r false ≡ true) references
    forth yes' = ready_from filtered references (two_references s k is below)
        (sym (ap (λ xs. filtered_or_none xs first) e ∙ ap (filtered_or_none filtered) f) ∙ there) (sym same ∙ yes')

    back : All (λ r. slice_index_or filtered r false ≡ true) references → answer ≡ true
    back all = same ∙ ready_second filtered references all

pub ready_else : (s : Structure) (filtered read : List Bool) (k : ℕ) (first : Option ℕ) (answer : Bool) →
    read ≡ filtered → first ≡ slice_get (coded_at s.count s.levels k).references 0 →
    answer ≡ false → answer ≡ filtered_or_none read first →
    (answer ≡ true → All (λ r. slice_index_or filtered r false ≡ true) (coded_at s.count s.levels k).references)
    × (All (λ r. slice_index_or filtered r false ≡ true) (coded_at s.count s.levels k).references → answer ≡ true)
ready_else s filtered read k first answer e f not_there is_answer =
    let references : List ℕ = (coded_at s.count s.levels k).references in
    let same : answer ≡ filtered_or_none filtered (slice_get references 0) =
    is_answer ∙ ap (λ xs. filtered_or_none xs first) e ∙ ap (filtered_or_none filtered) f in
    (λ yes'. absurd (both_ways answer not_there yes'), λ all. same ∙ ready_first filtered references all)

-- a reference is one of the pictures that are filtered or not
pub reference_there : (s : Structure) (filtered read : List Bool) (x : ℕ) → length filtered ≡ s.count →
    read ≡ filtered → x < s.count → x < length read
reference_there s filtered read x long e below = omega (arith, ap length e)
