-- The first least of several is one of them, costs at most what each costs, and less than each
-- before it. So what is chosen for a node is the first least of what is tried there.
use Rattle.std.proofs.Common.{◌≡◌, ℕ, zero, suc, ◌<◌, ◌≤◌, Bool, true, false, cond, nat_lt, List, [], ◌∷◌, ◌++◌, length, refl, ap, arith}
use Rattle.std.specs.Prelude.{nat_eq, slice_get, Some, is_some}
use Rattle.std.proofs.lemmas.Bool.{false≢true, ltb-true, ltb-false}
use Rattle.std.proofs.lemmas.Bool.Decides.{nat_tests}
use Rattle.std.proofs.lemmas.List.{length-append, length-map}
use Rattle.hv_lemmas.proofs.OptionLemmas.{some_same}
use Rattle.hv_filter_model.specs.Costs.{first_least}
use Rattle.hv_tree_model.specs.Trees.{Prediction, Intra, Tree}
use Rattle.hv_mode_model.specs.ModeDecision.{Given, Before, leaf, luma_mode, inter_at, predictions, cost_of, least_of, chosen, split_of, best}
use Rattle.hv_mode_model.specs.LeastLaws.{IsFirstLeast, units_tried, FirstLeastIsChosen}

-- ---- of any list

module _ {A : Type 0} (f : A → ℕ) where
  -- one more that costs less than the first
  less_behind : (x y : A) (rest : List A) (least : A) → f y < f x →
      IsFirstLeast f (y ∷ rest) least → IsFirstLeast f (x ∷ y ∷ rest) least
  less_behind x y rest least lower is = record {
    number = suc is.number;
    there = is.there;
    least_of_all = all;
    first = before;
  } where
    below : f least ≤ f y
    below = is.least_of_all 0 y refl

    all : (i : ℕ) (other : A) → slice_get (x ∷ y ∷ rest) i ≡ Some other → f least ≤ f other
    all zero other got =
        let same : f x ≡ f other = ap f (some_same x other got) in omega (arith, below, lower, same)
    all (suc i) other got = is.least_of_all i other got

    before : (i : ℕ) (other : A) → i < suc is.number → slice_get (x ∷ y ∷ rest) i ≡ Some other →
        f least < f other
    before zero other early got =
        let same : f x ≡ f other = ap f (some_same x other got) in omega (arith, below, lower, same)
    before (suc i) other early got = is.first i other (omega (arith, early)) got

  -- one more that costs no less
  more_behind : (x y : A) (rest : List A) (least : A) → f x ≤ f y →
      IsFirstLeast f (x ∷ rest) least → IsFirstLeast f (x ∷ y ∷ rest) least
  more_behind x y rest least higher is = by_number is.number is.there is.first
    where
      below : f least ≤ f x
      below = is.least_of_all 0 x refl

      all : (i : ℕ) (other : A) → slice_get (x ∷ y ∷ rest) i ≡ Some other → f least ≤ f other
      all zero other got = is.least_of_all 0 other got
      all (suc zero) other got =
          let same : f y ≡ f other = ap f (some_same y other got) in
          omega (arith, below, higher, same)
      all (suc (suc i)) other got = is.least_of_all (suc i) other got

      by_number : (number : ℕ) → slice_get (x ∷ rest) number ≡ Some least →
          ((i : ℕ) (other : A) → i < number → slice_get (x ∷ rest) i ≡ Some other →
          f least < f other) →
          IsFirstLeast f (x ∷ y ∷ rest) least
      by_number zero there first = record {
        number = 0;
        there = there;
        least_of_all = all;
        first = λ i other early got. absurd (omega (arith, early));
      }
      by_number (suc number) there first = record {
        number = suc (suc number);
        there = there;
        least_of_all = all;
        first = before;
      } where
        before : (i : ℕ) (other : A) → i < suc (suc number) →
            slice_get (x ∷ y ∷ rest) i ≡ Some other → f least < f other
        before zero other early got = first 0 other (omega arith) got
        before (suc zero) other early got =
            let same : f y ≡ f other = ap f (some_same y other got) in
            let lower : f least < f x = first 0 x (omega arith) refl in
            omega (arith, lower, higher, same)
        before (suc (suc i)) other early got = first (suc i) other (omega (arith, early)) got

  pub first_least_is : (x : A) (xs : List A) → IsFirstLeast f (x ∷ xs) (first_least f x xs)
  first_least_is x [] = record {
    number = 0;
    there = refl;
    least_of_all = alone;
    first = λ i other early got. absurd (omega (arith, early));
  } where
    alone : (i : ℕ) (other : A) → slice_get (x ∷ []) i ≡ Some other → f x ≤ f other
    alone zero other got =
        let same : f x ≡ f other = ap f (some_same x other got) in omega (arith, same)
    alone (suc i) other got = absurd (false≢true (ap is_some got))
  first_least_is x (y ∷ rest) =
      by_test (first_least_is x rest) (first_least_is y rest) (nat_lt (f y) (f x)) refl
    where
      by_test : IsFirstLeast f (x ∷ rest) (first_least f x rest) →
          IsFirstLeast f (y ∷ rest) (first_least f y rest) →
          (test : Bool) → nat_lt (f y) (f x) ≡ test →
          IsFirstLeast f (x ∷ y ∷ rest) (first_least f (cond test y x) rest)
      by_test first second true lower =
          less_behind x y rest (first_least f y rest) (ltb-true (f y) (f x) lower) second
      by_test first second false higher =
          more_behind x y rest (first_least f x rest) (ltb-false (f y) (f x) higher) first

-- ---- at a node

module _ (g : Given) (size address : ℕ) (before : Before) where
  least_is : (trees : List Tree) → 0 < length trees →
      IsFirstLeast (cost_of g size address before) trees (least_of g size address before trees)
  least_is [] some = absurd (omega (arith, some))
  least_is (tree ∷ trees) some = first_least_is (cost_of g size address before) tree trees

  some_tried : (splits : List Tree) → 0 < length (units_tried g size address before ++ splits)
  some_tried splits =
      let first : List Prediction = inter_at g size address before 0 in
      let second : List Prediction = inter_at g size address before 1 in
      let own : List Prediction = Intra (luma_mode g size address before) ∷ [] in
      let units : List Tree = units_tried g size address before in
      let whole = length-append units splits in
      let mapped = length-map (predictions g size address before) (leaf g size address before) in
      let one = length-append first (second ++ own) in
      let two = length-append second own in omega (arith, whole, mapped, one, two)

  chosen_is : (splits : List Tree) → 0 < g.effort →
      IsFirstLeast (cost_of g size address before) (units_tried g size address before ++ splits)
      (chosen g size address before splits)
  unfolding chosen
  chosen_is splits tried =
      rw (not_0 g.effort tried)
      (least_is (units_tried g size address before ++ splits) (some_tried splits))
    where
      not_0 : (n : ℕ) → 0 < n → nat_eq n 0 ≡ false
      not_0 zero above = absurd (omega (arith, above))
      not_0 (suc n) above = grind (arith, nat_tests)

pub first_least_chosen : FirstLeastIsChosen
unfolding best
first_least_chosen g zero address before tried inside free =
    rw inside (chosen_is g 0 address before [] tried)
first_least_chosen g (suc size) address before tried inside free =
    rw (inside, free)
    (chosen_is g (suc size) address before (split_of g size address before (best g size) ∷ [])
    tried)
