-- The first of least score, by the places of a list.
use Rattle.std.proofs.Common.{◌≡◌, ℕ, ◌<◌, ◌≤◌, zero, suc, cond, ◌++◌, ◌∷◌, [], refl, arith, ap, ◌∙◌, ⊎_elim}
use mathlib.Core.Logic.{◌⊎◌, inl, inr}
use Rattle.std.proofs.lemmas.Bool.{cases_lt}
use Rattle.hv_lemmas.specs.Lists.{tabulate}
use Rattle.hv_lemmas.proofs.ListLemmas.{tabulate_push}
use Rattle.hv_lemmas.proofs.ComparisonLemmas.{lt_below, lt_not_below}
use Rattle.hv_filter_model.specs.Costs.{first_least, cheaper}
use Rattle.hv_filter_model.proofs.CostLemmas.{first_least_push}
use Rattle.hv_search.specs.Nodes.{IsFirstLeast}

-- there is one such place at most
same_place : (score : ℕ → ℕ) (n i k : ℕ) → IsFirstLeast score n i → IsFirstLeast score n k → i ≡ k
same_place score n i k first other = by_order (cases_lt i k)
  where
    by_order : (i < k) ⊎ (k ≤ i) → i ≡ k
    by_order (inl less) = absurd (omega (arith, other.2 i less, first.1 k other.0))
    by_order (inr more) = by_rest (cases_lt k i)
      where
        by_rest : (k < i) ⊎ (i ≤ k) → i ≡ k
        by_rest (inl less) = absurd (omega (arith, first.2 k less, other.1 i first.0))
        by_rest (inr equal) = omega (arith, more, equal)

-- the place of the first least of a value and others
record Chosen {A : Type 0} (f : A → ℕ) (g : ℕ → A) (n : ℕ) (a : A) : Type 0 where
  place : ℕ
  is : a ≡ g place
  first : IsFirstLeast (λ i. f (g i)) (suc n) place

chosen_more : {A : Type 0} (f : A → ℕ) (g : ℕ → A) (n : ℕ) (a : A) → Chosen f g n a →
    Chosen f g (suc n) (cheaper f a (g (suc n)))
chosen_more {A} f g n a c = by_score (cases_lt (f (g (suc n))) (f a))
  where
    of : f a ≡ f (g c.place)
    of = ap f c.is

    by_score : (f (g (suc n)) < f a) ⊎ (f a ≤ f (g (suc n))) → Chosen f g (suc n) (cheaper f a (g (suc n)))
    by_score (inl less) = record {
      place = suc n;
      is = ap (λ b. cond b (g (suc n)) a) (lt_below (f (g (suc n))) (f a) less);
      first = (
        omega arith,
        (λ j below. ⊎_elim (λ before. omega (arith, less, of, c.first.1 j before))
            (λ last. let e : suc n ≡ j = omega arith in omega (arith, ap (λ k. f (g k)) e))
            (cases_lt j (suc n))),
        (λ j before. omega (arith, less, of, c.first.1 j before)),
      );
    }
    by_score (inr more) = record {
      place = c.place;
      is = ap (λ b. cond b (g (suc n)) a) (lt_not_below (f (g (suc n))) (f a) more) ∙ c.is;
      first = (
        omega (arith, c.first.0),
        (λ j below. ⊎_elim (λ before. c.first.1 j before)
            (λ last. let e : suc n ≡ j = omega arith in omega (arith, ap (λ k. f (g k)) e, more, of))
            (cases_lt j (suc n))),
        c.first.2,
      );
    }

chosen : {A : Type 0} (f : A → ℕ) (g : ℕ → A) (n : ℕ) →
    Chosen f g n (first_least f (g 0) (tabulate n (λ i. g (suc i))))
unfolding tabulate
chosen {A} f g zero = record {
  place = 0;
  is = refl;
  first = (
    omega arith,
    (λ j below. let e : 0 ≡ j = omega arith in omega (arith, ap (λ k. f (g k)) e)),
    (λ j below. absurd (omega arith)),
  );
}
chosen {A} f g (suc n) =
    let pushed : tabulate (suc n) (λ i. g (suc i)) ≡ tabulate n (λ i. g (suc i)) ++ g (suc n) ∷ [] =
    tabulate_push n (λ i. g (suc i)) in
    let is : first_least f (g 0) (tabulate (suc n) (λ i. g (suc i))) ≡ cheaper f (first_least f (g 0) (tabulate n (λ i. g (suc i)))) (g (suc n)) =
    ap (first_least f (g 0)) pushed ∙ first_least_push f (g 0) (tabulate n (λ i. g (suc i))) (g (suc n)) in
    let more = chosen_more f g n (first_least f (g 0) (tabulate n (λ i. g (suc i)))) (chosen f g n) in
    record { place = more.place; is = is ∙ more.is; first = more.first }

-- of a value and those of the next places
pub first_least_at : {A : Type 0} (f : A → ℕ) (g : ℕ → A) (n k : ℕ) →
    IsFirstLeast (λ i. f (g i)) (suc n) k →
    first_least f (g 0) (tabulate n (λ i. g (suc i))) ≡ g k
first_least_at f g n k first =
    let c = chosen f g n in
    c.is ∙ ap g (same_place (λ i. f (g i)) (suc n) c.place k c.first first)

-- by another score that agrees
pub first_least_agrees : (f g : ℕ → ℕ) (n k : ℕ) → ((i : ℕ) → i < n → f i ≡ g i) →
    IsFirstLeast f n k → IsFirstLeast g n k
first_least_agrees f g n k same first = (
  first.0,
  (λ j below. omega (arith, first.1 j below, same j below, same k first.0)),
  (λ j before. omega (arith, first.2 j before, same j (omega (arith, before, first.0)), same k first.0)),
)
