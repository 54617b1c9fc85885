-- Choices of offsets, block by block.
use Rattle.std.proofs.Common.{◌≡◌, ℕ, zero, suc, ◌+◌, ◌<◌, List, length, set, take, inl, inr, refl, sym, ◌∙◌, ap, subst, arith, length-set}
use Rattle.std.specs.Prelude.{All}
use Rattle.std.proofs.lemmas.Bool.{cases_lt}
use Rattle.std.proofs.lemmas.List.{take_all}
use Rattle.hv_lemmas.specs.Lists.{tabulate}
use Rattle.hv_lemmas.proofs.ListLemmas.{length-tabulate, get_or-tabulate}
use Rattle.hv_types.specs.declared.picture.Picture.{Picture}
use Rattle.hv_plan.specs.declared.offsets.SaoParam.{SaoParam}
use Rattle.hv_block.proofs.EdgeLemmas.{tabulate-filled}
use Rattle.hv_filter_model.specs.SampleAdaptiveOffset.{IsValidParam}
use Rattle.hv_filter_model.specs.OffsetDecision.{chosen_offsets, block_offsets, place_in}

pub some_effort : (effort qp number : ℕ) (deblocked input : Picture) → 0 < effort →
    chosen_offsets deblocked input (place_in deblocked number) qp ≡
    block_offsets effort qp deblocked input number
some_effort zero qp number deblocked input some = absurd (omega (arith, some))
some_effort (suc effort) qp number deblocked input some = refl

-- the first n of so many choices are these, and valid
pub record AreChosenTo (n count : ℕ) (f : ℕ → SaoParam) (sao : List SaoParam) : Type 0 where
  pub long : length sao ≡ count
  pub values : take n sao ≡ tabulate n f
  pub valid : (i : ℕ) → i < n → IsValidParam (f i)

pub none_chosen : (n count : ℕ) (f : ℕ → SaoParam) (sao : List SaoParam) → n ≡ 0 →
    length sao ≡ count → AreChosenTo n count f sao
unfolding tabulate
none_chosen zero count f sao none long =
    record { long = long; values = refl; valid = λ i below. absurd (omega (arith, below)) }
none_chosen (suc n) count f sao none long = absurd (omega (arith, none))

pub chosen_more : (n count : ℕ) (f : ℕ → SaoParam) (sao : List SaoParam) (choice : SaoParam) →
    n < count → choice ≡ f n → IsValidParam choice → AreChosenTo n count f sao →
    AreChosenTo (n + 1) count f (set sao n choice)
chosen_more n count f sao choice below is valid h = record {
  long = length-set sao n choice ∙ h.long;
  values = tabulate-filled f sao n choice (omega (arith, below, h.long)) h.values is;
  valid = λ i before. elim (cases_lt i n) [
    | inl early ↦ h.valid i early
    | inr here ↦
        let same : n ≡ i = omega (arith, here, before) in
        subst (λ k. IsValidParam (f k)) same (subst IsValidParam is valid)
  ];
}

pub all_chosen : (n count : ℕ) (f : ℕ → SaoParam) (sao : List SaoParam) → n ≡ count →
    AreChosenTo n count f sao → sao ≡ tabulate count f
all_chosen n count f sao all h =
    sym (take_all n sao (omega (arith, all, h.long))) ∙ h.values
    ∙ ap (λ k. tabulate k f) all

pub all_valid : (n count : ℕ) (f : ℕ → SaoParam) (sao : List SaoParam) → n ≡ count →
    AreChosenTo n count f sao → All IsValidParam sao
all_valid n count f sao all h =
    subst (All IsValidParam) (sym (all_chosen n count f sao all h))
    (λ k d below.
    let inside : k < count = omega (arith, below, length-tabulate count f) in
    subst IsValidParam (sym (get_or-tabulate count k f d inside))
    (h.valid k (omega (arith, inside, all))))
