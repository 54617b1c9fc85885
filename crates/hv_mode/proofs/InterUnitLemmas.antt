-- The levels of a transform block that were written among those of a coding tree block.
use Rattle.std.proofs.Common.{◌≡◌, ℕ, ◌+◌, ◌*◌, ◌^◌, ◌≤◌, Bool, List, length, take, sym, ap, subst, ◌∙◌, arith, ℤ}
use Rattle.hv_plan.specs.declared.prediction.Mv.{Mv}
use Rattle.hv_types.specs.Samples.{Plane}
use Rattle.hv_tree_model.specs.Plans.{part}
use Rattle.hv_recon.specs.Coding.{with_levels}
use Rattle.hv_recon.proofs.CodedUnitLemmas.{written}
use Rattle.hv_mode.specs.InterLevels.{inter_levels}

-- they end there
pub ends_so : (grain at address log2 n most : ℕ) → at ≡ address → log2 ≡ n →
    grain * address + 2 ^ n * 2 ^ n ≤ most → grain * at + 2 ^ log2 * 2 ^ log2 ≤ most
ends_so grain at address log2 n most here side ends =
    subst (λ a. grain * a + 2 ^ log2 * 2 ^ log2 ≤ most) (sym here)
    (subst (λ k. grain * address + 2 ^ k * 2 ^ k ≤ most) (sym side) ends)

module _ (input reference : Plane) (log2 n : ℕ) (luma is_luma : Bool) (qp q : ℕ) (mv m : Mv)
    (column x row y : ℕ) (side : log2 ≡ n) (component : luma ≡ is_luma) (quantiser : qp ≡ q)
    (vector : mv ≡ m) (across : column ≡ x) (down : row ≡ y) where
  same : inter_levels log2 luma qp mv column row input reference ≡
      inter_levels n is_luma q m x y input reference
  same =
      λ i. inter_levels (side i) (component i) (quantiser i) (vector i) (across i) (down i) input
      reference

  -- and are those by other names, and those before them are kept
  pub block_chosen : (all new : List ℤ) (grain at address most : ℕ) → at ≡ address →
      new ≡
      with_levels all (grain * at) (inter_levels log2 luma qp mv column row input reference) →
      length (inter_levels log2 luma qp mv column row input reference) ≡ 2 ^ log2 * 2 ^ log2 →
      grain * address + 2 ^ n * 2 ^ n ≤ most → length all ≡ most →
      (part new (grain * address) (2 ^ n * 2 ^ n) ≡
      inter_levels n is_luma q m x y input reference) ×
      (take (grain * address) new ≡ take (grain * address) all)
  block_chosen all new grain at address most here is count ends whole =
      written all (inter_levels log2 luma qp mv column row input reference)
      (inter_levels n is_luma q m x y input reference) new (grain * at) (grain * address)
      (2 ^ n * 2 ^ n) is (ap (λ a. grain * a) here) same
      (ap length (sym same) ∙ count ∙ ap (λ k. 2 ^ k * 2 ^ k) side) (omega (arith, ends, whole))
