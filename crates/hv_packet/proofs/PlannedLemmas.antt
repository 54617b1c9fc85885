-- The bins of the blocks of a picture by their plans, one block after another.
use Rattle.std.proofs.Common.{◌≡◌, ℕ, zero, suc, ◌+◌, ◌-◌, ◌*◌, ◌<◌, ◌≤◌, Bool, List, [], ◌∷◌, ◌++◌, length, take, drop, refl, sym, ap, ap₂, ◌∙◌, subst, arith, inl, inr}
use Rattle.std.specs.Prelude.{◌⊎◌, nat_eq, slice_get, Some, is_some}
use Rattle.std.proofs.lemmas.Bool.{false≢true, cases_lt}
use Rattle.std.proofs.lemmas.List.{length-take-le}
use Rattle.std.proofs.lemmas.Option.{slice_get_within}
use Rattle.hv_lemmas.proofs.OptionLemmas.{some_same}
use Rattle.hv_tables.specs.declared.bins.SliceKind.{SliceKind}
use Rattle.hv_tables.specs.Bins.{Bin}
use Rattle.hv_plan.specs.declared.offsets.SaoParam.{SaoParam}
use Rattle.hv_tree_model.specs.Trees.{CodingTreeUnit, greatest_size}
use Rattle.hv_tree_model.specs.Sites.{Site, site, sites, sites_from, blocks_over}
use Rattle.hv_tree_model.specs.EarlierUnits.{Square, squares_of, in_picture}
use Rattle.hv_tree_model.specs.Validity.{is_empty}
use Rattle.hv_unit_model.specs.Bins.{bins, slice_bins, slice_bins_from}
use Rattle.hv_tree_model.specs.Plans.{Plan, IsPlan, tree_of}
use Rattle.hv_unit_model.specs.PlanLaws.{squares_of_plans, squares_before}
use Rattle.hv_unit_model.proofs.AroundLemmas.{plans_are_appended}
use Rattle.hv_slice_model.specs.PlannedUnits.{planned_units}
use Rattle.hv_syntax.proofs.PictureLemmas.{take_with}
use Rattle.hv_packet.specs.BlockPlans.{AreWhole}
use Rattle.hv_packet.proofs.SliceBinLemmas.{ends, last_of_count}

-- ---- lists

-- an element, and those behind it
drop_from : {A : Type 0} (xs : List A) (i : ℕ) (x : A) → slice_get xs i ≡ Some x →
    drop i xs ≡ x ∷ drop (suc i) xs
drop_from [] i x e = absurd (false≢true (ap is_some e))
drop_from (y ∷ xs) zero x e = ap (λ z. z ∷ xs) (some_same y x e)
drop_from (y ∷ xs) (suc i) x e = drop_from xs i x e

-- ---- one plan more is whole

pub one_more_whole : (index : ℕ) (plans : List Plan) (plan : Plan) → AreWhole index plans →
    slice_get plans index ≡ Some plan → IsPlan plan → AreWhole (index + 1) plans
one_more_whole index plans plan before there whole i other below got =
    by_place (cases_lt i index) where
      by_place : (i < index) ⊎ (index ≤ i) → IsPlan other
      by_place (inl earlier) = before i other earlier got
      by_place (inr same) =
          let here : i ≡ index = omega (arith, same, below) in
          subst IsPlan
          (some_same plan other (sym there ∙ ap (λ k. slice_get plans k) (sym here) ∙ got)) whole

-- ---- the blocks from one on

module _ (kind : SliceKind) (references width height : ℕ) (plans : List Plan)
    (offsets : List SaoParam) where
  -- so many of them
  abbrev pub bins_from : ℕ → ℕ → List Bin
  bins_from left index =
      slice_bins_from kind references (squares_of_plans width height 0 (take index plans))
      (sites_from left width height index)
      (planned_units (sites_from left width height index) (drop index plans) (drop index offsets))

  abbrev pub bins_at : ℕ → Plan → SaoParam → Bool → List Bin
  bins_at index plan sao last =
      bins (in_picture kind references (site width height index)
      (squares_before (site width height index) (take index plans)))
      (record {
        sao = sao;
        tree = tree_of (site width height index) plan;
        end_of_slice_segment_flag = last;
      })

  pub planned_first : (total index : ℕ) (plan : Plan) (sao : SaoParam) → index < total →
      slice_get plans index ≡ Some plan → slice_get offsets index ≡ Some sao →
      bins_from (total - index) index ≡
      bins_at index plan sao (nat_eq (index + 1) total) ++
      bins_from (total - (index + 1)) (index + 1)
  planned_first total index plan sao below there offered =
      let here : Site = site width height index in
      let left : ℕ = total - (index + 1) in
      let count : total - index ≡ suc left = omega (arith, below) in
      let more : suc index ≡ index + 1 = omega arith in
      let behind : drop index plans ≡ plan ∷ drop (index + 1) plans =
      drop_from plans index plan there ∙ ap (λ n. plan ∷ drop n plans) more in
      let offsets_behind : drop index offsets ≡ sao ∷ drop (index + 1) offsets =
      drop_from offsets index sao offered ∙ ap (λ n. sao ∷ drop n offsets) more in
      let others : List Site = sites_from left width height (index + 1) in
      let last : is_empty others ≡ nat_eq (index + 1) total =
      last_of_count left width height (index + 1) ∙
      ends left (index + 1) total refl (omega (arith, below)) in
      let within : index < length plans = slice_get_within plans index plan there in
      let long : length (take index plans) ≡ index =
      length-take-le index plans (omega (arith, within)) in
      let squares : squares_of_plans width height 0 (take index plans) ++
      squares_of greatest_size (tree_of here plan) ≡
      squares_of_plans width height 0 (take (index + 1) plans) =
      sym (plans_are_appended here (take index plans) plan long) ∙
      ap (λ list. squares_of_plans width height 0 list) (sym (take_with plans index plan there)) ∙
      ap (λ n. squares_of_plans width height 0 (take n plans)) more in
      let unit : Bool → CodingTreeUnit = λ flag. record {
        sao = sao;
        tree = tree_of here plan;
        end_of_slice_segment_flag = flag;
      } in
      let before : List Square = squares_of_plans width height 0 (take index plans) in
      rw (count, behind, offsets_behind)
      (ap₂ (λ first (done : List Square). first ++ slice_bins_from kind references done others
      (planned_units others (drop (index + 1) plans) (drop (index + 1) offsets)))
      (ap (λ flag. bins (in_picture kind references here before) (unit flag)) last) squares)

  pub planned_all : (total : ℕ) → total ≡ blocks_over width * blocks_over height →
      bins_from total 0 ≡
      slice_bins kind references (sites width height)
      (planned_units (sites width height) plans offsets)
  unfolding sites
  planned_all total e = rw e refl

  pub planned_none : (left index : ℕ) → left ≡ 0 → bins_from left index ≡ []
  planned_none left index e = rw e refl
