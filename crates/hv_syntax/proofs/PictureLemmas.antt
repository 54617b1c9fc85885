-- The blocks around a block, by the blocks of its picture, are as the definitions see them (6.4.1).
use Rattle.std.proofs.Common.{◌≡◌, ℕ, zero, suc, ◌+◌, ◌-◌, ◌/◌, ◌%◌, ◌<◌, ◌≤◌, Bool, true, false, List, [], ◌∷◌, ◌++◌, length, take, map, refl, sym, ap, ◌∙◌, arith}
use Rattle.std.specs.Prelude.{nat_lt, slice_get, Option, Some, None, is_some, option_map}
use Rattle.std.proofs.lemmas.Bool.{false≢true, and_parts, ltb-true}
use Rattle.std.proofs.lemmas.Option.{slice_get-map}
use Rattle.hv_lemmas.proofs.ListLemmas.{length-tabulate, got_before, there_is}
use Rattle.hv_lemmas.proofs.OptionLemmas.{some_same}
use Rattle.hv_plan.specs.declared.prediction.Unit.{Unit}
use Rattle.hv_block.specs.declared.block.Block.{Block}
use Rattle.hv_block.specs.Edges.{address_of as address_in_block}
use Rattle.hv_block.specs.BlockEdges.{edges_of}
use Rattle.hv_block.specs.Around.{edges_at, neighbours_of}
use Rattle.hv_block.proofs.EdgeLemmas.{right_unit, bottom_unit}
use Rattle.hv_block.proofs.AroundLemmas.{left_is_before, above_is_before, above_of_left, above_of_right}
use Rattle.hv_tree_model.specs.Sites.{Site, blocks_over, address_of}
use Rattle.hv_tree_model.specs.Plans.{Plan, IsPlan}
use Rattle.hv_unit_model.specs.PlanLaws.{AreEdges, AreSeen, LieAround, unit_of_plan}
use Rattle.hv_near.specs.Neighbours.{lists_of_plan, unit_edges, around_of}

-- ---- the front of a list

-- and the other way round
pub got_in_front : {A : Type 0} (n : ℕ) (xs : List A) (i : ℕ) (x : A) →
    slice_get (take n xs) i ≡ Some x → (i < n) × (slice_get xs i ≡ Some x)
got_in_front zero xs i x e = absurd (false≢true (ap is_some e))
got_in_front (suc n) [] i x e = absurd (false≢true (ap is_some e))
got_in_front (suc n) (y ∷ xs) zero x e = (omega arith, e)
got_in_front (suc n) (y ∷ xs) (suc i) x e =
    let r = got_in_front n xs i x e in
    let below : i < n = r.0 in
    (omega (arith, below), r.1)

-- those before an element, and it
pub take_with : {A : Type 0} (xs : List A) (i : ℕ) (x : A) → slice_get xs i ≡ Some x →
    take (suc i) xs ≡ take i xs ++ x ∷ []
take_with [] i x e = absurd (false≢true (ap is_some e))
take_with (y ∷ xs) zero x e = ap (λ z. z ∷ []) (some_same y x e)
take_with (y ∷ xs) (suc i) x e = ap (λ list. y ∷ list) (take_with xs i x e)

-- ---- one of the blocks around

same_address : (column row : ℕ) → address_in_block column row ≡ address_of column row
unfolding address_in_block address_of
same_address column row = refl

edges_seen : (plans : List Plan) (index : ℕ) (block : Block) →
    slice_get plans index ≡ Some (lists_of_plan block.plan) →
    IsPlan (lists_of_plan block.plan) →
    AreEdges plans index
    (record { right = (edges_of block).right_units; bottom = (edges_of block).bottom_units })
edges_seen plans index block there whole =
    let units : List Unit = block.plan.units in record {
      right_count = length-tabulate 8 _;
      right = λ row below.
          right_unit units row whole.units below ∙
          ap (λ a. slice_get units a) (same_address 7 row) ∙
          sym (ap (λ p. unit_of_plan p (address_of 7 row)) there);
      bottom_count = length-tabulate 8 _;
      bottom = λ column below.
          bottom_unit units column whole.units below ∙
          ap (λ a. slice_get units a) (same_address column 7) ∙
          sym (ap (λ p. unit_of_plan p (address_of column 7)) there);
    }

-- ---- all four

abbrev pub plans_in : List Block → List Plan
plans_in blocks = map (λ (b : Block). lists_of_plan b.plan) blocks

module _ (blocks : List Block) (here : Site) (some : 0 < blocks_over here.width)
    (within : here.index ≤ length blocks)
    (whole :
    (k : ℕ) (plan : Plan) → k < here.index → slice_get (plans_in blocks) k ≡ Some plan →
    IsPlan plan) where
  abbrev before : List Plan
  before = take here.index (plans_in blocks)

  seen_of : (k : ℕ) (block : Block) → k < here.index → slice_get blocks k ≡ Some block →
      AreEdges before k
      (record { right = (edges_of block).right_units; bottom = (edges_of block).bottom_units })
  seen_of k block early there =
      let got : slice_get (plans_in blocks) k ≡ Some (lists_of_plan block.plan) =
      slice_get-map (λ (b : Block). lists_of_plan b.plan) blocks k ∙
      ap (option_map (λ (b : Block). lists_of_plan b.plan)) there in
      edges_seen before k block (got_before here.index (plans_in blocks) k early ∙ got)
      (whole k (lists_of_plan block.plan) early got)

  seen_from : (k : ℕ) (there : Option Block) → k < here.index → slice_get blocks k ≡ there →
      k < length blocks →
      AreSeen true before k (unit_edges (option_map edges_of there))
  seen_from k None early got inside =
      let b = there_is blocks k inside in
      absurd (false≢true (ap is_some (sym got ∙ b.1)))
  seen_from k (Some block) early got inside = (refl, seen_of k block early got)

  seen : (has_block : Bool) (k : ℕ) → (has_block ≡ true → k < here.index) →
      AreSeen has_block before k (unit_edges (edges_at blocks has_block k))
  seen true k early =
      let sooner : k < here.index = early refl in
      seen_from k (slice_get blocks k) sooner refl (omega (arith, sooner, within))
  seen false k early = refl

  pub lies_around : LieAround here before (around_of (neighbours_of blocks here))
  lies_around =
      let n : ℕ = blocks_over here.width in record {
        left = seen _ (here.index - 1)
            (λ t. let h = left_is_before here.index n t in omega (arith, h));
        above_left = seen _ (here.index - n - 1)
            (λ t. let h = above_of_left here.index n some t in omega (arith, h));
        above = seen _ (here.index - n)
            (λ t. let h = above_is_before here.index n some t in omega (arith, h, some));
        above_right = seen _ (here.index - n + 1)
            (λ t. let h = above_of_right here.index n some t in
            let right = and_parts (nat_lt 0 (here.index / n)) (nat_lt (here.index % n + 1) n) t in
            omega (arith, h, ltb-true _ _ right.1));
      }
