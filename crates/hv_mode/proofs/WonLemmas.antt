-- Of a node that is tried as a unit and split, the first of least cost is decided, or none of them
-- costs less than a limit.
use Rattle.std.proofs.Common.{◌≡◌, ℕ, zero, suc, ◌<◌, ◌≤◌, Bool, true, false, cond, refl, sym, ap, subst, ◌∙◌, arith}
use Rattle.std.specs.Prelude.{nat_lt, Option, Some, None, is_some}
use Rattle.hv_block.specs.declared.block.Block.{Block}
use Rattle.hv_tree_model.specs.Trees.{Tree}
use Rattle.hv_recon.specs.DecodedNodes.{IsNodeOfBlock}
use Rattle.hv_filter_model.specs.Costs.{cheaper}
use Rattle.hv_mode_model.specs.ModeDecision.{Before, cost_of, least_of}
use Rattle.hv_mode.specs.declared.task.Task.{Task}
use Rattle.hv_mode.specs.Nodes.{given_of, Stands, SameBefore, Decides, CopiesNode}
use Rattle.hv_mode.specs.SplitNodes.{split_choice, unit_choices, tried_choice}
use Rattle.hv_mode.specs.WaitingNodes.{Tried, more_trees, least_tried, Costs, Waits}
use Rattle.hv_mode.specs.Limits.{CostsAtLeast, IsBelow, GivenUp, DecidesBelow}
use Rattle.hv_mode.proofs.CandidateLemmas.{least_has_no_split, and_the_split}
use Rattle.hv_mode.proofs.LimitLemmas.{below_since}
use Rattle.hv_mode.proofs.TriedLemmas.{decides_as, waiting_decides, cheaper_than, more_is_least, first_is_least}

-- both cost as much, and so does the cheaper one
both_at_least : (f : Tree → ℕ) (first second : Tree) (limit : ℕ) → limit ≤ f first →
    limit ≤ f second → limit ≤ f (cheaper f first second)
both_at_least f first second limit one two = by (nat_lt (f second) (f first))
  where
    by : (test : Bool) → limit ≤ f (cond test second first)
    by true = two
    by false = one

-- a split costs at least so much, where there is one
abbrev pub SplitsCost : Task → ℕ → ℕ → Block → ℕ → Type 0
SplitsCost t size address old limit =
    0 < size → CostsAtLeast t size address (split_choice t size address) old limit

-- so none was taken
pub record NoSplit (t : Task) (size address : ℕ) (old : Block) (limit : ℕ) (new : Block) :
    Type 0 where
  pub kept : SameBefore address old new
  pub splits : SplitsCost t size address old limit

module _ (t : Task) (size address : ℕ) (old waiting : Block) (least : ℕ)
    (waits : Waits t size address (unit_choices t size address) old waiting least) where
  abbrev units : Tried
  units = unit_choices t size address

  abbrev unit : Before → Tree
  unit = least_tried t size address units

  abbrev split : Before → Tree
  split = split_choice t size address

  abbrev tried : Before → Tree
  tried = tried_choice t size address

  -- ---- the one that is chosen

  then_split : (before : Before) → 0 < size →
      least_tried t size address (more_trees units split) before ≡ tried before
  then_split before above =
      ap (least_of (given_of t) size address before) (and_the_split t size address before above)

  chosen_split : 0 < size → (cost : ℕ) → Costs t size address split old cost → cost < least →
      (before : Before) → Stands t old address before → split before ≡ tried before
  chosen_split above cost costs less before here =
      more_is_least t size address units split old waiting least waits cost costs less before here ∙
      then_split before above

  chosen_unit : SplitsCost t size address old least → (before : Before) →
      Stands t old address before → unit before ≡ tried before
  chosen_unit splits before here = by size refl
    where
      by : (n : ℕ) → n ≡ size → unit before ≡ tried before
      by zero is =
          ap (least_of (given_of t) size address before)
          (least_has_no_split t size address before (sym is))
      by (suc n) is =
          let above : 0 < size = omega (arith, is) in
          first_is_least t size address units split old waiting least waits (splits above) before
          here ∙
          then_split before above

  all_at_least : (limit : ℕ) → limit ≤ least → SplitsCost t size address old limit →
      CostsAtLeast t size address tried old limit
  all_at_least limit more splits before here = by size refl
    where
      f : Tree → ℕ
      f = cost_of (given_of t) size address before

      one : limit ≤ f (unit before)
      one = let costs = waits.costs before here in omega (arith, costs, more)

      by : (n : ℕ) → n ≡ size → limit ≤ f (tried before)
      by zero is =
          subst (λ tree. limit ≤ f tree)
          (ap (least_of (given_of t) size address before)
          (least_has_no_split t size address before (sym is))) one
      by (suc n) is =
          let above : 0 < size = omega (arith, is) in
          subst (λ tree. limit ≤ f tree)
          (sym (cheaper_than t size address units split old waiting least waits before here) ∙
          then_split before above)
          (both_at_least f (unit before) (split before) limit one (splits above before here))

  -- ---- what is decided

  split_wins : (limit : ℕ) (new : Block) (cost : ℕ) → 0 < size → cost < limit →
      IsBelow t size address split least old new cost →
      IsBelow t size address tried limit old new cost
  split_wins limit new cost above less below =
      let same = chosen_split above cost below.costs below.less in record {
        decided = decides_as t size address split tried old new same below.decided;
        costs = λ before here.
            below.costs before here ∙
            ap (cost_of (given_of t) size address before) (same before here);
        less = less;
      }

  module _ (mid new : Block) (kept : SameBefore address old mid) (above : 0 < size)
      (limit : ℕ) (result : Option ℕ)
      (splits : DecidesBelow t size address split limit mid new result) where
    since : DecidesBelow t size address split limit old new result
    since = below_since t size address split limit old mid new result kept splits

    -- the split, below every limit that is more
    pub split_decided : is_some result ≡ true → limit ≤ least → (most : ℕ) → limit ≤ most →
        DecidesBelow t size address tried most old new result
    split_decided is less most more = by result is since
      where
        by : (r : Option ℕ) → is_some r ≡ true →
            DecidesBelow t size address split limit old new r →
            DecidesBelow t size address tried most old new r
        by None none up = absurd cc
        by (Some cost) some below =
            let low = below.less in
            split_wins most new cost above (omega (arith, low, more)) (record {
              decided = below.decided;
              costs = below.costs;
              less = omega (arith, low, less);
            })

    -- or none that costs less
    pub split_given_up : is_some result ≡ false → (less : ℕ) → less ≤ limit →
        NoSplit t size address old less new
    split_given_up is less more = by result is since
      where
        by : (r : Option ℕ) → is_some r ≡ false →
            DecidesBelow t size address split limit old new r →
            NoSplit t size address old less new
        by None none up = record {
          kept = up.kept;
          splits = λ above before here.
              let most = up.more before here in omega (arith, most, more);
        }
        by (Some cost) some below = absurd cc

  pub nothing_split : (limit : ℕ) (mid : Block) → size ≡ 0 → SameBefore address old mid →
      NoSplit t size address old limit mid
  nothing_split limit mid smallest kept =
      record { kept = kept; splits = λ above. absurd (omega (arith, above, smallest)) }

  -- then one unit
  pub unit_decided : (mid new : Block) → IsNodeOfBlock size address →
      NoSplit t size address old least mid → CopiesNode size address waiting mid new →
      Decides t size address tried old new
  unit_decided mid new node none back =
      decides_as t size address unit tried old new (chosen_unit none.splits)
      (waiting_decides t size address units old waiting mid new least node waits none.kept back)

  pub unit_below : (limit : ℕ) (mid new : Block) → IsNodeOfBlock size address → least < limit →
      NoSplit t size address old least mid → CopiesNode size address waiting mid new →
      IsBelow t size address tried limit old new least
  unit_below limit mid new node less none back = record {
    decided = unit_decided mid new node none back;
    costs = λ before here.
        waits.costs before here ∙
        ap (cost_of (given_of t) size address before) (chosen_unit none.splits before here);
    less = less;
  }

  -- or nothing that costs less than the limit
  pub none_below : (limit : ℕ) (mid : Block) → limit ≤ least →
      NoSplit t size address old limit mid → GivenUp t size address tried limit old mid
  none_below limit mid more none =
      record { kept = none.kept; more = all_at_least limit more none.splits }
