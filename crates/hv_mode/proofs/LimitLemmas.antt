-- Nodes that are decided below a limit: where they are decided, where they are given up, and by
-- choices that are the same.
use Rattle.std.proofs.Common.{◌≡◌, ℕ, ◌≤◌, true, subst, sym, ap, ◌∙◌}
use Rattle.std.specs.Prelude.{Option, Some, None, is_some}
use Rattle.hv_block.specs.declared.block.Block.{Block}
use Rattle.hv_tree_model.specs.Trees.{Tree}
use Rattle.hv_mode_model.specs.ModeDecision.{Before, cost_of}
use Rattle.hv_mode.specs.declared.task.Task.{Task}
use Rattle.hv_mode.specs.Nodes.{given_of, Stands, SameBefore, Decides}
use Rattle.hv_mode.specs.Limits.{IsBelow, GivenUp, DecidesBelow}
use Rattle.hv_mode.proofs.FrameLemmas.{same_trans, stands_since, decides_since}
use Rattle.hv_mode.proofs.TriedLemmas.{decides_as}

module _ (t : Task) (size address : ℕ) (choice : Before → Tree) (limit : ℕ) where
  -- by what was answered
  pub is_below : (old new : Block) (result : Option ℕ) (cost : ℕ) → result ≡ Some cost →
      DecidesBelow t size address choice limit old new result →
      IsBelow t size address choice limit old new cost
  is_below old new result cost is decides =
      subst (λ r. DecidesBelow t size address choice limit old new r) is decides

  pub given_up : (old new : Block) (result : Option ℕ) → result ≡ None →
      DecidesBelow t size address choice limit old new result →
      GivenUp t size address choice limit old new
  given_up old new result is decides =
      subst (λ r. DecidesBelow t size address choice limit old new r) is decides

  pub some_decided : (old new : Block) (result : Option ℕ) → is_some result ≡ true →
      DecidesBelow t size address choice limit old new result →
      Decides t size address choice old new
  some_decided old new None some up = absurd cc
  some_decided old new (Some cost) some below = below.decided

  -- from what stood before the node at first
  pub below_since : (old mid new : Block) (result : Option ℕ) → SameBefore address old mid →
      DecidesBelow t size address choice limit mid new result →
      DecidesBelow t size address choice limit old new result
  below_since old mid new None same up = record {
    kept = same_trans address old mid new same up.kept;
    more = λ before here. up.more before (stands_since t address before old mid same here);
  }
  below_since old mid new (Some cost) same below = record {
    decided = decides_since t size address choice old mid new same below.decided;
    costs = λ before here. below.costs before (stands_since t address before old mid same here);
    less = below.less;
  }

  -- by a choice that is the same wherever the node may stand
  pub below_as : (other : Before → Tree) (old new : Block) (result : Option ℕ) →
      ((before : Before) → Stands t old address before → choice before ≡ other before) →
      DecidesBelow t size address choice limit old new result →
      DecidesBelow t size address other limit old new result
  below_as other old new None same up = record {
    kept = up.kept;
    more = λ before here.
        subst (λ tree. limit ≤ cost_of (given_of t) size address before tree) (same before here)
        (up.more before here);
  }
  below_as other old new (Some cost) same below = record {
    decided = decides_as t size address choice other old new same below.decided;
    costs = λ before here.
        below.costs before here ∙
        ap (cost_of (given_of t) size address before) (same before here);
    less = below.less;
  }

  -- an answer for a choice that was given up
  pub none_answered : (old new : Block) (result : Option ℕ) → result ≡ None →
      GivenUp t size address choice limit old new →
      DecidesBelow t size address choice limit old new result
  none_answered old new result is up =
      subst (λ r. DecidesBelow t size address choice limit old new r) (sym is) up
