-- Nodes that are decided below a limit: a choice that costs as much, or more, is given up.
use Rattle.std.specs.Prelude.{◌≡◌, ℕ, ◌<◌, ◌≤◌, Option, Some, None}
use Rattle.hv_block.specs.declared.block.Block.{Block}
use Rattle.hv_tree_model.specs.Trees.{Tree}
use Rattle.hv_mode_model.specs.ModeDecision.{Before, cost_of}
use Rattle.hv_mode.specs.declared.task.Task.{Task}
use Rattle.hv_mode.specs.Nodes.{given_of, Stands, SameBefore, Decides}
use Rattle.hv_mode.specs.WaitingNodes.{Costs}

-- a number is a cost, where it is less than a limit; else the cost isn't less than that either
pub record IsUpTo (limit cost number : ℕ) : Type 0 where
  pub less : number < limit → number ≡ cost
  pub more : limit ≤ number → limit ≤ cost

-- a choice costs at least so much, wherever the node may stand in a block
abbrev pub CostsAtLeast : Task → ℕ → ℕ → (Before → Tree) → Block → ℕ → Type 0
CostsAtLeast t size address choice old limit =
    (before : Before) → Stands t old address before →
    limit ≤ cost_of (given_of t) size address before (choice before)

-- it was decided, and costs less than the limit
pub record IsBelow
    (t : Task) (size address : ℕ) (choice : Before → Tree) (limit : ℕ) (old new : Block)
    (cost : ℕ) : Type 0 where
  pub decided : Decides t size address choice old new
  pub costs : Costs t size address choice old cost
  pub less : cost < limit

-- or it was given up: what comes before the node is kept
pub record GivenUp
    (t : Task) (size address : ℕ) (choice : Before → Tree) (limit : ℕ) (old new : Block) :
    Type 0 where
  pub kept : SameBefore address old new
  pub more : CostsAtLeast t size address choice old limit

-- with its cost, where it was decided
abbrev pub DecidesBelow :
    Task → ℕ → ℕ → (Before → Tree) → ℕ → Block → Block → Option ℕ → Type 0
DecidesBelow t size address choice limit old new None =
    GivenUp t size address choice limit old new
DecidesBelow t size address choice limit old new (Some cost) =
    IsBelow t size address choice limit old new cost
