-- A node of which several trees are tried, one after another: the one of least cost so far waits in
-- a block.
use Rattle.std.specs.Prelude.{◌≡◌, ℕ, ◌<◌, List, [], ◌∷◌, ◌++◌, length, map, Option, Some, None}
use Rattle.hv_block.specs.declared.block.Block.{Block}
use Rattle.hv_tree_model.specs.Trees.{Tree}
use Rattle.hv_mode_model.specs.ModeDecision.{Before, leaf, inter_at, least_of, cost_of}
use Rattle.hv_mode.specs.declared.task.Task.{Task}
use Rattle.hv_mode.specs.Nodes.{given_of, Stands, Decides, CopiesNode}

-- the trees that were tried, by what stands before the node
abbrev pub Tried : Type 0
Tried = Before → List Tree

-- with one more
abbrev pub more_trees : Tried → (Before → Tree) → Tried
more_trees trees choice before = trees before ++ choice before ∷ []

-- with those of an entry of list 0, if there are any
abbrev pub entry_choices : Task → ℕ → ℕ → ℕ → Tried
entry_choices t size address entry before =
    map (leaf (given_of t) size address before) (inter_at (given_of t) size address before entry)

abbrev pub with_entry : Task → ℕ → ℕ → ℕ → Tried → Tried
with_entry t size address entry trees before =
    trees before ++ entry_choices t size address entry before

-- the first of least cost
abbrev pub least_tried : Task → ℕ → ℕ → Tried → Before → Tree
least_tried t size address trees before = least_of (given_of t) size address before (trees before)

-- the cost of a choice, wherever the node may stand in a block
abbrev pub Costs : Task → ℕ → ℕ → (Before → Tree) → Block → ℕ → Type 0
Costs t size address choice old cost =
    (before : Before) → Stands t old address before →
    cost ≡ cost_of (given_of t) size address before (choice before)

-- Behind what stands in the old block, the first tree of least cost was decided in a block, and the
-- node was copied from it.
pub record Waits
    (t : Task) (size address : ℕ) (trees : Tried) (old waiting : Block) (cost : ℕ) : Type 0 where
  pub first : Block
  pub into : Block
  pub some : (before : Before) → Stands t old address before → 0 < length (trees before)
  pub decided : Decides t size address (least_tried t size address trees) old first
  pub copied : CopiesNode size address first into waiting
  pub costs : Costs t size address (least_tried t size address trees) old cost

-- with its cost, if any tree was tried
abbrev pub WaitsIf : Task → ℕ → ℕ → Tried → Block → Block → Option ℕ → Type 0
WaitsIf t size address trees old waiting None =
    (before : Before) → Stands t old address before → trees before ≡ []
WaitsIf t size address trees old waiting (Some cost) = Waits t size address trees old waiting cost
