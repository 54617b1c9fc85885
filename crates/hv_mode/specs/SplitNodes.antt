-- Nodes that may be split: what is chosen of one that is split, and of one of which all is tried.
use Rattle.std.specs.Prelude.{ℕ, zero, suc, ◌-◌, List, [], ◌∷◌, ◌++◌, map}
use Rattle.hv_tree_model.specs.Trees.{Tree}
use Rattle.hv_mode_model.specs.ModeDecision.{Before, leaf, predictions, least_of, split_of, best}
use Rattle.hv_mode.specs.declared.task.Task.{Task}
use Rattle.hv_mode.specs.Nodes.{given_of}

-- a node of a size above the least that is split: its four parts, each chosen behind the earlier
-- ones
abbrev pub split_choice : Task → ℕ → ℕ → Before → Tree
split_choice t size address before =
    split_of (given_of t) (size - 1) address before (best (given_of t) (size - 1))

-- one coding unit, in each of the ways that are tried
abbrev pub unit_choices : Task → ℕ → ℕ → Before → List Tree
unit_choices t size address before =
    map (leaf (given_of t) size address before) (predictions (given_of t) size address before)

-- and the split, if the node isn't of the least size
abbrev pub split_choices : Task → ℕ → ℕ → Before → List Tree
split_choices t zero address before = []
split_choices t (suc size) address before =
    split_of (given_of t) size address before (best (given_of t) size) ∷ []

-- of all these, the first of least cost
abbrev pub tried_choice : Task → ℕ → ℕ → Before → Tree
tried_choice t size address before =
    least_of (given_of t) size address before
    (unit_choices t size address before ++ split_choices t size address before)
