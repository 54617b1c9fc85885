-- Coding units that are predicted from another picture: which entries of list 0 may be named, what
-- was found for a node, and the unit that is chosen with it.
use Rattle.std.specs.Prelude.{ℕ, Bool, cond, nat_lt, nat_le, ◌&&◌, length, Option, None}
use Rattle.hv_plan.specs.declared.prediction.Mv.{Mv}
use Rattle.hv_tree_model.specs.Trees.{Tree, side}
use Rattle.hv_tree_model.specs.Sites.{x0, y0}
use Rattle.hv_mode_model.specs.ModeDecision.{Before, leaf, has_list_0, inter_unit}
use Rattle.hv_mode.specs.declared.task.Task.{Task}
use Rattle.hv_mode.specs.Nodes.{given_of}
use Rattle.hv_mode.specs.Vectors.{references_of, vectors_of}

-- A unit may name an entry: in a P slice of at most two, where there is a picture.
abbrev pub names : Task → ℕ → Bool
names t entry =
    has_list_0 t.kind && nat_le t.references 2 && nat_lt entry t.references &&
    nat_lt entry (length (references_of t))

-- the vector that was found for it
abbrev pub found_at : Task → ℕ → ℕ → ℕ → Option Mv
found_at t size address entry =
    cond (names t entry)
    (vectors_of t entry (x0 t.place address) (y0 t.place address) (side size)) None

-- one coding unit, with a vector that was found
abbrev pub inter_choice : Task → ℕ → ℕ → ℕ → Mv → Before → Tree
inter_choice t size address entry mv before =
    leaf (given_of t) size address before
    (inter_unit (given_of t) size address before entry mv)
