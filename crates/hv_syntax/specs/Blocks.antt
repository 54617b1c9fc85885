-- A block of the code as the definitions have it, and what is seen from it.
use Rattle.std.specs.Prelude.{◌≡◌, ℕ, zero, suc, nat_le, true, ◌-◌, ◌<◌, Bool, false, cond, nat_eq, nat_lt, List, slice_get, Option, Some, None}
use Rattle.hv_plan.specs.declared.prediction.Unit.{Unit}
use Rattle.hv_tree_model.specs.Trees.{Tree, depth_of}
use Rattle.hv_tree_model.specs.Sites.{Site, address_of, column_of, row_of, is_outside}
use Rattle.hv_tree_model.specs.EarlierUnits.{Square, Unavailable, Surroundings, left_of, above_of}
use Rattle.hv_tree_model.specs.Plans.{Plan, UnitsAround, on_right, on_bottom, square_or_none, tree_at}
use Rattle.hv_syntax.specs.declared.block.Beside.{Beside}
use Rattle.hv_syntax.specs.declared.block.Plan.{Plan as CodePlan}
use Rattle.hv_syntax.specs.declared.block.Block.{Block}
use Rattle.hv_near.specs.Squares.{own_square, Shows}

abbrev pub lists_of : CodePlan → Plan
lists_of p = record { units = p.units.now; luma = p.luma.now; cb = p.cb.now; cr = p.cr.now }

abbrev pub plan_of : Block → Plan
plan_of b = lists_of b.plan

abbrev pub place_of : Block → Site
place_of b = b.site.place

-- the tree of a node
abbrev pub node_of : Block → ℕ → ℕ → Tree
node_of b size address = tree_at (place_of b) (plan_of b) size address

-- ---- what is seen

abbrev pub side_square : Option (List Unit) → ℕ → Square
side_square None i = Unavailable
side_square (Some units) i = square_or_none (slice_get units i)

unfoldable pub seen_left : Block → ℕ → Square
seen_left b address =
    cond (nat_eq (column_of address) 0)
    (cond (nat_lt 0 b.site.column) (side_square b.beside.left (row_of address)) Unavailable)
    (own_square (plan_of b) (address_of (column_of address - 1) (row_of address)))

unfoldable pub seen_above : Block → ℕ → Square
seen_above b address =
    cond (nat_eq (row_of address) 0)
    (cond (nat_lt 0 b.site.row) (side_square b.beside.above (column_of address)) Unavailable)
    (own_square (plan_of b) (address_of (column_of address) (row_of address - 1)))

-- what lies around a block has these units beside it
pub record AreBeside (beside : Beside) (around : UnitsAround) : Type 0 where
  pub left : (i : ℕ) → i < 8 → on_right around.left i ≡ side_square beside.left i
  pub above : (i : ℕ) → i < 8 → on_bottom around.above i ≡ side_square beside.above i

-- these surroundings are those of the block
pub record Sees (b : Block) (s : Surroundings) : Type 0 where
  pub slice_type : s.slice_type ≡ b.kind
  pub references : s.references ≡ b.references
  pub site : s.site ≡ place_of b
  pub left :
      (address : ℕ) (earlier : List Square) → address < 64 →
      Shows (place_of b) (plan_of b) address earlier →
      is_outside (place_of b) address ≡ false → left_of s address earlier ≡ seen_left b address
  pub above :
      (address : ℕ) (earlier : List Square) → address < 64 →
      Shows (place_of b) (plan_of b) address earlier →
      is_outside (place_of b) address ≡ false → above_of s address earlier ≡ seen_above b address

-- coding has come to a node that begins inside the picture
pub record Reached
    (b : Block) (s : Surroundings) (address : ℕ) (earlier : List Square) : Type 0 where
  pub sees : Sees b s
  pub shows : Shows (place_of b) (plan_of b) address earlier
  pub inside : is_outside (place_of b) address ≡ false

-- the code's test of a leaf
abbrev pub ends : ℕ → ℕ → Bool
ends zero depth = true
ends (suc size) depth = nat_le depth (depth_of (suc size))
