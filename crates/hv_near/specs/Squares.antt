-- Squares of a coding tree block by the units of its plan.
use Rattle.std.specs.Prelude.{◌≡◌, ℕ, ◌+◌, ◌<◌, false, List, length, slice_get, slice_index_or}
use Rattle.hv_tree_model.specs.Sites.{Site, squares, is_outside}
use Rattle.hv_tree_model.specs.EarlierUnits.{Square, Unavailable, squares_of}
use Rattle.hv_tree_model.specs.Plans.{Plan, square_or_none, tree_at}

abbrev pub own_square : Plan → ℕ → Square
own_square plan address = square_or_none (slice_get plan.units address)

-- these squares, as many as come before an address, are those of the plan's units, so far as they
-- are inside the picture
pub record Shows (site : Site) (plan : Plan) (address : ℕ) (earlier : List Square) : Type 0 where
  pub count : length earlier ≡ address
  pub square : (a : ℕ) → a < address → is_outside site a ≡ false →
      slice_index_or earlier a Unavailable ≡ own_square plan a

-- the units of a node name the squares of its tree, so far as they are inside the picture
pub record NamesNode (site : Site) (plan : Plan) (size address : ℕ) : Type 0 where
  pub square : (i : ℕ) → i < squares size → is_outside site (address + i) ≡ false →
      slice_index_or (squares_of size (tree_at site plan size address)) i Unavailable ≡
      own_square plan (address + i)
