-- What was coded earlier, and what is asked of it: which squares are available (6.4.1), and the
-- contexts of split_cu_flag (9.3.4.2.2).
use Rattle.std.specs.Prelude.{ℕ, zero, suc, ◌+◌, ◌-◌, ◌*◌, ◌/◌, ◌%◌, cond, nat_lt, nat_le, ◌&&◌, List, [], ◌++◌, replicate, slice_index_or}
use Rattle.hv_tables.specs.declared.bins.SliceKind.{SliceKind}
use Rattle.hv_tree_model.specs.Trees.{Prediction, Tree, Leaf, Split, Outside, depth_of}
use Rattle.hv_tree_model.specs.Sites.{Site, blocks_over, ctb_column, ctb_row, address_of, column_of, row_of, squares}

-- ---- squares of 8x8 luma samples in decoding order

-- what is known of a square: CtDepth of its coding unit, and how that is predicted
pub data Square : Type 0 where
  Unavailable : Square
  Coded : ℕ → Prediction → Square

-- The squares of a node of this size, by their addresses. Those outside the picture are there, so
-- that an address is a place in the list.
abbrev pub squares_of : ℕ → Tree → List Square
squares_of size Outside = replicate (squares size) Unavailable
squares_of size (Leaf prediction units) =
    replicate (squares size) (Coded (depth_of size) prediction)
squares_of zero (Split a b c d) = []
squares_of (suc size) (Split a b c d) =
    squares_of size a ++ (squares_of size b ++ (squares_of size c ++ squares_of size d))

-- behind one more node
abbrev pub after : ℕ → List Square → Tree → List Square
after size earlier tree = earlier ++ squares_of size tree

-- ---- what is known where a block is coded

-- The square at a column and a row, from the squares of the block that were coded so far. Columns
-- and rows are counted in squares, so that those of the block begin at 8.
abbrev pub Look : Type 0
Look = List Square → ℕ → ℕ → Square

pub record Surroundings : Type 0 where
  pub slice_type : SliceKind
  -- num_ref_idx_l0_active_minus1 + 1
  pub references : ℕ
  pub site : Site
  pub look : Look

-- ---- in a picture

-- its number among all squares, in decoding order, where a block has 64 of them
abbrev pub place_of : Site → ℕ → ℕ → ℕ
place_of site column row =
    64 * (row / 8 * blocks_over site.width + column / 8) + address_of (column % 8) (row % 8)

-- Availability (6.4.1) of the square at this column and row of the picture, counted from 8: it is
-- inside the picture, and was coded earlier. A picture is one slice.
abbrev pub square_at : Site → List Square → ℕ → ℕ → Square
square_at site earlier column row =
    cond
    (nat_le 8 column && nat_le 8 row &&
    nat_lt (8 * (column - 8)) site.width && nat_lt (8 * (row - 8)) site.height)
    (slice_index_or earlier (place_of site (column - 8) (row - 8)) Unavailable)
    Unavailable

-- behind these squares of all blocks before
unfoldable pub look_picture : Site → List Square → Look
look_picture site done earlier column row =
    square_at site (done ++ earlier) (8 * ctb_column site + column) (8 * ctb_row site + row)

-- a block of a slice, behind these squares of all blocks before
abbrev pub in_picture : SliceKind → ℕ → Site → List Square → Surroundings
in_picture slice_type references site done = record {
  slice_type = slice_type;
  references = references;
  site = site;
  look = look_picture site done;
}

-- ---- the squares at a node

abbrev pub left_of : Surroundings → ℕ → List Square → Square
left_of s address earlier = s.look earlier (7 + column_of address) (8 + row_of address)

abbrev pub above_of : Surroundings → ℕ → List Square → Square
above_of s address earlier = s.look earlier (8 + column_of address) (7 + row_of address)

-- condL and condA of split_cu_flag: it is available, and its unit lies deeper
abbrev pub lies_deeper : ℕ → Square → ℕ
lies_deeper cqtDepth Unavailable = 0
lies_deeper cqtDepth (Coded CtDepth prediction) = cond (nat_lt cqtDepth CtDepth) 1 0

-- ctxInc of split_cu_flag
abbrev pub split_ctxInc : Surroundings → ℕ → ℕ → List Square → ℕ
split_ctxInc s size address earlier =
    lies_deeper (depth_of size) (left_of s address earlier) +
    lies_deeper (depth_of size) (above_of s address earlier)
