-- The vectors that motion search finds for a picture, as contracts see them.
use Rattle.std.specs.Prelude.{◌≡◌, ℕ, zero, suc, ◌+◌, ◌*◌, ◌/◌, ◌%◌, ◌^◌, ◌<◌, ◌≤◌, Bool, cond, nat_le, ◌&&◌, List, [], slice_get, Option, None}
use Rattle.hv_types.specs.Configuration.{padded_width, padded_height}
use Rattle.hv_types.specs.GroupInput.{GroupInput}
use Rattle.hv_plan.specs.declared.prediction.Mv.{Mv}
use Rattle.hv_plan.specs.declared.place.Node.{Node}
use Rattle.hv_filter_model.specs.Blocks.{luma_side, blocks_over}
use Rattle.hv_search_model.specs.MotionSearch.{motion}
use Rattle.hv_search.specs.Numbers.{node_count}

-- the sides of the padded picture, and the vectors for entry 0 and entry 1 of list 0, block by
-- block in raster order and in each by the numbers of the nodes; none where nothing was searched
pub record Motion : Type 0 where
  pub width : ℕ
  pub height : ℕ
  pub first : List Mv
  pub second : List Mv

-- how many coding tree blocks the picture has
abbrev pub block_count : Motion → ℕ
block_count m = blocks_over luma_side m.width * blocks_over luma_side m.height

-- so many vectors for each entry at most, and sides of 65,535 at most
pub record IsMotion (m : Motion) : Type 0 where
  pub wide : m.width < 2 ^ 16
  pub high : m.height < 2 ^ 16

-- ---- nodes

-- a square of a coding tree block, where it may lie
pub record IsNode (node : Node) : Type 0 where
  pub depth : node.depth ≤ 3
  pub x : node.x < 8
  pub y : node.y < 8
  pub column : node.x % (8 / 2 ^ node.depth) ≡ 0
  pub row : node.y % (8 / 2 ^ node.depth) ≡ 0

-- its side in luma samples, and where it begins in the picture, in the block of this number
abbrev pub node_side : Node → ℕ
node_side node = 64 / 2 ^ node.depth

abbrev pub node_x : ℕ → ℕ → Node → ℕ
node_x width index node = luma_side * (index % blocks_over luma_side width) + 8 * node.x

abbrev pub node_y : ℕ → ℕ → Node → ℕ
node_y width index node = luma_side * (index / blocks_over luma_side width) + 8 * node.y

-- how many nodes of a block stand before those of this depth
abbrev pub nodes_before : ℕ → ℕ
nodes_before zero = 84
nodes_before (suc zero) = 80
nodes_before (suc (suc zero)) = 64
nodes_before (suc (suc (suc n))) = 0

-- the number of a node: nodes of a depth go by the digits of column and row, the first ones first
abbrev pub number_of : Node → ℕ
number_of node =
    nodes_before node.depth +
    (node.x / 4 % 2 + 2 * (node.y / 4 % 2) + 4 * (node.x / 2 % 2) + 8 * (node.y / 2 % 2) +
    16 * (node.x % 2) + 32 * (node.y % 2))

-- it lies wholly inside of the picture
abbrev pub is_inside : Motion → ℕ → Node → Bool
is_inside m index node =
    nat_le (node_x m.width index node + node_side node) m.width &&
    nat_le (node_y m.width index node + node_side node) m.height

abbrev pub vectors_at : Motion → ℕ → List Mv
vectors_at m zero = m.first
vectors_at m (suc zero) = m.second
vectors_at m (suc (suc entry)) = []

-- the vector of a node of the block of this number, for this entry of list 0
abbrev pub vector_of : Motion → ℕ → ℕ → Node → Option Mv
vector_of m entry index node =
    cond (is_inside m index node)
    (slice_get (vectors_at m entry) (node_count * index + number_of node)) None

-- ---- what they are

-- each is that of the definition, for picture k of a group
pub record IsMotionOf (group : GroupInput) (k : ℕ) (m : Motion) : Type 0 where
  pub wide : m.width ≡ padded_width group.config
  pub high : m.height ≡ padded_height group.config
  pub each : (entry index : ℕ) (node : Node) → index < block_count m → IsNode node →
      vector_of m entry index node ≡
      motion group k entry (node_x m.width index node) (node_y m.width index node) (node_side node)
