-- The vectors of all nodes of a picture from another one, block by block.
use Rattle.std.specs.Prelude.{◌≡◌, ℕ, ◌+◌, ◌*◌, ◌/◌, ◌%◌, ◌<◌, List, ◌++◌, length, slice_index_or}
use Rattle.hv_types.specs.Samples.{Plane}
use Rattle.hv_plan.specs.declared.prediction.Mv.{Mv}
use Rattle.hv_filter_model.specs.Blocks.{luma_side, blocks_over}
use Rattle.hv_search_model.specs.MotionSearch.{best_vector, scores_of}
use Rattle.hv_search.specs.Numbers.{node_count, left_of, top_of, side_of, IsInside, no_vector}

-- the vector of node n of the block in this column and row of blocks
abbrev pub best_of_node : ℕ → Plane → Plane → ℕ → ℕ → ℕ → Mv
best_of_node effort input reference column row n =
    best_vector effort
    (scores_of input reference (64 * column + left_of n) (64 * row + top_of n) (side_of n))

-- those of the nodes of this block that lie inside, by their numbers
abbrev pub HasBlock : ℕ → Plane → Plane → ℕ → ℕ → List Mv → Type 0
HasBlock effort input reference column row vectors =
    (n : ℕ) → n < node_count → IsInside input (64 * column) (64 * row) n →
    slice_index_or vectors n no_vector ≡ best_of_node effort input reference column row n

-- .. appended to others
pub record IsAppended (effort : ℕ) (input reference : Plane) (column row : ℕ) (old new : List Mv) :
    Type 0 where
  pub block : List Mv
  pub is : new ≡ old ++ block
  pub count : length block ≡ node_count
  pub has : HasBlock effort input reference column row block

-- those of the first so many blocks in raster order
pub record AreVectors (effort : ℕ) (input reference : Plane) (count : ℕ) (vectors : List Mv) :
    Type 0 where
  pub long : length vectors ≡ node_count * count
  pub each : (index n : ℕ) → index < count → n < node_count →
      IsInside input (64 * (index % blocks_over luma_side input.width))
      (64 * (index / blocks_over luma_side input.width)) n →
      slice_index_or vectors (node_count * index + n) no_vector ≡
      best_of_node effort input reference (index % blocks_over luma_side input.width)
      (index / blocks_over luma_side input.width) n
