-- The edges of the blocks around a coding tree block that come before it in decoding order, from
-- the blocks of its picture in raster order (6.5.1).
use Rattle.std.specs.Prelude.{ℕ, ◌+◌, ◌-◌, ◌/◌, ◌%◌, Bool, cond, nat_lt, ◌&&◌, List, slice_get, Option, None, option_map}
use Rattle.hv_plan.specs.declared.place.Place.{Place}
use Rattle.hv_block.specs.declared.block.Block.{Block}
use Rattle.hv_block.specs.declared.edges.Edges.{Edges}
use Rattle.hv_block.specs.declared.edges.Neighbours.{Neighbours}
use Rattle.hv_block.specs.BlockEdges.{edges_of}

-- how many blocks stand in a row of a picture of this width in luma samples
abbrev pub blocks_across : ℕ → ℕ
blocks_across width = (width + (64 - 1)) / 64

-- the column and the row of a block, in blocks
abbrev pub block_column : Place → ℕ
block_column place = place.index % blocks_across place.width

abbrev pub block_row : Place → ℕ
block_row place = place.index / blocks_across place.width

-- the edges of the block of this number; none where there is none
abbrev pub edges_at : List Block → Bool → ℕ → Option Edges
edges_at blocks has_block number =
    cond has_block (option_map edges_of (slice_get blocks number)) None

abbrev pub neighbours_of : List Block → Place → Neighbours
neighbours_of blocks place = record {
  left = edges_at blocks (nat_lt 0 (block_column place)) (place.index - 1);
  above_left =
      edges_at blocks (nat_lt 0 (block_column place) && nat_lt 0 (block_row place))
      (place.index - blocks_across place.width - 1);
  above =
      edges_at blocks (nat_lt 0 (block_row place)) (place.index - blocks_across place.width);
  above_right =
      edges_at blocks
      (nat_lt 0 (block_row place) &&
      nat_lt (block_column place + 1) (blocks_across place.width))
      (place.index - blocks_across place.width + 1);
}
