-- The coding tree blocks of a picture, in raster order (6.5.1), and where each lies in a plane.
use Rattle.std.specs.Prelude.{ℕ, ◌+◌, ◌-◌, ◌*◌, ◌/◌, ◌%◌, min, List, [], flat_map, slice_index_or}
use Rattle.hv_lemmas.specs.Lists.{tabulate}
use Rattle.hv_types.specs.Samples.{Plane, plane_of}

-- the side of a coding tree block in luma (CtbSizeY), and in Cb and Cr
abbrev pub luma_side : ℕ
luma_side = 64

abbrev pub chroma_side : ℕ
chroma_side = 32

-- how many blocks of a side cover so many samples
abbrev pub blocks_over : ℕ → ℕ → ℕ
blocks_over side samples = (samples + (side - 1)) / side

-- the number of the block that has column x of row y, where `across` blocks stand in a row
abbrev pub block_number : ℕ → ℕ → ℕ → ℕ → ℕ
block_number side across x y = y / side * across + x / side

-- a rectangle of a plane
pub record Area : Type 0 where
  pub left : ℕ
  pub top : ℕ
  pub columns : ℕ
  pub rows : ℕ

-- what a plane has of the block of this number
abbrev pub block_area : ℕ → ℕ → ℕ → Plane → Area
block_area side across number plane = record {
  left = side * (number % across);
  top = side * (number / across);
  columns = min side (plane.width - side * (number % across));
  rows = min side (plane.height - side * (number / across));
}

-- a place of a plane: a column and a row
pub record Location : Type 0 where
  pub x : ℕ
  pub y : ℕ

-- the first so many locations of row y of an area
abbrev pub row_locations : Area → ℕ → ℕ → List Location
row_locations area y columns =
    tabulate columns (λ x. record { x = area.left + x; y = area.top + y })

-- the locations of an area, by rows
abbrev pub locations : Area → List Location
locations area =
    flat_map (λ row. row) (tabulate area.rows (λ y. row_locations area y area.columns))

-- ---- a plane that is put together from its blocks

-- The sample in column x of row y, from those of the blocks, each by rows of a whole block: where
-- a block is cut by the plane's edge, the samples behind the edge are left.
abbrev pub joined_sample : ℕ → ℕ → List (List ℕ) → ℕ → ℕ → ℕ
joined_sample side across blocks x y =
    slice_index_or (slice_index_or blocks (block_number side across x y) [])
    (y % side * side + x % side) 0

abbrev pub joined_plane : ℕ → ℕ → ℕ → ℕ → List (List ℕ) → Plane
joined_plane side across width height blocks =
    plane_of width height (joined_sample side across blocks)
