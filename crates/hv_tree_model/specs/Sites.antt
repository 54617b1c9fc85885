-- Where the coding tree blocks of a picture lie, and the nodes of their quadtrees.
use Rattle.std.specs.Prelude.{ℕ, zero, suc, ◌+◌, ◌-◌, ◌*◌, ◌/◌, ◌%◌, Bool, false, nat_lt, nat_le, ◌||◌, List, [], ◌∷◌}
use Rattle.hv_plan.specs.declared.place.Place.{Place}
use Rattle.hv_tree_model.specs.Trees.{side}

-- ---- the coding tree blocks of a picture, in raster order (6.5.1)

-- CtbSizeY
abbrev pub ctb_side : ℕ
ctb_side = 64

-- how many of them cover so many luma samples
abbrev pub blocks_over : ℕ → ℕ
blocks_over samples = (samples + (ctb_side - 1)) / ctb_side

-- a block: the sides of its picture in luma samples, and its number in it, from 0
abbrev pub Site : Type 0
Site = Place

abbrev pub site : ℕ → ℕ → ℕ → Site
site width height index = record { width = width; height = height; index = index }

-- so many blocks from this number on
abbrev pub sites_from : ℕ → ℕ → ℕ → ℕ → List Site
sites_from zero width height index = []
sites_from (suc count) width height index =
    site width height index ∷ sites_from count width height (index + 1)

unfoldable pub sites : ℕ → ℕ → List Site
sites width height = sites_from (blocks_over width * blocks_over height) width height 0

-- CtbAddrX and CtbAddrY
abbrev pub ctb_column : Site → ℕ
ctb_column site = site.index % blocks_over site.width

abbrev pub ctb_row : Site → ℕ
ctb_row site = site.index / blocks_over site.width

-- whether there are blocks at its left and above it
abbrev pub has_left : Site → Bool
has_left site = nat_lt 0 (ctb_column site)

abbrev pub has_above : Site → Bool
has_above site = nat_lt 0 (ctb_row site)

-- ---- the 8x8 squares of a block, in z-scan order (6.5.2)

-- the digits of column and row in turn, those of the column first
unfoldable pub address_of : ℕ → ℕ → ℕ
address_of column row =
    column % 2 + 2 * (row % 2) + 4 * (column / 2 % 2) + 8 * (row / 2 % 2) +
    16 * (column / 4 % 2) + 32 * (row / 4 % 2)

unfoldable pub column_of : ℕ → ℕ
column_of address = address % 2 + 2 * (address / 4 % 2) + 4 * (address / 16 % 2)

unfoldable pub row_of : ℕ → ℕ
row_of address = address / 2 % 2 + 2 * (address / 8 % 2) + 4 * (address / 32 % 2)

-- ---- nodes: a size, and the address of the square at the upper left corner

-- how many squares a node has
abbrev pub squares : ℕ → ℕ
squares zero = 1
squares (suc size) = 4 * squares size

-- the corner in the picture, in luma samples
abbrev pub x0 : Site → ℕ → ℕ
x0 site address = ctb_side * ctb_column site + 8 * column_of address

abbrev pub y0 : Site → ℕ → ℕ
y0 site address = ctb_side * ctb_row site + 8 * row_of address

unfoldable pub is_outside : Site → ℕ → Bool
is_outside site address =
    nat_le site.width (x0 site address) || nat_le site.height (y0 site address)

-- it crosses the picture's right or bottom edge
unfoldable pub crosses : Site → ℕ → ℕ → Bool
crosses site size address =
    nat_lt site.width (x0 site address + side size) ||
    nat_lt site.height (y0 site address + side size)

-- it is split without being asked (7.4.9.4): not where it has the least size
abbrev pub must_split : Site → ℕ → ℕ → Bool
must_split site zero address = false
must_split site (suc size) address = crosses site (suc size) address
