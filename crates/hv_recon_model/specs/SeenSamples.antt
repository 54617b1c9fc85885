-- The samples that are seen from a coding tree block while it is decoded: its own, so far as they
-- are decoded, and those of the blocks around it, by their last columns and rows.
use Rattle.std.specs.Prelude.{◌≡◌, ℕ, ◌+◌, ◌-◌, ◌*◌, ◌/◌, ◌^◌, ◌<◌, ◌≤◌, cond, nat_lt, nat_le, ◌&&◌, Bool, List, ◌++◌, slice_get, Option, Some, None, ℤ}
use Rattle.hv_lemmas.specs.Lists.{tabulate}
use Rattle.hv_sample_model.specs.IntraPrediction.{predicted, substituted}
use Rattle.hv_sample_model.specs.InverseTransform.{residual}
use Rattle.hv_tree_model.specs.Sites.{Site, ctb_side, ctb_column, ctb_row, address_of}
use Rattle.hv_recon_model.specs.Reconstruction.{Component, square_at, with_block, sum_of}

-- ---- a block in one colour component

-- its side, the column and the row of the picture in which it begins, and the sides of the picture,
-- in samples of the component
pub record Spot : Type 0 where
  pub side : ℕ
  pub left : ℕ
  pub top : ℕ
  pub width : ℕ
  pub height : ℕ

abbrev pub luma_spot : Site → Spot
luma_spot site = record {
  side = ctb_side;
  left = ctb_side * ctb_column site;
  top = ctb_side * ctb_row site;
  width = site.width;
  height = site.height;
}

abbrev pub chroma_spot : Site → Spot
chroma_spot site = record {
  side = ctb_side / 2;
  left = ctb_side / 2 * ctb_column site;
  top = ctb_side / 2 * ctb_row site;
  width = site.width / 2;
  height = site.height / 2;
}

-- ---- the blocks around

-- the samples in the last column of a block, from top to bottom, and those in its last row, from
-- left to right
pub record SampleEdges : Type 0 where
  pub right : List ℕ
  pub bottom : List ℕ

-- those of the four blocks around that were decoded before it; none where there is no such block
pub record SamplesAround : Type 0 where
  pub left : Option SampleEdges
  pub above_left : Option SampleEdges
  pub above : Option SampleEdges
  pub above_right : Option SampleEdges

abbrev pub on_right : Option SampleEdges → ℕ → Option ℕ
on_right None i = None
on_right (Some edges) i = slice_get edges.right i

abbrev pub on_bottom : Option SampleEdges → ℕ → Option ℕ
on_bottom None i = None
on_bottom (Some edges) i = slice_get edges.bottom i

-- columns and rows are counted in samples, so that those of the block begin at its side

abbrev pub sample_at_left : ℕ → SamplesAround → ℕ → Option ℕ
sample_at_left side around y =
    cond (nat_lt y side) (on_bottom around.above_left (side - 1)) (on_right around.left (y - side))

abbrev pub sample_above : ℕ → SamplesAround → ℕ → Option ℕ
sample_above side around x =
    cond (nat_lt x (2 * side)) (on_bottom around.above (x - side))
    (on_bottom around.above_right (x - 2 * side))

-- the samples of a block of this side, by rows, in its own columns and rows
abbrev pub by_rows : ℕ → List ℕ → Component
by_rows side own x y = slice_get own (y * side + x)

-- whether the sample in this column and row of the block lies in a square of 8x8 luma samples whose
-- address is below this one: there are eight squares in a row (6.5.2)
abbrev pub comes_before : ℕ → ℕ → ℕ → ℕ → Bool
comes_before side address x y = nat_lt (address_of (x / (side / 8)) (y / (side / 8))) address

-- inside the block, whose samples are given by rows: it is there where it was decoded before this
-- address
abbrev pub sample_inside : ℕ → List ℕ → ℕ → ℕ → ℕ → Option ℕ
sample_inside side own address x y =
    cond (nat_lt x side && nat_lt y side && comes_before side address x y)
    (by_rows side own x y)
    None

-- from the column and the row before the block on
abbrev pub sample_around : ℕ → SamplesAround → List ℕ → ℕ → ℕ → ℕ → Option ℕ
sample_around side around own address x y =
    cond (nat_lt x side)
    (sample_at_left side around y)
    (cond (nat_lt y side) (sample_above side around x)
    (sample_inside side own address (x - side) (y - side)))

-- ---- in the picture

-- a sample at this column and row, each counted from the side of a block at the picture's left and
-- top edge, comes behind those edges
abbrev pub is_behind_edges : Spot → ℕ → ℕ → Bool
is_behind_edges s x y = nat_le s.side (s.left + x) && nat_le s.side (s.top + y)

abbrev pub is_in_picture : Spot → ℕ → ℕ → Bool
is_in_picture s x y =
    is_behind_edges s x y &&
    nat_lt (s.left + x - s.side) s.width && nat_lt (s.top + y - s.side) s.height

-- what is seen from a block by what lies around it, when its squares before this address are
-- decoded
unfoldable pub look_around : Spot → SamplesAround → List ℕ → ℕ → ℕ → ℕ → Option ℕ
look_around s around own address x y =
    cond (is_in_picture s x y) (sample_around s.side around own address x y) None

-- what is decoded of the picture there
unfoldable pub look_picture : Spot → Component → ℕ → ℕ → Option ℕ
look_picture s samples x y =
    cond (is_behind_edges s x y)
    (samples (s.left + x - s.side) (s.top + y - s.side))
    None

-- the neighbours of a block of 2^log2 columns and rows in this column and row, in their order
abbrev pub seen_line : Spot → SamplesAround → List ℕ → ℕ → ℕ → ℕ → ℕ → List (Option ℕ)
seen_line s around own address x y log2 =
    let n = 2 * 2 ^ log2 in
    let look = look_around s around own address in
    tabulate (n + 1) (λ i. look (s.side + x - 1) (s.side + y + (n - i) - 1)) ++
    tabulate n (λ i. look (s.side + x + i) (s.side + y - 1))

-- Both are the same, from the column and the row before the block on, up to a side behind it. So
-- what is decoded there are the last columns and rows of the blocks around, so far as they are
-- inside the picture, and the block's own samples before this address, and nothing else.
pub record IsSeen
    (s : Spot) (around : SamplesAround) (own : List ℕ) (address : ℕ) (samples : Component) :
    Type 0 where
  pub sample :
      (x y : ℕ) → s.side ≤ x + 1 → x < 3 * s.side → s.side ≤ y + 1 → y < 3 * s.side →
      look_picture s samples x y ≡ look_around s around own address x y

-- these samples are those before with a block of 2^log2 columns and rows in this column and row
pub record IsPut (side x y log2 : ℕ) (block old new : List ℕ) : Type 0 where
  pub sample :
      (p q : ℕ) → p < side → q < side →
      by_rows side new p q ≡ with_block (by_rows side old) (square_at x y log2) block p q

-- an intra block with these levels, by rows, and this quantiser, from its neighbours
abbrev pub seen_block : ℕ → ℕ → Bool → ℕ → List ℤ → List (Option ℕ) → List ℕ
seen_block log2 mode is_luma qp levels line =
    sum_of (predicted log2 mode is_luma (substituted line)) (residual log2 qp levels)
