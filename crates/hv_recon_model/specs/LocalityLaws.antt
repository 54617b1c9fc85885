-- The four blocks around a coding tree block, and the reference pictures, determine what is
-- decoded in it.
use Rattle.std.specs.Prelude.{◌≡◌, ℕ, ◌+◌, ◌-◌, ◌*◌, ◌/◌, ◌<◌, List, slice_get, Some}
use Rattle.hv_types.specs.declared.picture.Picture.{Picture}
use Rattle.hv_tree_model.specs.Trees.{Tree, greatest_size}
use Rattle.hv_tree_model.specs.Sites.{Site, site, sites, sites_from, blocks_over, ctb_side, ctb_column, ctb_row}
use Rattle.hv_recon_model.specs.Reconstruction.{Component, Decoded, nothing_decoded, decoded_tree, decoded_trees}

-- In one colour component, whose blocks have this side: two pictures have the same samples in the
-- last column of the block at the left of this one, in the last one of the block above it, and in
-- the last row of the block above this one and of that at its right.
pub record SameEdges (side column row : ℕ) (d e : Component) : Type 0 where
  pub left :
      (y : ℕ) → 0 < column → y < side →
      d (side * column - 1) (side * row + y) ≡ e (side * column - 1) (side * row + y)
  pub above_left :
      0 < column → 0 < row →
      d (side * column - 1) (side * row - 1) ≡ e (side * column - 1) (side * row - 1)
  pub above :
      (x : ℕ) → 0 < row → x < 2 * side →
      d (side * column + x) (side * row - 1) ≡ e (side * column + x) (side * row - 1)

-- and the same samples in the block
pub record SameBlock (side column row : ℕ) (d e : Component) : Type 0 where
  pub sample :
      (x y : ℕ) → x < side → y < side →
      d (side * column + x) (side * row + y) ≡ e (side * column + x) (side * row + y)

-- in all three
pub record SameEdgesAround (here : Site) (d e : Decoded) : Type 0 where
  pub luma : SameEdges ctb_side (ctb_column here) (ctb_row here) d.luma e.luma
  pub cb : SameEdges (ctb_side / 2) (ctb_column here) (ctb_row here) d.cb e.cb
  pub cr : SameEdges (ctb_side / 2) (ctb_column here) (ctb_row here) d.cr e.cr

pub record SameBlockThere (here : Site) (d e : Decoded) : Type 0 where
  pub luma : SameBlock ctb_side (ctb_column here) (ctb_row here) d.luma e.luma
  pub cb : SameBlock (ctb_side / 2) (ctb_column here) (ctb_row here) d.cb e.cb
  pub cr : SameBlock (ctb_side / 2) (ctb_column here) (ctb_row here) d.cr e.cr

-- Two pictures of the same size, quantiser and references, whatever the blocks before this one hold
-- in each: where they have the same samples in the edges of the blocks around, the same tree is
-- decoded to the same samples, or in neither.
abbrev pub BlocksAreLocal : Type 0
BlocksAreLocal =
    (width height qp index : ℕ) (references : List Picture) (trees others : List Tree)
    (tree : Tree) (d e f : Decoded) → 0 < blocks_over width →
    decoded_trees qp (sites_from index width height 0) trees (nothing_decoded references) ≡
    Some d →
    decoded_trees qp (sites_from index width height 0) others (nothing_decoded references) ≡
    Some e →
    SameEdgesAround (site width height index) d e →
    decoded_tree qp greatest_size (ctb_side * ctb_column (site width height index))
    (ctb_side * ctb_row (site width height index)) tree d ≡ Some f →
    (g : Decoded) ×
    (decoded_tree qp greatest_size (ctb_side * ctb_column (site width height index))
    (ctb_side * ctb_row (site width height index)) tree e ≡ Some g) ×
    SameBlockThere (site width height index) f g

-- The same of two whole pictures, whatever comes behind the block too: where they have the same
-- tree at this number, and the same samples in the edges around, they have the same samples there.
abbrev pub PicturesAreLocal : Type 0
PicturesAreLocal =
    (width height qp index : ℕ) (references : List Picture) (trees others : List Tree)
    (tree : Tree) (p q : Decoded) → index < blocks_over width * blocks_over height →
    slice_get trees index ≡ Some tree → slice_get others index ≡ Some tree →
    decoded_trees qp (sites width height) trees (nothing_decoded references) ≡ Some p →
    decoded_trees qp (sites width height) others (nothing_decoded references) ≡ Some q →
    SameEdgesAround (site width height index) p q →
    SameBlockThere (site width height index) p q
