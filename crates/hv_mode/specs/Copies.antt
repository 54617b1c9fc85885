-- A square of samples that is copied among those of a coding tree block.
use Rattle.std.specs.Prelude.{◌≡◌, ℕ, ◌+◌, ◌*◌, ◌<◌, cond, List}
use Rattle.hv_block.specs.Samples.{Samples}
use Rattle.hv_tree_model.specs.Sites.{column_of, row_of}
use Rattle.hv_recon_model.specs.Reconstruction.{square_at, is_in}
use Rattle.hv_recon_model.specs.SeenSamples.{by_rows}

-- in a component of this side, the square of 2^log2 columns and rows in this column and row
pub record CopiesSquare (side x y log2 : ℕ) (from old new : List ℕ) : Type 0 where
  pub sample :
      (p q : ℕ) → p < side → q < side →
      by_rows side new p q ≡
      cond (is_in (square_at x y log2) p q) (by_rows side from p q) (by_rows side old p q)

-- the squares of a node, in each component
pub record CopiesSamples (size address : ℕ) (from old new : Samples) : Type 0 where
  pub luma :
      CopiesSquare 64 (8 * column_of address) (8 * row_of address) (size + 3) from.luma old.luma
      new.luma
  pub cb :
      CopiesSquare 32 (4 * column_of address) (4 * row_of address) (size + 2) from.cb old.cb
      new.cb
  pub cr :
      CopiesSquare 32 (4 * column_of address) (4 * row_of address) (size + 2) from.cr old.cr
      new.cr
