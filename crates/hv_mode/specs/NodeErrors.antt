-- The squared differences of the input and the samples of a coding tree block in squares of its
-- colour components, by the block's own rows, and the squares of a node.
use Rattle.std.specs.Prelude.{◌≡◌, ℕ, ◌+◌, ◌*◌, ◌/◌, ◌^◌, ◌≤◌, List}
use Rattle.hv_types.specs.declared.picture.Picture.{Picture}
use Rattle.hv_types.specs.Samples.{Plane, sample_at}
use Rattle.hv_sample_model.specs.Blocks.{total_of}
use Rattle.hv_tree_model.specs.Sites.{Site, column_of, row_of, x0, y0}
use Rattle.hv_recon_model.specs.Reconstruction.{sample_of}
use Rattle.hv_recon_model.specs.SeenSamples.{by_rows}
use Rattle.hv_mode_model.specs.ModeDecision.{squared_difference}
use Rattle.hv_mode.specs.declared.square.Square.{Square}

-- the block has rows of this side
abbrev pub errors_by_rows : ℕ → Plane → List ℕ → Square → ℕ
errors_by_rows side input own s =
    total_of (2 ^ s.log2) (λ y. total_of (2 ^ s.log2) (λ x.
    squared_difference (sample_at input (s.left + x) (s.top + y))
    (sample_of (by_rows side own (s.column + x) (s.row + y)))))

-- the square has the luma samples of a node
pub record IsLumaOfNode (place : Site) (size address : ℕ) (luma : Square) : Type 0 where
  pub left : luma.left ≡ x0 place address
  pub top : luma.top ≡ y0 place address
  pub column : luma.column ≡ 8 * column_of address
  pub row : luma.row ≡ 8 * row_of address
  pub log2 : luma.log2 ≡ size + 3

-- the square has the samples of Cb, or of Cr, under those of luma
pub record IsChromaOf (luma chroma : Square) : Type 0 where
  pub left : chroma.left ≡ luma.left / 2
  pub top : chroma.top ≡ luma.top / 2
  pub column : chroma.column ≡ luma.column / 2
  pub row : chroma.row ≡ luma.row / 2
  pub log2 : chroma.log2 + 1 ≡ luma.log2

-- they lie in the picture, and in the block
pub record Fit (input : Picture) (luma chroma : Square) : Type 0 where
  pub across : luma.left + 2 ^ luma.log2 ≤ input.luma.width
  pub down : luma.top + 2 ^ luma.log2 ≤ input.luma.height
  pub right : luma.column + 2 ^ luma.log2 ≤ 64
  pub bottom : luma.row + 2 ^ luma.log2 ≤ 64
  pub cb_across : chroma.left + 2 ^ chroma.log2 ≤ input.cb.width
  pub cb_down : chroma.top + 2 ^ chroma.log2 ≤ input.cb.height
  pub cr_across : chroma.left + 2 ^ chroma.log2 ≤ input.cr.width
  pub cr_down : chroma.top + 2 ^ chroma.log2 ≤ input.cr.height
  pub chroma_right : chroma.column + 2 ^ chroma.log2 ≤ 32
  pub chroma_bottom : chroma.row + 2 ^ chroma.log2 ≤ 32
