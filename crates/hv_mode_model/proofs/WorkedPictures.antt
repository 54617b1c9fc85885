-- Small pictures, and trees of them, for worked values.
use Rattle.std.proofs.Common.{ℕ, ◌-◌, ◌/◌, List, [], ◌∷◌, replicate, ℤ, pos}
use Rattle.hv_tables.specs.declared.bins.SliceKind.TheVariants.{I}
use Rattle.hv_types.specs.declared.picture.Picture.{Picture}
use Rattle.hv_types.specs.Samples.{plane_of}
use Rattle.hv_tree_model.specs.Trees.{Intra, TransformUnit, Tree, Leaf, Split, Outside}
use Rattle.hv_tree_model.specs.Sites.{site}
use Rattle.hv_recon_model.specs.Reconstruction.{nothing_decoded}
use Rattle.hv_mode_model.specs.ModeDecision.{Given, Before, Task, nothing_found, given_at}

-- luma of these sides by a formula over column and row, Cb and Cr of one value
abbrev pub picture : ℕ → ℕ → (ℕ → ℕ → ℕ) → ℕ → ℕ → Picture
picture width height luma cb cr = record {
  luma = plane_of width height luma;
  cb = plane_of (width / 2) (height / 2) (λ x y. cb);
  cr = plane_of (width / 2) (height / 2) (λ x y. cr);
}

-- an I picture, at this effort and quantiser
abbrev pub task : ℕ → ℕ → Picture → Task
task effort qp input =
    record {
      effort = effort;
      qp = qp;
      input = input;
      slice_type = I;
      references = 0;
      distances = [];
      vectors = nothing_found;
    }

-- its first block
abbrev pub first_given : ℕ → ℕ → Picture → Given
first_given effort qp input =
    given_at (task effort qp input) (site input.luma.width input.luma.height 0) []

abbrev pub nothing_before : Before
nothing_before = record { decoded = nothing_decoded []; earlier = [] }

abbrev pub zeros : ℕ → List ℤ
zeros n = replicate n (pos 0)

-- a block of n levels of which the first is this
abbrev pub first_only : ℕ → ℤ → List ℤ
first_only n level = level ∷ zeros (n - 1)

-- a transform unit of 8x8 of these first levels
abbrev pub unit_8 : ℤ → ℤ → ℤ → TransformUnit
unit_8 luma cb cr =
    record { luma = first_only 64 luma; cb = first_only 16 cb; cr = first_only 16 cr }

-- a coding unit of 8x8, with a first level in luma alone
abbrev pub leaf_8 : ℕ → ℤ → Tree
leaf_8 mode luma = Leaf (Intra mode) (unit_8 luma (pos 0) (pos 0) ∷ [])

-- a node of which the first part alone lies in the picture
abbrev pub first_part : Tree → Tree
first_part tree = Split tree Outside Outside Outside

-- the tree of a picture of 8x8, and of 16x16
abbrev pub tree_of_8 : Tree → Tree
tree_of_8 tree = first_part (first_part (first_part tree))

abbrev pub tree_of_16 : Tree → Tree
tree_of_16 tree = first_part (first_part tree)
