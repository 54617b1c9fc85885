-- The choice asks for what motion search found only at nodes of the quadtree: at their corners, and
-- with their sides.
use Rattle.std.specs.Prelude.{◌≡◌, ℕ, ◌*◌, ◌%◌, ◌<◌, ◌≤◌, List, []}
use Rattle.hv_types.specs.declared.picture.Picture.{Picture}
use Rattle.hv_tree_model.specs.Trees.{side}
use Rattle.hv_tree_model.specs.Sites.{Site, site, sites, blocks_over, squares, x0, y0}
use Rattle.hv_tree_model.specs.EarlierUnits.{Square}
use Rattle.hv_recon_model.specs.Reconstruction.{Decoded, nothing_decoded}
use Rattle.hv_mode_model.specs.ModeDecision.{FoundVectors, Given, Before, Task, best, best_trees, best_decoded, coded_trees}

-- at each node of a block the same is found
abbrev pub FindTheSame : Site → FoundVectors → FoundVectors → Type 0
FindTheSame here one other =
    (entry size address : ℕ) → size ≤ 3 → address < 64 → address % squares size ≡ 0 →
    one entry (x0 here address) (y0 here address) (side size) ≡
    other entry (x0 here address) (y0 here address) (side size)

-- a node's choice is the same by other vectors, where at nodes these are the same
abbrev pub ChoicesGoByNodes : Type 0
ChoicesGoByNodes =
    (g : Given) (other : FoundVectors) (size address : ℕ) (before : Before) →
    size ≤ 3 → address < 64 → address % squares size ≡ 0 →
    FindTheSame g.surroundings.site g.vectors other →
    best g size address before ≡ best (record g { vectors = other }) size address before

-- ---- the blocks of a picture

-- By two tasks the same is chosen for these blocks, behind these squares and what is decoded so
-- far: the trees with vectors, what is coded of them, and what they are decoded to.
pub record ChooseTheSame
    (one other : Task) (places : List Site) (done : List Square) (d : Decoded) : Type 0 where
  pub trees : best_trees one places done d ≡ best_trees other places done d
  pub coded : coded_trees one places done d ≡ coded_trees other places done d
  pub decoded : best_decoded one places done d ≡ best_decoded other places done d

-- A picture's choice is the same by other vectors, where at the nodes of its blocks these are the
-- same.
abbrev pub PicturesGoByNodes : Type 0
PicturesGoByNodes =
    (task : Task) (other : FoundVectors) (width height : ℕ) (references : List Picture) →
    ((index : ℕ) → index < blocks_over width * blocks_over height →
    FindTheSame (site width height index) task.vectors other) →
    ChooseTheSame task (record task { vectors = other }) (sites width height) []
    (nothing_decoded references)
