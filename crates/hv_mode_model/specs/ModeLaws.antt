-- What is chosen may be coded, has the vectors that it was chosen with and decodes to what the
-- choice was made by, and is chosen in a block as in the picture.
use Rattle.std.specs.Prelude.{◌≡◌, ℕ, ◌≤◌, true, List, [], ◌∷◌, Some}
use Rattle.hv_plan.specs.declared.prediction.Mv.{Mv}
use Rattle.hv_plan.specs.Levels.{has_16_bits}
use Rattle.hv_tables.specs.declared.bins.SliceKind.TheVariants.{I}
use Rattle.hv_types.specs.declared.picture.Picture.{Picture}
use Rattle.hv_tree_model.specs.Trees.{Intra, greatest_size}
use Rattle.hv_tree_model.specs.Sites.{Site, x0, y0, sites}
use Rattle.hv_tree_model.specs.EarlierUnits.{Square}
use Rattle.hv_tree_model.specs.Plans.{Plan, UnitsAround, in_block}
use Rattle.hv_unit_model.specs.PlanLaws.{ArePlansBefore, LieAround, squares_before}
use Rattle.hv_tree_model.specs.Validity.{IsValidNode}
use Rattle.hv_recon_model.specs.Reconstruction.{Decoded, nothing_decoded, decoded_tree, decoded_trees}
use Rattle.hv_recon_model.specs.ReconstructionLaws.{AreTrees, AreDecoded}
use Rattle.hv_vector_model.specs.Vectors.{moved_by, tree_with_vectors, trees_with_vectors}
use Rattle.hv_mode_model.specs.Differences.{difference}
use Rattle.hv_mode_model.specs.ModeDecision.{Given, Before, Task, nothing_found, luma_mode, predictions, decoded_behind, coded_node, best, best_tree, best_trees, best_decoded, coded_trees}

-- a node of any size at any address, in a slice of any kind, behind whatever was chosen before
abbrev pub ChosenNodesMayBeCoded : Type 0
ChosenNodesMayBeCoded =
    (g : Given) (size address : ℕ) (before : Before) → size ≤ greatest_size →
    IsValidNode g.surroundings.slice_type g.surroundings.references g.surroundings.site size address
    (coded_node g size address before (best g size address before))

-- the trees of any blocks, in a slice of any kind
abbrev pub ChosenTreesMayBeCoded : Type 0
ChosenTreesMayBeCoded =
    (task : Task) (sites : List Site) (done : List Square) (d : Decoded) →
    AreTrees task.slice_type task.references sites (coded_trees task sites done d)

-- ---- vectors

-- A vector of 16 bits is what a decoder makes of a candidate and the difference from it.
abbrev pub VectorsAreThoseFound : Type 0
VectorsAreThoseFound =
    (mv mvpL0 : Mv) → has_16_bits mv.x ≡ true → has_16_bits mv.y ≡ true →
    moved_by mvpL0 (difference mv mvpL0) ≡ mv

-- Of what is coded of a node the units have the vectors that they were chosen with.
abbrev pub CodedNodesHaveTheirVectors : Type 0
CodedNodesHaveTheirVectors =
    (g : Given) (size address : ℕ) (before : Before) → size ≤ greatest_size →
    tree_with_vectors g.distances g.surroundings.look size address before.earlier
    (coded_node g size address before (best g size address before)) ≡
    best g size address before

-- so with the trees of any blocks
abbrev pub CodedTreesHaveTheirVectors : Type 0
CodedTreesHaveTheirVectors =
    (task : Task) (sites : List Site) (done : List Square) (d : Decoded) →
    trees_with_vectors task.distances sites done (coded_trees task sites done d) ≡
    best_trees task sites done d

-- ---- samples

-- Decoding of a chosen node gives the samples by which its cost was counted, and behind which the
-- next one was chosen.
abbrev pub ChosenNodesAreDecoded : Type 0
ChosenNodesAreDecoded =
    (g : Given) (size address : ℕ) (before : Before) → size ≤ greatest_size →
    decoded_tree g.qp size (x0 g.surroundings.site address) (y0 g.surroundings.site address)
    (best g size address before) before.decoded ≡
    Some (decoded_behind g size address (best g size address before) before.decoded)

-- so with the trees of any blocks
abbrev pub ChosenTreesAreDecoded : Type 0
ChosenTreesAreDecoded =
    (task : Task) (sites : List Site) (done : List Square) (d : Decoded) →
    decoded_trees task.qp sites (best_trees task sites done d) d ≡
    Some (best_decoded task sites done d)

-- of a picture every sample is decoded, whatever its reference pictures are
abbrev pub EveryChosenSampleIsDecoded : Type 0
EveryChosenSampleIsDecoded =
    (task : Task) (references : List Picture) (width height : ℕ) →
    AreDecoded width height
    (best_decoded task (sites width height) [] (nothing_decoded references))

-- ---- where no unit is predicted from another picture: in an I slice, and where nothing is found

-- units are predicted from their own picture, and coded as they are
pub record IsIntraAlone (g : Given) : Type 0 where
  pub tried :
      (size address : ℕ) (before : Before) →
      predictions g size address before ≡ Intra (luma_mode g size address before) ∷ []
  pub coded :
      (size address : ℕ) (before : Before) →
      coded_node g size address before (best g size address before) ≡ best g size address before

abbrev pub ISlicesAreIntraAlone : Type 0
ISlicesAreIntraAlone = (g : Given) → g.surroundings.slice_type ≡ I → IsIntraAlone g

abbrev pub NothingFoundIsIntraAlone : Type 0
NothingFoundIsIntraAlone = (g : Given) → g.vectors ≡ nothing_found → IsIntraAlone g

-- ---- in a block

-- What is chosen for a block by the units of the blocks around it is what is chosen for it in the
-- picture.
abbrev pub ChoicesInBlockAreThoseInPicture : Type 0
ChoicesInBlockAreThoseInPicture =
    (task : Task) (here : Site) (plans : List Plan) (around : UnitsAround) (d : Decoded) →
    ArePlansBefore here plans → LieAround here plans around →
    best
    (record {
      effort = task.effort;
      qp = task.qp;
      input = task.input;
      surroundings = in_block task.slice_type task.references here around;
      distances = task.distances;
      vectors = task.vectors;
    })
    greatest_size 0 (record { decoded = d; earlier = [] }) ≡
    best_tree task here (squares_before here plans) d
