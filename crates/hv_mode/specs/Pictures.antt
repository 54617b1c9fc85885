-- The choice for the blocks of a picture in the code, one after another, each by the edges of the
-- blocks around it.
use Rattle.std.specs.Prelude.{◌≡◌, ℕ, ◌<◌, List, [], map, set, slice_get, Some}
use Rattle.hv_types.specs.declared.picture.Picture.{Picture}
use Rattle.hv_block.specs.declared.block.Block.{Block}
use Rattle.hv_block.specs.declared.edges.Neighbours.{Neighbours}
use Rattle.hv_block.specs.Around.{neighbours_of}
use Rattle.hv_block.specs.Samples.{Samples, AreWholeSamples}
use Rattle.hv_tree_model.specs.Trees.{Tree, greatest_size}
use Rattle.hv_tree_model.specs.Sites.{Site, site}
use Rattle.hv_tree_model.specs.Plans.{Plan, IsPlan, NamesItsUnits, tree_of, in_block}
use Rattle.hv_vector_model.specs.Vectors.{around_with_vectors}
use Rattle.hv_amvp.specs.Entries.{entries}
use Rattle.hv_near.specs.Neighbours.{lists_of_plan, around_of}
use Rattle.hv_recon_model.specs.Reconstruction.{Decoded}
use Rattle.hv_recon.specs.Leaves.{AreSeen, lists_with_vectors}
use Rattle.hv_mode_model.specs.ModeDecision.{Given, Before, Task, decoded_behind, coded_node, best}
use Rattle.hv_mode.specs.declared.picture_task.PictureTask.{PictureTask}
use Rattle.hv_mode.specs.Vectors.{vectors_for}

-- what is given for all blocks, as the definitions have it
abbrev pub task_of : PictureTask → Task
task_of t = record {
  effort = t.effort;
  qp = t.qp;
  input = t.input.now;
  slice_type = t.kind;
  references = t.references;
  distances = entries t.distances;
  vectors = vectors_for t;
}

-- the plans of blocks, and those with vectors
abbrev pub plans_of : List Block → List Plan
plans_of blocks = map (λ (b : Block). lists_of_plan b.plan) blocks

abbrev pub moving_plans_of : List Block → List Plan
moving_plans_of blocks = map (λ (b : Block). lists_with_vectors b.plan) blocks

-- in a picture of these sides, each square inside the picture names depth and prediction of its
-- coding unit
abbrev pub NameTheirUnits : ℕ → ℕ → List Plan → Type 0
NameTheirUnits width height plans =
    (index : ℕ) (plan : Plan) → slice_get plans index ≡ Some plan →
    NamesItsUnits (site width height index) plan

-- ---- one block

-- what is given for a block by these edges of the blocks around it
abbrev pub given_by : Task → Site → Neighbours → Given
given_by t here near = record {
  effort = t.effort;
  qp = t.qp;
  input = t.input;
  surroundings = in_block t.slice_type t.references here (around_with_vectors (around_of near));
  distances = t.distances;
  vectors = t.vectors;
}

abbrev pub before_block : Decoded → Before
before_block d = record { decoded = d; earlier = [] }

-- whatever stands in the block's own place
abbrev pub IsSeenBefore : List Picture → Site → Neighbours → Decoded → Type 0
IsSeenBefore references here near d = (own : Samples) → AreSeen here references near own 0 d

abbrev pub chosen_by : Task → Site → Neighbours → Decoded → Tree
chosen_by t here near d = best (given_by t here near) greatest_size 0 (before_block d)

-- Whatever is decoded of the picture and is seen so before the block: its tree with vectors is the
-- one that is chosen behind it, its tree as it lies in the plan is what is coded of that one, and
-- what is decoded behind the tree is seen with the block's samples.
pub record IsChosen
    (t : Task) (references : List Picture) (here : Site) (near : Neighbours) (block : Block) :
    Type 0 where
  pub plan : IsPlan (lists_of_plan block.plan)
  pub samples : AreWholeSamples block.samples
  pub names : NamesItsUnits here (lists_of_plan block.plan)
  pub moving_names : NamesItsUnits here (lists_with_vectors block.plan)
  pub tree :
      (d : Decoded) → IsSeenBefore references here near d →
      tree_of here (lists_with_vectors block.plan) ≡ chosen_by t here near d
  pub coded :
      (d : Decoded) → IsSeenBefore references here near d →
      tree_of here (lists_of_plan block.plan) ≡
      coded_node (given_by t here near) greatest_size 0 (before_block d)
      (chosen_by t here near d)
  pub seen :
      (d : Decoded) → IsSeenBefore references here near d →
      AreSeen here references near block.samples 64
      (decoded_behind (given_by t here near) greatest_size 0 (chosen_by t here near d) d)

-- the block of this number is written
abbrev pub DecidesBlock : Task → List Picture → Site → List Block → List Block → Type 0
DecidesBlock t references here old new =
    (block : Block) × (new ≡ set old here.index block) ×
    IsChosen t references here (neighbours_of old here) block

-- so many of a picture are written, from the first on
abbrev pub AreChosen : Task → List Picture → ℕ → ℕ → ℕ → List Block → Type 0
AreChosen t references width height count blocks =
    (index : ℕ) (block : Block) → index < count → slice_get blocks index ≡ Some block →
    IsChosen t references (site width height index)
    (neighbours_of blocks (site width height index)) block
