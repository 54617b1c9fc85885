-- A node of a coding tree block of the code: what is chosen for it behind whatever stands before
-- it, in one block that is written.
use Rattle.std.specs.Prelude.{◌≡◌, ℕ, ◌+◌, ◌*◌, ◌<◌, true, false, List, take}
use Rattle.hv_block.specs.declared.block.Block.{Block}
use Rattle.hv_block.specs.Plans.{CtbPlan}
use Rattle.hv_tree_model.specs.Trees.{Tree, Leaf, Intra, no_units}
use Rattle.hv_tree_model.specs.Sites.{Site, squares}
use Rattle.hv_tree_model.specs.MostProbableModes.{dc}
use Rattle.hv_tree_model.specs.Plans.{part, in_block, tree_at}
use Rattle.hv_vector_model.specs.Vectors.{around_with_vectors}
use Rattle.hv_amvp.specs.Entries.{entries}
use Rattle.hv_near.specs.Neighbours.{lists_of_plan, around_of}
use Rattle.hv_near.specs.Squares.{Shows, NamesNode}
use Rattle.hv_recon_model.specs.SeenSamples.{by_rows, comes_before}
use Rattle.hv_recon.specs.Leaves.{AreSeen, lists_with_vectors}
use Rattle.hv_recon.specs.DecodedNodes.{node_of_plan}
use Rattle.hv_mode_model.specs.ModeDecision.{Given, Before, behind, leaf, coded_node, luma_mode}
use Rattle.hv_mode.specs.declared.task.Task.{Task}
use Rattle.hv_mode.specs.Vectors.{references_of, vectors_of}

-- what is given for the block, as the definitions have it: the units around have vectors
abbrev pub given_of : Task → Given
given_of t = record {
  effort = t.effort;
  qp = t.qp;
  input = t.input.now;
  surroundings =
      in_block t.kind t.references t.place (around_with_vectors (around_of t.near.now));
  distances = entries t.distances;
  vectors = vectors_of t;
}

-- the coding quadtree of a node of the plan, with vectors
abbrev pub moving_node : Site → CtbPlan → ℕ → ℕ → Tree
moving_node place plan size address = tree_at place (lists_with_vectors plan) size address

-- Where a choice begins stands so in a block, at an address: what is decoded of the picture is seen
-- from it, and the squares that were chosen so far are those of its plan with vectors.
pub record Stands (t : Task) (block : Block) (address : ℕ) (before : Before) : Type 0 where
  pub decoded :
      AreSeen t.place (references_of t) t.near.now block.samples address before.decoded
  pub earlier : Shows t.place (lists_with_vectors block.plan) address before.earlier

-- ---- two blocks that have the same before an address, in decoding order

-- in a component of this side
pub record SameSamples (side address : ℕ) (old new : List ℕ) : Type 0 where
  pub sample :
      (x y : ℕ) → x < side → y < side → comes_before side address x y ≡ true →
      by_rows side new x y ≡ by_rows side old x y

pub record SameBefore (address : ℕ) (old new : Block) : Type 0 where
  pub units : take address new.plan.units ≡ take address old.plan.units
  pub luma_levels : take (64 * address) new.plan.luma ≡ take (64 * address) old.plan.luma
  pub cb_levels : take (16 * address) new.plan.cb ≡ take (16 * address) old.plan.cb
  pub cr_levels : take (16 * address) new.plan.cr ≡ take (16 * address) old.plan.cr
  pub luma : SameSamples 64 address old.samples.luma new.samples.luma
  pub cb : SameSamples 32 address old.samples.cb new.samples.cb
  pub cr : SameSamples 32 address old.samples.cr new.samples.cr

-- ---- a node that is chosen

-- Whatever stands before the node, the new block has, with vectors, the tree that is chosen behind
-- it, and as it is coded what is coded of that tree; what is behind the tree stands in the block
-- again. What comes before the node is kept, and its units name its coding units, with vectors too.
-- Nothing is said of what comes behind it.
pub record Decides
    (t : Task) (size address : ℕ) (choice : Before → Tree) (old new : Block) : Type 0 where
  pub kept : SameBefore address old new
  pub names : NamesNode t.place (lists_of_plan new.plan) size address
  pub moving_names : NamesNode t.place (lists_with_vectors new.plan) size address
  pub tree :
      (before : Before) → Stands t old address before →
      moving_node t.place new.plan size address ≡ choice before
  pub coded :
      (before : Before) → Stands t old address before →
      node_of_plan t.place new.plan size address ≡
      coded_node (given_of t) size address before (choice before)
  pub stands :
      (before : Before) → Stands t old address before →
      Stands t new (address + squares size)
      (behind (given_of t) size address (choice before) before)

-- one coding unit, of the luma mode of least score
abbrev pub leaf_choice : Task → ℕ → ℕ → Before → Tree
leaf_choice t size address before =
    leaf (given_of t) size address before (Intra (luma_mode (given_of t) size address before))

-- one coding unit of mode DC without a level
abbrev pub blank_choice : ℕ → Before → Tree
blank_choice size before = Leaf (Intra dc) (no_units size)

-- ---- a node that is copied

-- in a component of this side, the samples of a node
pub record SameInNode (side size address : ℕ) (from new : List ℕ) : Type 0 where
  pub sample :
      (x y : ℕ) → x < side → y < side → comes_before side address x y ≡ false →
      comes_before side (address + squares size) x y ≡ true →
      by_rows side new x y ≡ by_rows side from x y

-- the new block has the node of another one, and what it had before the node
pub record CopiesNode (size address : ℕ) (from old new : Block) : Type 0 where
  pub kept : SameBefore address old new
  pub units :
      part new.plan.units address (squares size) ≡ part from.plan.units address (squares size)
  pub luma_levels :
      part new.plan.luma (64 * address) (64 * squares size) ≡
      part from.plan.luma (64 * address) (64 * squares size)
  pub cb_levels :
      part new.plan.cb (16 * address) (16 * squares size) ≡
      part from.plan.cb (16 * address) (16 * squares size)
  pub cr_levels :
      part new.plan.cr (16 * address) (16 * squares size) ≡
      part from.plan.cr (16 * address) (16 * squares size)
  pub luma : SameInNode 64 size address from.samples.luma new.samples.luma
  pub cb : SameInNode 32 size address from.samples.cb new.samples.cb
  pub cr : SameInNode 32 size address from.samples.cr new.samples.cr
