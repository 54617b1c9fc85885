-- What is decoded behind the nodes of a coding tree block of the code, and behind the whole block.
use Rattle.std.specs.Prelude.{◌≡◌, ℕ, zero, suc, ◌+◌, ◌*◌, ◌%◌, ◌<◌, ◌≤◌, Bool, true, false, List, slice_get, Option, Some}
use Rattle.hv_types.specs.declared.picture.Picture.{Picture}
use Rattle.hv_block.specs.declared.edges.Neighbours.{Neighbours}
use Rattle.hv_block.specs.Plans.{CtbPlan}
use Rattle.hv_block.specs.Samples.{Samples}
use Rattle.hv_plan.specs.declared.prediction.Unit.{Unit}
use Rattle.hv_tree_model.specs.Trees.{Tree, greatest_size}
use Rattle.hv_tree_model.specs.Sites.{Site, ctb_side, ctb_column, ctb_row, x0, y0, squares, is_outside}
use Rattle.hv_tree_model.specs.Plans.{Plan, is_leaf, tree_at, tree_of}
use Rattle.hv_recon_model.specs.Reconstruction.{Decoded, decoded_tree}
use Rattle.hv_recon.specs.Leaves.{AreSeen, lists_of_plan, DecodesLeaf}

-- ---- nodes

-- the coding quadtree of a node of the plan, as it is coded
abbrev pub node_of_plan : Site → CtbPlan → ℕ → ℕ → Tree
node_of_plan place plan size address = tree_at place (lists_of_plan plan) size address

-- Whatever is decoded of the picture and is seen so before a node: behind the node, it is seen so
-- again with the new samples.
abbrev pub DecodesNode :
    Plan → ℕ → ℕ → Site → ℕ → List Picture → Neighbours → Samples → Samples → Type 0
DecodesNode plan size address place qp references near old new =
    (d : Decoded) → AreSeen place references near old address d →
    (e : Decoded) ×
    (decoded_tree qp size (x0 place address) (y0 place address) (tree_at place plan size address)
    d ≡ Some e) ×
    AreSeen place references near new (address + squares size) e

-- whether a node inside the picture is one coding unit, by its first square: one of 8x8 always is
abbrev pub is_whole : ℕ → Option Unit → Bool
is_whole zero unit = true
is_whole (suc size) unit = is_leaf (suc size) unit

-- a size and an address that go together
pub record IsNodeOfBlock (size address : ℕ) : Type 0 where
  pub size_at_most : size ≤ greatest_size
  pub inside : address < 64
  pub multiple : address % squares size ≡ 0

-- ---- the whole block

-- Whatever is decoded of the picture, and is seen so before the block by these edges of the blocks
-- around, whatever stands in the block's own place: behind the block, it is seen with these samples
-- of it.
abbrev pub DecodesBlock : Plan → Site → ℕ → List Picture → Neighbours → Samples → Type 0
DecodesBlock plan place qp references near samples =
    (own : Samples) (d : Decoded) → AreSeen place references near own 0 d →
    (e : Decoded) ×
    (decoded_tree qp greatest_size (ctb_side * ctb_column place) (ctb_side * ctb_row place)
    (tree_of place plan) d ≡ Some e) ×
    AreSeen place references near samples 64 e

-- ---- laws

-- a node that is one coding unit
abbrev pub LeavesDecodeAsNodes : Type 0
LeavesDecodeAsNodes =
    (plan : Plan) (size address : ℕ) (place : Site) (qp : ℕ) (references : List Picture)
    (near : Neighbours) (old new : Samples) → is_outside place address ≡ false →
    is_whole size (slice_get plan.units address) ≡ true →
    DecodesLeaf plan size address place qp references near old new →
    DecodesNode plan size address place qp references near old new

-- nothing is decoded of a node outside the picture, and nothing is seen of its squares
abbrev pub NodesOutsideDecodeNothing : Type 0
NodesOutsideDecodeNothing =
    (plan : Plan) (size address : ℕ) (place : Site) (qp : ℕ) (references : List Picture)
    (near : Neighbours) (samples : Samples) → IsNodeOfBlock size address →
    is_outside place address ≡ true →
    DecodesNode plan size address place qp references near samples samples

-- a node that is split decodes as its four children do, one behind the other
abbrev pub SplitNodesDecodeByChildren : Type 0
SplitNodesDecodeByChildren =
    (plan : Plan) (size address : ℕ) (place : Site) (qp : ℕ) (references : List Picture)
    (near : Neighbours) (s0 s1 s2 s3 s4 : Samples) → IsNodeOfBlock (suc size) address →
    is_outside place address ≡ false →
    is_leaf (suc size) (slice_get plan.units address) ≡ false →
    DecodesNode plan size address place qp references near s0 s1 →
    DecodesNode plan size (address + squares size) place qp references near s1 s2 →
    DecodesNode plan size (address + 2 * squares size) place qp references near s2 s3 →
    DecodesNode plan size (address + 3 * squares size) place qp references near s3 s4 →
    DecodesNode plan (suc size) address place qp references near s0 s4

-- the node of the greatest size, behind whatever samples, is the block
abbrev pub GreatestNodesAreBlocks : Type 0
GreatestNodesAreBlocks =
    (plan : Plan) (place : Site) (qp : ℕ) (references : List Picture) (near : Neighbours)
    (samples : Samples) →
    ((own : Samples) → DecodesNode plan greatest_size 0 place qp references near own samples) →
    DecodesBlock plan place qp references near samples
