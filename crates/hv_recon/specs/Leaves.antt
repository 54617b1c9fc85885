-- Leaves of a coding tree block of the code, and what is decoded behind them, as the definitions
-- have them: their lists, whose units may know their vectors.
use Rattle.std.specs.Prelude.{◌≡◌, ℕ, ◌+◌, ◌<◌, ◌≤◌, true, false, List, [], ◌∷◌, length, map, slice_get, Option, Some, None}
use Rattle.hv_types.specs.declared.picture.Picture.{Picture}
use Rattle.hv_block.specs.declared.edges.Edges.{Edges}
use Rattle.hv_block.specs.declared.edges.Neighbours.{Neighbours}
use Rattle.hv_block.specs.declared.frame.Frame.{Frame}
use Rattle.hv_block.specs.Plans.{CtbPlan}
use Rattle.hv_block.specs.Samples.{Samples}
use Rattle.hv_plan.specs.declared.prediction.Pred.{Pred}
use Rattle.hv_plan.specs.declared.prediction.Pred.TheVariants.{Intra, Inter}
use Rattle.hv_plan.specs.declared.prediction.Unit.{Unit}
use Rattle.hv_inter_model.specs.UnitVectors.{unit_with_vector}
use Rattle.hv_tree_model.specs.Trees.{Tree}
use Rattle.hv_tree_model.specs.Sites.{Site, x0, y0, squares}
use Rattle.hv_tree_model.specs.Plans.{Plan, leaf_at}
use Rattle.hv_recon_model.specs.Reconstruction.{Decoded, decoded_tree}
use Rattle.hv_recon_model.specs.SeenSamples.{SampleEdges, SamplesAround, IsSeen, luma_spot, chroma_spot, by_rows, comes_before}

-- ---- what lies around

abbrev pub edges_in : (Edges → List ℕ) → (Edges → List ℕ) → Option Edges → Option SampleEdges
edges_in right bottom None = None
edges_in right bottom (Some e) = Some (record { right = right e; bottom = bottom e })

abbrev pub around_in : (Edges → List ℕ) → (Edges → List ℕ) → Neighbours → SamplesAround
around_in right bottom near = record {
  left = edges_in right bottom near.left;
  above_left = edges_in right bottom near.above_left;
  above = edges_in right bottom near.above;
  above_right = edges_in right bottom near.above_right;
}

abbrev pub luma_around : Neighbours → SamplesAround
luma_around near = around_in (λ e. e.right_luma) (λ e. e.bottom_luma) near

abbrev pub cb_around : Neighbours → SamplesAround
cb_around near = around_in (λ e. e.right_cb) (λ e. e.bottom_cb) near

abbrev pub cr_around : Neighbours → SamplesAround
cr_around near = around_in (λ e. e.right_cr) (λ e. e.bottom_cr) near

-- What is decoded of the picture is seen so from a block of it: by these edges of the blocks
-- around, and by these samples of the block itself, so far as they come before this address. And
-- these are its reference pictures.
pub record AreSeen
    (place : Site) (references : List Picture) (near : Neighbours) (own : Samples) (address : ℕ)
    (d : Decoded) : Type 0 where
  pub luma : IsSeen (luma_spot place) (luma_around near) own.luma address d.luma
  pub cb : IsSeen (chroma_spot place) (cb_around near) own.cb address d.cb
  pub cr : IsSeen (chroma_spot place) (cr_around near) own.cr address d.cr
  pub same_references : d.references ≡ references

-- ---- a leaf: a node of a coding tree block that is one coding unit

abbrev pub lists_of_plan : CtbPlan → Plan
lists_of_plan p = record { units = p.units; luma = p.luma; cb = p.cb; cr = p.cr }

-- where each unit's vector stands in the place of the coded difference
abbrev pub lists_with_vectors : CtbPlan → Plan
lists_with_vectors p =
    record { units = map unit_with_vector p.units; luma = p.luma; cb = p.cb; cr = p.cr }

-- its prediction and its levels
abbrev pub leaf_of_plan : Plan → ℕ → ℕ → Tree
leaf_of_plan plan size address = leaf_at plan size address (slice_get plan.units address)

-- list 0 by its two entries, the second of which isn't there without the first
abbrev pub pictures_of : Option Frame → Option Frame → List Picture
pictures_of None second = []
pictures_of (Some first) None = first.shown ∷ []
pictures_of (Some first) (Some second) = first.shown ∷ second.shown ∷ []

-- a unit that is predicted by one of the 35 modes, or from an entry of list 0 that is there
abbrev pub IsKnownPred : List Picture → Pred → Type 0
IsKnownPred references (Intra mode) = mode ≤ 34
IsKnownPred references (Inter reference mv flag mvd) = reference < length references

abbrev pub IsKnown : List Picture → Option Unit → Type 0
IsKnown references None = ⊥
IsKnown references (Some unit) = IsKnownPred references unit.pred

-- Whatever is decoded of the picture and is seen so before a leaf: behind the leaf, it is seen so
-- again with the new samples.
abbrev pub DecodesLeaf :
    Plan → ℕ → ℕ → Site → ℕ → List Picture → Neighbours → Samples → Samples → Type 0
DecodesLeaf plan size address place qp references near old new =
    (d : Decoded) → AreSeen place references near old address d →
    (e : Decoded) ×
    (decoded_tree qp size (x0 place address) (y0 place address) (leaf_of_plan plan size address) d ≡
    Some e) ×
    AreSeen place references near new (address + squares size) e

-- ---- samples that are kept

-- in a component of this side, all but those in the squares of a node
pub record KeepsOthers (side size address : ℕ) (old new : List ℕ) : Type 0 where
  pub before :
      (x y : ℕ) → x < side → y < side → comes_before side address x y ≡ true →
      by_rows side new x y ≡ by_rows side old x y
  pub behind :
      (x y : ℕ) → x < side → y < side → comes_before side (address + squares size) x y ≡ false →
      by_rows side new x y ≡ by_rows side old x y

pub record KeepsOtherSamples (size address : ℕ) (old new : Samples) : Type 0 where
  pub luma : KeepsOthers 64 size address old.luma new.luma
  pub cb : KeepsOthers 32 size address old.cb new.cb
  pub cr : KeepsOthers 32 size address old.cr new.cr
