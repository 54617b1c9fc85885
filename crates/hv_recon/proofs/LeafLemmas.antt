-- A leaf: what is decoded behind it, and which samples are kept.
use Rattle.std.proofs.Common.{◌≡◌, ℕ, zero, suc, ◌+◌, ◌%◌, ◌<◌, ◌≤◌, List, length, get_or, refl, ap, ◌∙◌, arith}
use Rattle.std.specs.Prelude.{Some, slice_get}
use Rattle.std.proofs.lemmas.Option.{slice_get-get_or}
use Rattle.hv_block.specs.declared.edges.Neighbours.{Neighbours}
use Rattle.hv_block.specs.Samples.{Samples}
use Rattle.hv_plan.specs.declared.prediction.Pred.{Pred}
use Rattle.hv_plan.specs.declared.prediction.Pred.TheVariants.{Intra as IntraPred}
use Rattle.hv_plan.specs.declared.prediction.Unit.{Unit}
use Rattle.hv_types.specs.declared.picture.Picture.{Picture}
use Rattle.hv_tree_model.specs.Trees.{Prediction}
use Rattle.hv_tree_model.specs.Sites.{Site, x0, y0, squares}
use Rattle.hv_tree_model.specs.Plans.{Plan, prediction_of, transform_unit_at, leaf_at}
use Rattle.hv_recon_model.specs.Reconstruction.{Decoded, square_at, decoded_unit, decoded_tree}
use Rattle.hv_recon_model.proofs.SeenLemmas.{before_stays, behind_stays}
use Rattle.hv_recon_model.proofs.SeenNodeLemmas.{luma_between, chroma_between}
use Rattle.hv_recon.specs.Leaves.{AreSeen, DecodesLeaf, KeepsOtherSamples}
use Rattle.hv_recon.specs.Units.{AreBlocksPut}
use Rattle.hv_recon.proofs.UnitLemmas.{is_node, luma_square}

abbrev pub intra_unit : ℕ → ℕ → Unit
intra_unit depth mode = record { depth = depth; pred = IntraPred mode }

-- ---- one of a transform unit

one_unit : (plan : Plan) (qp size address x y : ℕ) (unit : Unit) (d : Decoded) → size ≤ 2 →
    decoded_tree qp size x y (leaf_at plan size address (Some unit)) d ≡
    decoded_unit qp (prediction_of unit.pred) (square_at x y (size + 3))
    (transform_unit_at plan (size + 3) address) d
unfolding decoded_tree
one_unit plan qp zero address x y unit d few = refl
one_unit plan qp (suc zero) address x y unit d few = refl
one_unit plan qp (suc (suc zero)) address x y unit d few = refl
one_unit plan qp (suc (suc (suc size))) address x y unit d few = absurd (omega (arith, few))

-- what is decoded behind a transform unit of a plan, at its address
abbrev pub DecodesUnit :
    Prediction → Plan → ℕ → ℕ → Site → ℕ → List Picture → Neighbours → Samples → Samples → Type 0
DecodesUnit prediction plan size address place qp references near old new =
    (d : Decoded) → AreSeen place references near old address d →
    (e : Decoded) ×
    (decoded_unit qp prediction (luma_square place size address)
    (transform_unit_at plan (size + 3) address) d ≡ Some e) ×
    AreSeen place references near new (address + squares size) e

pub small_leaf : (plan : Plan) (place : Site) (references : List Picture) (near : Neighbours)
    (size address qp : ℕ) (unit : Unit) (old new : Samples) → size ≤ 2 →
    slice_get plan.units address ≡ Some unit →
    DecodesUnit (prediction_of unit.pred) plan size address place qp references near old new →
    DecodesLeaf plan size address place qp references near old new
small_leaf plan place references near size address qp unit old new few there behind d seen =
    let e = behind d seen in (
      e.0,
      ap (λ u. decoded_tree qp size (x0 place address) (y0 place address)
          (leaf_at plan size address u) d) there ∙
          one_unit plan qp size address (x0 place address) (y0 place address) unit d few ∙ e.1,
      e.2,
    )

pub unit_keeps : (luma cb cr : List ℕ) (size address : ℕ) (old new : Samples) → size ≤ 2 →
    address < 64 → address % squares size ≡ 0 → AreBlocksPut luma cb cr size address old new →
    KeepsOtherSamples size address old new
unit_keeps luma_block cb_block cr_block size address old new few below even put =
    let node = is_node size address few below even in
    let next : ℕ = address + squares size in
    let luma = luma_between size address few node in
    let chroma = chroma_between size address few node in
    record {
      luma = record {
        before = λ x y across down h.
            before_stays 64 _ _ _ address next _ _ _ x y luma put.luma across down h;
        behind = λ x y across down h.
            behind_stays 64 _ _ _ address next _ _ _ x y luma put.luma across down h;
      };
      cb = record {
        before = λ x y across down h.
            before_stays 32 _ _ _ address next _ _ _ x y chroma put.cb across down h;
        behind = λ x y across down h.
            behind_stays 32 _ _ _ address next _ _ _ x y chroma put.cb across down h;
      };
      cr = record {
        before = λ x y across down h.
            before_stays 32 _ _ _ address next _ _ _ x y chroma put.cr across down h;
        behind = λ x y across down h.
            behind_stays 32 _ _ _ address next _ _ _ x y chroma put.cr across down h;
      };
    }

-- ---- the unit of a plan

pub unit_there : (units : List Unit) (address : ℕ) (pred : Pred) (other : Unit) →
    address < length units → (get_or units address other).pred ≡ pred →
    slice_get units address ≡
    Some (record { depth = (get_or units address other).depth; pred = pred })
unit_there units address pred other below is =
    slice_get-get_or units address other below ∙
    (λ i. Some (record { depth = (get_or units address other).depth; pred = is i }))
