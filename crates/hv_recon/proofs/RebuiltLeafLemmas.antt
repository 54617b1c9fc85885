-- A leaf that is rebuilt, intra or inter, of one transform unit or of four: what is decoded behind
-- it where its units know their vectors, and which samples are kept.
use Rattle.std.proofs.Common.{◌≡◌, ℕ, zero, suc, ◌%◌, ◌<◌, ◌≤◌, List, map, refl, sym, ap, subst, ◌∙◌, arith}
use Rattle.std.specs.Prelude.{Some, slice_get, option_map}
use Rattle.std.proofs.Math.Dec.{lit≤}
use Rattle.std.proofs.lemmas.Option.{slice_get-map}
use Rattle.hv_types.specs.declared.picture.Picture.{Picture}
use Rattle.hv_block.specs.declared.edges.Neighbours.{Neighbours}
use Rattle.hv_block.specs.Plans.{CtbPlan}
use Rattle.hv_block.specs.Samples.{Samples}
use Rattle.hv_plan.specs.declared.prediction.Mv.{Mv}
use Rattle.hv_plan.specs.declared.prediction.Pred.TheVariants.{Inter as InterPred}
use Rattle.hv_plan.specs.declared.prediction.Unit.{Unit}
use Rattle.hv_inter_model.specs.UnitVectors.{unit_with_vector}
use Rattle.hv_tree_model.specs.Trees.{Motion, Intra, Inter}
use Rattle.hv_tree_model.specs.Sites.{Site, squares}
use Rattle.hv_tree_model.specs.Plans.{leaf_at}
use Rattle.hv_recon.specs.Leaves.{lists_of_plan, lists_with_vectors, leaf_of_plan, DecodesLeaf, KeepsOtherSamples}
use Rattle.hv_recon.specs.Units.{IsUnitPut, IsInterUnitPut, AreQuartersPut, AreInterQuartersPut}
use Rattle.hv_recon.proofs.UnitLemmas.{is_node, UnitInPicture, unit_behind, inter_unit_behind}
use Rattle.hv_recon.proofs.LeafLemmas.{intra_unit, small_leaf, unit_keeps}
use Rattle.hv_recon.proofs.GreatLeafLemmas.{great_leaf, quarters_keep}

-- a leaf of 64x64 has the first address
by_size : (Goal : ℕ → ℕ → Type 0) (size address : ℕ) → size ≤ 3 → address < 64 →
    address % squares size ≡ 0 → (size ≤ 2 → Goal size address) → (size ≡ 3 → Goal 3 0) →
    Goal size address
by_size Goal zero address few below even small great = small (lit≤ tt)
by_size Goal (suc zero) address few below even small great = small (lit≤ tt)
by_size Goal (suc (suc zero)) address few below even small great = small (lit≤ tt)
by_size Goal (suc (suc (suc zero))) address few below even small great =
    let node : address % 64 ≡ 0 = even in
    let first : 0 ≡ address = omega (arith, node, below) in
    subst (Goal 3) first (great refl)
by_size Goal (suc (suc (suc (suc size)))) address few below even small great =
    absurd (omega (arith, few))

with_vector : (units : List Unit) (address : ℕ) (unit : Unit) →
    slice_get units address ≡ Some unit →
    slice_get (map unit_with_vector units) address ≡ Some (unit_with_vector unit)
with_vector units address unit there =
    slice_get-map unit_with_vector units address ∙ ap (option_map unit_with_vector) there

-- an intra leaf is the same whether or not units know their vectors
pub intra_leaf_same : (plan : CtbPlan) (size address depth mode : ℕ) →
    slice_get plan.units address ≡ Some (intra_unit depth mode) →
    leaf_of_plan (lists_with_vectors plan) size address ≡
    leaf_of_plan (lists_of_plan plan) size address
intra_leaf_same plan size address depth mode there =
    ap (leaf_at (lists_with_vectors plan) size address)
    (with_vector plan.units address (intra_unit depth mode) there) ∙
    sym (ap (leaf_at (lists_of_plan plan) size address) there)

abbrev pub inter_unit : ℕ → ℕ → Mv → ℕ → Mv → Unit
inter_unit depth reference mv flag mvd =
    record { depth = depth; pred = InterPred reference mv flag mvd }

module _ (plan : CtbPlan) (place : Site) (references : List Picture) (near : Neighbours)
    (size address qp : ℕ) (old new : Samples) (few : size ≤ 3) (below : address < 64)
    (even : address % squares size ≡ 0) where
  -- ---- intra

  module _ (mode : ℕ)
      (one : size ≤ 2 → IsUnitPut plan place near size address mode qp old new)
      (four : size ≡ 3 → AreQuartersPut plan place near mode qp old new) where
    pub intra_leaf_decodes : (depth : ℕ) → UnitInPicture place size address →
        slice_get plan.units address ≡ Some (intra_unit depth mode) →
        DecodesLeaf (lists_with_vectors plan) size address place qp references near old new
    intra_leaf_decodes depth =
        let unit : Unit = intra_unit depth mode in
        by_size (λ n a. UnitInPicture place n a → slice_get plan.units a ≡ Some unit →
        DecodesLeaf (lists_with_vectors plan) n a place qp references near old new) size address few
        below even
        (λ small inside there.
        small_leaf (lists_with_vectors plan) place references near size address qp unit old new
        small (with_vector plan.units address unit there)
        (λ d seen. unit_behind plan place references near size address mode qp old new d small
        (is_node size address small below even) inside (one small) seen))
        (λ three inside there.
        great_leaf (Intra mode) (lists_with_vectors plan) place references near qp
        (λ a. IsUnitPut plan place near 2 a mode qp)
        (λ a b c low node lies put d seen. unit_behind plan place references near 2 a mode qp b c d
        (lit≤ tt) (is_node 2 a (lit≤ tt) low node) lies put seen)
        unit old new refl inside (with_vector plan.units 0 unit there) (four three))

    pub intra_leaf_keeps : KeepsOtherSamples size address old new
    intra_leaf_keeps =
        by_size (λ n a. KeepsOtherSamples n a old new) size address few below even
        (λ small. unit_keeps _ _ _ size address old new small below even (one small))
        (λ three. quarters_keep (λ a. IsUnitPut plan place near 2 a mode qp) old new
        (λ a b c low node put. unit_keeps _ _ _ 2 a b c (lit≤ tt) low node put) (four three))

  -- ---- inter

  module _ (reference : Picture) (mv : Mv)
      (one : size ≤ 2 → IsInterUnitPut plan place size address reference mv qp old new)
      (four : size ≡ 3 → AreInterQuartersPut plan place reference mv qp old new) where
    pub inter_leaf_decodes : (depth entry flag : ℕ) (mvd : Mv) →
        slice_get references entry ≡ Some reference → UnitInPicture place size address →
        slice_get plan.units address ≡ Some (inter_unit depth entry mv flag mvd) →
        DecodesLeaf (lists_with_vectors plan) size address place qp references near old new
    inter_leaf_decodes depth entry flag mvd used =
        let unit : Unit = inter_unit depth entry mv flag mvd in
        let moves : Unit = inter_unit depth entry mv flag mv in
        let motion : Motion = record { ref_idx_l0 = entry; mvp_l0_flag = flag; MvdL0 = mv } in
        by_size (λ n a. UnitInPicture place n a → slice_get plan.units a ≡ Some unit →
        DecodesLeaf (lists_with_vectors plan) n a place qp references near old new) size address few
        below even
        (λ small inside there.
        small_leaf (lists_with_vectors plan) place references near size address qp moves old new
        small (with_vector plan.units address unit there)
        (λ d seen. inter_unit_behind motion plan place references reference near size address qp old
        new d used small (is_node size address small below even) inside (one small) seen))
        (λ three inside there.
        great_leaf (Inter motion) (lists_with_vectors plan) place references near qp
        (λ a. IsInterUnitPut plan place 2 a reference mv qp)
        (λ a b c low node lies put d seen. inter_unit_behind motion plan place references reference
        near 2 a qp b c d used (lit≤ tt) (is_node 2 a (lit≤ tt) low node) lies put seen)
        moves old new refl inside (with_vector plan.units 0 unit there) (four three))

    pub inter_leaf_keeps : KeepsOtherSamples size address old new
    inter_leaf_keeps =
        by_size (λ n a. KeepsOtherSamples n a old new) size address few below even
        (λ small. unit_keeps _ _ _ size address old new small below even (one small))
        (λ three. quarters_keep (λ a. IsInterUnitPut plan place 2 a reference mv qp) old new
        (λ a b c low node put. unit_keeps _ _ _ 2 a b c (lit≤ tt) low node put) (four three))
