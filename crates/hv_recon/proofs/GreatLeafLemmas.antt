-- A leaf of 64x64: what is decoded behind its four transform units, and that they are all of the
-- coding tree block.
use Rattle.std.proofs.Common.{◌≡◌, ℕ, ◌+◌, ◌%◌, ◌<◌, ◌≤◌, false, List, [], ◌∷◌, refl, ap, ◌∙◌, arith}
use Rattle.std.specs.Prelude.{Some, slice_get, option_and_then}
use Rattle.std.proofs.lemmas.Bool.{ltb-true}
use Rattle.std.proofs.lemmas.Bool.Decides.{nat_tests}
use Rattle.std.proofs.Math.Dec.{lit<, lit≤}
use Rattle.hv_types.specs.declared.picture.Picture.{Picture}
use Rattle.hv_block.specs.declared.edges.Neighbours.{Neighbours}
use Rattle.hv_block.specs.Plans.{CtbPlan}
use Rattle.hv_block.specs.Samples.{Samples}
use Rattle.hv_plan.specs.declared.prediction.Unit.{Unit}
use Rattle.hv_tree_model.specs.Trees.{Prediction, Intra, TransformUnit, Leaf, log2TrafoSize, transform_units}
use Rattle.hv_tree_model.specs.Sites.{Site, x0, y0, column_of, row_of, squares}
use Rattle.hv_tree_model.specs.Plans.{Plan, prediction_of, transform_unit_at, transform_units_at, leaf_at}
use Rattle.hv_recon_model.specs.Reconstruction.{Decoded, square_at, decoded_unit, decoded_quarters, decoded_tree}
use Rattle.hv_recon_model.specs.SeenSamples.{comes_before}
use Rattle.hv_recon.specs.Leaves.{AreSeen, lists_of_plan, DecodesLeaf, KeepsOthers, KeepsOtherSamples}
use Rattle.hv_recon.specs.Units.{IsUnitPut, AreFourPut, AreQuartersPut}
use Rattle.hv_recon.proofs.UnitLemmas.{is_node, UnitInPicture, unit_behind}
use Rattle.hv_recon.proofs.LeafLemmas.{intra_unit, DecodesUnit, small_leaf, unit_keeps}

-- ---- where the quarters lie

pub record QuarterPlaces (place : Site) : Type 0 where
  pub right : x0 place 0 + 32 ≡ x0 place 16
  pub top : y0 place 0 ≡ y0 place 16
  pub left : x0 place 0 ≡ x0 place 32
  pub below : y0 place 0 + 32 ≡ y0 place 32
  pub last_right : x0 place 0 + 32 ≡ x0 place 48
  pub last_below : y0 place 0 + 32 ≡ y0 place 48

pub quarter_places : (place : Site) → QuarterPlaces place
unfolding column_of row_of
quarter_places place = record {
  right = omega arith;
  top = refl;
  left = refl;
  below = omega arith;
  last_right = omega arith;
  last_below = omega arith;
}

-- ---- what is decoded

module _ (prediction : Prediction) (plan : Plan) (place : Site) (references : List Picture)
    (near : Neighbours) (qp : ℕ) (IsOnePut : ℕ → Samples → Samples → Type 0)
    (behind : (address : ℕ) (old new : Samples) → address < 64 → address % 16 ≡ 0 →
    UnitInPicture place 2 address → IsOnePut address old new →
    DecodesUnit prediction plan 2 address place qp references near old new) where
  abbrev unit_at : ℕ → TransformUnit
  unit_at address = transform_unit_at plan 5 address

  pub quarter_behind : (address : ℕ) (old new : Samples) (x y : ℕ) (d : Decoded) → address < 64 →
      address % 16 ≡ 0 → UnitInPicture place 2 address → x ≡ x0 place address →
      y ≡ y0 place address → IsOnePut address old new →
      AreSeen place references near old address d →
      (e : Decoded) ×
      (decoded_unit qp prediction (square_at x y 5) (unit_at address) d ≡ Some e) ×
      AreSeen place references near new (address + 16) e
  quarter_behind address old new x y d below even inside across down put seen =
      let e = behind address old new below even inside put d seen in (
        e.0,
        (λ i. decoded_unit qp prediction (square_at (across i) (down i) 5) (unit_at address) d) ∙
            e.1,
        e.2,
      )

  pub great_leaf : (unit : Unit) (old new : Samples) → prediction_of unit.pred ≡ prediction →
      UnitInPicture place 3 0 → slice_get plan.units 0 ≡ Some unit →
      AreFourPut IsOnePut old new → DecodesLeaf plan 3 0 place qp references near old new
  unfolding decoded_tree
  great_leaf unit old new is inside there put d seen =
      let p = quarter_places place in
      let x : ℕ = x0 place 0 in
      let y : ℕ = y0 place 0 in
      let a = quarter_behind 0 old put.first x y d (lit< tt) refl
      (record { across = omega (arith, inside.across); down = omega (arith, inside.down) }) refl
      refl put.first_put seen in
      let b = quarter_behind 16 put.first put.second (x + 32) y a.0 (lit< tt) refl
      (record {
        across = omega (arith, inside.across, p.right);
        down = omega (arith, inside.down, p.top);
      }) p.right p.top put.second_put a.2 in
      let c = quarter_behind 32 put.second put.third x (y + 32) b.0 (lit< tt) refl
      (record {
        across = omega (arith, inside.across, p.left);
        down = omega (arith, inside.down, p.below);
      }) p.left p.below put.third_put b.2 in
      let e = quarter_behind 48 put.third new (x + 32) (y + 32) c.0 (lit< tt) refl
      (record {
        across = omega (arith, inside.across, p.last_right);
        down = omega (arith, inside.down, p.last_below);
      }) p.last_right p.last_below
      put.fourth_put c.2 in
      let s = square_at x y 6 in
      let t2 : List TransformUnit = unit_at 48 ∷ [] in
      let t3 : List TransformUnit = unit_at 32 ∷ t2 in
      let t4 : List TransformUnit = unit_at 16 ∷ t3 in (
        e.0,
        ap (λ u. decoded_tree qp 3 x y (leaf_at plan 3 0 u) d) there ∙
            ap (λ v. decoded_tree qp 3 x y
            (Leaf v (transform_units_at plan (log2TrafoSize 3) 0 (transform_units 3))) d) is ∙
            ap (option_and_then (decoded_quarters qp prediction s 1 t4)) a.1 ∙
            ap (option_and_then (decoded_quarters qp prediction s 2 t3)) b.1 ∙
            ap (option_and_then (decoded_quarters qp prediction s 3 t2)) c.1 ∙
            ap (option_and_then (decoded_quarters qp prediction s 4 [])) e.1,
        e.2,
      )

-- ---- nothing else is there

all_there : (side n : ℕ) (x y : ℕ) → n ≤ 64 → comes_before side 64 x y ≡ false →
    comes_before side n x y ≡ false
all_there side n x y few behind = grind (arith, nat_tests, few, behind)

four_keep : (side : ℕ) (a b c d e : List ℕ) → KeepsOthers side 2 0 a b →
    KeepsOthers side 2 16 b c → KeepsOthers side 2 32 c d → KeepsOthers side 2 48 d e →
    KeepsOthers side 3 0 a e
four_keep side a b c d e h1 h2 h3 h4 = record {
  before = λ x y across down before. absurd (none _ (ltb-true _ _ before));
  behind = λ x y across down behind.
      h4.behind x y across down (all_there side 64 x y (lit≤ tt) behind) ∙
      h3.behind x y across down (all_there side 48 x y (lit≤ tt) behind) ∙
      h2.behind x y across down (all_there side 32 x y (lit≤ tt) behind) ∙
      h1.behind x y across down (all_there side 16 x y (lit≤ tt) behind);
} where
  none : (n : ℕ) → n < 0 → ⊥
  none n below = absurd (omega (arith, below))

pub quarters_keep : (IsOnePut : ℕ → Samples → Samples → Type 0) (old new : Samples) →
    ((address : ℕ) (a b : Samples) → address < 64 → address % 16 ≡ 0 → IsOnePut address a b →
    KeepsOtherSamples 2 address a b) →
    AreFourPut IsOnePut old new → KeepsOtherSamples 3 0 old new
quarters_keep IsOnePut old new keeps put =
    let a = keeps 0 _ _ (lit< tt) refl put.first_put in
    let b = keeps 16 _ _ (lit< tt) refl put.second_put in
    let c = keeps 32 _ _ (lit< tt) refl put.third_put in
    let d = keeps 48 _ _ (lit< tt) refl put.fourth_put in
    record {
      luma = four_keep 64 _ _ _ _ _ a.luma b.luma c.luma d.luma;
      cb = four_keep 32 _ _ _ _ _ a.cb b.cb c.cb d.cb;
      cr = four_keep 32 _ _ _ _ _ a.cr b.cr c.cr d.cr;
    }

-- ---- intra leaves of the code

pub small_intra_leaf : (plan : CtbPlan) (place : Site) (references : List Picture)
    (near : Neighbours) (size address depth mode qp : ℕ) (old new : Samples) → size ≤ 2 →
    address < 64 → address % squares size ≡ 0 → UnitInPicture place size address →
    slice_get plan.units address ≡ Some (intra_unit depth mode) →
    IsUnitPut plan place near size address mode qp old new →
    DecodesLeaf (lists_of_plan plan) size address place qp references near old new
small_intra_leaf plan place references near size address depth mode qp old new few below even inside
    there put =
    small_leaf (lists_of_plan plan) place references near size address qp (intra_unit depth mode)
    old new few there
    (λ d seen. unit_behind plan place references near size address mode qp old new d few
    (is_node size address few below even) inside put seen)

pub great_intra_leaf : (plan : CtbPlan) (place : Site) (references : List Picture)
    (near : Neighbours) (depth mode qp : ℕ) (old new : Samples) → UnitInPicture place 3 0 →
    slice_get plan.units 0 ≡ Some (intra_unit depth mode) →
    AreQuartersPut plan place near mode qp old new →
    DecodesLeaf (lists_of_plan plan) 3 0 place qp references near old new
great_intra_leaf plan place references near depth mode qp old new inside there put =
    great_leaf (Intra mode) (lists_of_plan plan) place references near qp
    (λ address. IsUnitPut plan place near 2 address mode qp)
    (λ address a b below even lies one d seen.
    unit_behind plan place references near 2 address mode qp a b d (lit≤ tt)
    (is_node 2 address (lit≤ tt) below even) lies one seen)
    (intra_unit depth mode) old new refl inside there put

pub intra_quarters_keep : (plan : CtbPlan) (place : Site) (near : Neighbours) (mode qp : ℕ)
    (old new : Samples) → AreQuartersPut plan place near mode qp old new →
    KeepsOtherSamples 3 0 old new
intra_quarters_keep plan place near mode qp old new put =
    quarters_keep (λ address. IsUnitPut plan place near 2 address mode qp) old new
    (λ address a b below even one. unit_keeps _ _ _ 2 address a b (lit≤ tt) below even one) put
