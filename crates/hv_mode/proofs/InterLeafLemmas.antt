-- The levels of an inter coding unit are those that are chosen for it: each transform unit is
-- predicted from the reference picture alone, whatever is decoded before it.
use Rattle.std.proofs.Common.{◌≡◌, ℕ, zero, suc, ◌+◌, ◌-◌, ◌*◌, ◌/◌, ◌%◌, ◌^◌, ◌≤◌, Bool, true, false, List, [], ◌∷◌, map, take, drop, refl, sym, ap, ap₂, subst, ◌∙◌, arith, ℤ}
use Rattle.std.specs.Prelude.{slice_get, Option, Some, None, option_map}
use Rattle.std.proofs.lemmas.Option.{slice_get-map}
use Rattle.hv_lemmas.proofs.ListLemmas.{part_of_front}
use Rattle.hv_plan.specs.declared.prediction.Mv.{Mv}
use Rattle.hv_types.specs.declared.picture.Picture.{Picture}
use Rattle.hv_types.specs.Samples.{Plane}
use Rattle.hv_tables.specs.Quantisers.{chroma_qp}
use Rattle.hv_block.specs.Plans.{CtbPlan}
use Rattle.hv_inter_model.specs.Interpolation.{inter_predicted}
use Rattle.hv_sample_model.specs.Quantisation.{levels}
use Rattle.hv_tree_model.specs.Trees.{Motion, Inter, TransformUnit, log2TrafoSize, transform_units}
use Rattle.hv_tree_model.specs.Sites.{x0, y0, squares}
use Rattle.hv_tree_model.specs.Plans.{part, transform_unit_at, transform_units_at}
use Rattle.hv_near.specs.Neighbours.{lists_of_plan}
use Rattle.hv_recon_model.specs.Reconstruction.{Component, Decoded, Square, square_at, quarter, all_decoded, decoded_unit, luma_planes, cb_planes, cr_planes}
use Rattle.hv_recon.specs.Coding.{input_block}
use Rattle.hv_recon.specs.CodedUnits.{KeepsEarlier}
use Rattle.hv_recon.specs.DecodedNodes.{IsNodeOfBlock}
use Rattle.hv_recon.proofs.GreatLeafLemmas.{quarter_places}
use Rattle.hv_mode_model.specs.ModeDecision.{Given, or_else, differences, chosen_levels, chosen_unit, chosen_units, node_square}
use Rattle.hv_mode.specs.declared.task.Task.{Task}
use Rattle.hv_mode.specs.InterLevels.{inter_levels, HasInterLevels}
use Rattle.hv_mode.specs.Nodes.{given_of}

-- ---- a block

block_is : (log2 qp : ℕ) (is_luma : Bool) (motion : Motion) (mv : Mv) (x y : ℕ)
    (input plane : Plane) (planes : List Plane) (samples : Component) → motion.MvdL0 ≡ mv →
    slice_get planes motion.ref_idx_l0 ≡ Some plane →
    inter_levels log2 is_luma qp mv x y input plane ≡
    chosen_levels (Inter motion) is_luma qp input planes samples (square_at x y log2)
unfolding chosen_levels
block_is log2 qp is_luma motion mv x y input plane planes samples same there =
    ap₂ (λ (v : Mv) (p : Option Plane). levels log2 qp false
    (differences (input_block input x y log2)
    (or_else [] (option_map (λ q. inter_predicted is_luma q v x y (2 ^ log2)) p))))
    (sym same) (sym there)

-- a component of the picture that is named
its_plane : (component : Picture → Plane) (references : List Picture) (entry : ℕ)
    (reference : Picture) → slice_get references entry ≡ Some reference →
    slice_get (map component references) entry ≡ Some (component reference)
its_plane component references entry reference there =
    slice_get-map component references entry ∙ ap (option_map component) there

-- ---- a transform unit

module _ (t : Task) (reference : Picture) (mv : Mv) (motion : Motion)
    (same : motion.MvdL0 ≡ mv) where
  abbrev HasLevels : ℕ → ℕ → CtbPlan → Type 0
  HasLevels size address plan = HasInterLevels t reference mv size address plan

  pub unit_is : (size address : ℕ) (plan : CtbPlan) (d : Decoded) →
      slice_get d.references motion.ref_idx_l0 ≡ Some reference → HasLevels size address plan →
      transform_unit_at (lists_of_plan plan) (size + 3) address ≡
      chosen_unit (given_of t) (Inter motion)
      (square_at (x0 t.place address) (y0 t.place address) (size + 3)) d
  unit_is size address plan d there has =
      let side : size + 3 - 1 ≡ size + 2 = omega arith in
      let entry : ℕ = motion.ref_idx_l0 in
      let x : ℕ = x0 t.place address in
      let y : ℕ = y0 t.place address in
      let luma =
      has.luma ∙
      block_is (size + 3) t.qp true motion mv x y t.input.now.luma reference.luma
      (luma_planes d.references) d.luma same
      (its_plane (λ p. p.luma) d.references entry reference there) in
      let cb =
      (λ i. part plan.cb (16 * address) (2 ^ side i * 2 ^ side i)) ∙ has.cb ∙
      block_is (size + 2) (chroma_qp t.qp) false motion mv (x / 2) (y / 2) t.input.now.cb
      reference.cb (cb_planes d.references) d.cb same
      (its_plane (λ p. p.cb) d.references entry reference there) ∙
      (λ i. chosen_levels (Inter motion) false (chroma_qp t.qp) t.input.now.cb
      (cb_planes d.references) d.cb (square_at (x / 2) (y / 2) (sym side i))) in
      let cr =
      (λ i. part plan.cr (16 * address) (2 ^ side i * 2 ^ side i)) ∙ has.cr ∙
      block_is (size + 2) (chroma_qp t.qp) false motion mv (x / 2) (y / 2) t.input.now.cr
      reference.cr (cr_planes d.references) d.cr same
      (its_plane (λ p. p.cr) d.references entry reference there) ∙
      (λ i. chosen_levels (Inter motion) false (chroma_qp t.qp) t.input.now.cr
      (cr_planes d.references) d.cr (square_at (x / 2) (y / 2) (sym side i))) in
      λ i. record { luma = luma i; cb = cb i; cr = cr i }

  -- ---- one unit, or four

  pub small_is : (size address : ℕ) (plan : CtbPlan) (d : Decoded) → size ≤ 2 →
      slice_get d.references motion.ref_idx_l0 ≡ Some reference → HasLevels size address plan →
      transform_units_at (lists_of_plan plan) (log2TrafoSize size) address (transform_units size) ≡
      chosen_units (given_of t) (Inter motion) size (node_square (given_of t) size address) d
  small_is zero address plan d few there has =
      ap (λ u. u ∷ []) (unit_is 0 address plan d there has)
  small_is (suc zero) address plan d few there has =
      ap (λ u. u ∷ []) (unit_is 1 address plan d there has)
  small_is (suc (suc zero)) address plan d few there has =
      ap (λ u. u ∷ []) (unit_is 2 address plan d there has)
  small_is (suc (suc (suc size))) address plan d few there has = absurd (omega (arith, few))

  references_stay : (d : Decoded) (a b c : Option Component) →
      (or_else d (all_decoded d.references a b c)).references ≡ d.references
  references_stay d None b c = refl
  references_stay d (Some a) None c = refl
  references_stay d (Some a) (Some b) None = refl
  references_stay d (Some a) (Some b) (Some c) = refl

  -- the reference picture is there behind a unit too
  there_behind : (s : Square) (unit : TransformUnit) (d : Decoded) →
      slice_get d.references motion.ref_idx_l0 ≡ Some reference →
      slice_get (or_else d (decoded_unit t.qp (Inter motion) s unit d)).references
      motion.ref_idx_l0 ≡ Some reference
  there_behind s unit d there =
      ap (λ list. slice_get list motion.ref_idx_l0) (references_stay d _ _ _) ∙ there

  abbrev unit_at : CtbPlan → ℕ → TransformUnit
  unit_at plan address = transform_unit_at (lists_of_plan plan) 5 address

  quarter_is : (address x y : ℕ) (plan : CtbPlan) (d : Decoded) → x ≡ x0 t.place address →
      y ≡ y0 t.place address → slice_get d.references motion.ref_idx_l0 ≡ Some reference →
      HasLevels 2 address plan →
      unit_at plan address ≡ chosen_unit (given_of t) (Inter motion) (square_at x y 5) d
  quarter_is address x y plan d across down there has =
      unit_is 2 address plan d there has ∙
      sym (λ i. chosen_unit (given_of t) (Inter motion) (square_at (across i) (down i) 5) d)

  pub great_is : (plan : CtbPlan) (d : Decoded) →
      slice_get d.references motion.ref_idx_l0 ≡ Some reference → HasLevels 2 0 plan →
      HasLevels 2 16 plan → HasLevels 2 32 plan → HasLevels 2 48 plan →
      transform_units_at (lists_of_plan plan) (log2TrafoSize 3) 0 (transform_units 3) ≡
      chosen_units (given_of t) (Inter motion) 3 (node_square (given_of t) 3 0) d
  great_is plan d there first second third fourth =
      let p = quarter_places t.place in
      let x : ℕ = x0 t.place 0 in
      let y : ℕ = y0 t.place 0 in
      let g : Given = given_of t in
      let s : Square = square_at x y 6 in
      let next : ℕ → Decoded → Decoded =
      λ i e. or_else e (decoded_unit t.qp (Inter motion) (quarter s i)
      (chosen_unit g (Inter motion) (quarter s i) e) e) in
      let there_1 =
      there_behind (quarter s 0) (chosen_unit g (Inter motion) (quarter s 0) d) d there in
      let d_1 : Decoded = next 0 d in
      let there_2 =
      there_behind (quarter s 1) (chosen_unit g (Inter motion) (quarter s 1) d_1) d_1 there_1 in
      let d_2 : Decoded = next 1 d_1 in
      let there_3 =
      there_behind (quarter s 2) (chosen_unit g (Inter motion) (quarter s 2) d_2) d_2 there_2 in
      let d_3 : Decoded = next 2 d_2 in
      let a = quarter_is 0 x y plan d refl refl there first in
      let b = quarter_is 16 (x + 32) y plan d_1 p.right p.top there_1 second in
      let c = quarter_is 32 x (y + 32) plan d_2 p.left p.below there_2 third in
      let e = quarter_is 48 (x + 32) (y + 32) plan d_3 p.last_right p.last_below there_3 fourth in
      λ i. a i ∷ b i ∷ c i ∷ e i ∷ []

-- ---- levels that are kept

part_stays : (xs ys : List ℤ) (n from count : ℕ) → from + count ≤ n → take n xs ≡ take n ys →
    part xs from count ≡ part ys from count
part_stays xs ys n from count inside same =
    sym (part_of_front from count n xs inside) ∙ ap (λ l. take count (drop from l)) same ∙
    part_of_front from count n ys inside

pub levels_stay : (t : Task) (reference : Picture) (mv : Mv) (first behind : ℕ)
    (old new : CtbPlan) → first + 16 ≤ behind → KeepsEarlier behind old new →
    HasInterLevels t reference mv 2 first old → HasInterLevels t reference mv 2 first new
levels_stay t reference mv first behind old new before kept has = record {
  luma = part_stays new.luma old.luma (64 * behind) (64 * first) 1024 (omega (arith, before))
      kept.luma ∙
      has.luma;
  cb = part_stays new.cb old.cb (16 * behind) (16 * first) 256 (omega (arith, before)) kept.cb ∙
      has.cb;
  cr = part_stays new.cr old.cr (16 * behind) (16 * first) 256 (omega (arith, before)) kept.cr ∙
      has.cr;
}

-- ---- a leaf of the greatest size

pub first_address : (size address : ℕ) → IsNodeOfBlock size address → 3 ≤ size →
    (size ≡ 3) × (address ≡ 0)
first_address size address node great =
    let three : size ≡ 3 = omega (arith, great, node.size_at_most) in
    let even : address % 64 ≡ 0 = subst (λ n. address % squares n ≡ 0) three node.multiple in
    (three, omega (arith, even, node.inside))
