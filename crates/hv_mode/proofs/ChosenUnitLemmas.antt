-- A leaf that the code made and coded is the one that is chosen by the definitions: the levels of
-- its transform units are those of what their prediction leaves of the input, each unit behind the
-- one before (8.4.4.1).
use Rattle.std.proofs.Common.{◌≡◌, ℕ, zero, suc, ◌+◌, ◌-◌, ◌*◌, ◌/◌, ◌%◌, ◌^◌, ◌<◌, ◌≤◌, Bool, true, false, List, [], ◌∷◌, refl, sym, ap, ap₂, subst, ◌∙◌, arith, inl, inr, ℤ, pos, ◌-ℤ◌}
use Rattle.std.specs.Prelude.{Some}
use Rattle.std.proofs.lemmas.Bool.{cases_lt}
use Rattle.std.proofs.Math.Dec.{lit<, lit≤}
use Rattle.hv_types.specs.Samples.{Plane}
use Rattle.hv_tables.specs.Quantisers.{chroma_qp}
use Rattle.hv_sample_model.specs.IntraPrediction.{predicted, substituted}
use Rattle.hv_sample_model.specs.Quantisation.{levels}
use Rattle.hv_block.specs.Plans.{CtbPlan}
use Rattle.hv_block.specs.Samples.{Samples}
use Rattle.hv_plan.specs.declared.prediction.Pred.TheVariants.{Intra as IntraPred}
use Rattle.hv_tree_model.specs.Trees.{Prediction, Intra, TransformUnit, Leaf}
use Rattle.hv_tree_model.specs.Sites.{Site, ctb_column, ctb_row, column_of, row_of, x0, y0, squares}
use Rattle.hv_tree_model.specs.Plans.{part, transform_unit_at, leaf_of}
use Rattle.hv_tree_model.proofs.NodeLemmas.{IsNode}
use Rattle.hv_recon_model.specs.Reconstruction.{Component, Decoded, Square, square_at, chroma_of, quarter, neighbours, decoded_unit, luma_planes, cb_planes, cr_planes}
use Rattle.hv_recon_model.specs.SeenSamples.{Spot, SamplesAround, IsSeen, luma_spot, chroma_spot, seen_line}
use Rattle.hv_recon_model.proofs.SeenLemmas.{FitsIn, neighbours_seen}
use Rattle.hv_recon_model.proofs.SeenNodeLemmas.{power_luma, power_chroma}
use Rattle.hv_recon.specs.Coding.{input_block, coded_levels, differences as code_differences}
use Rattle.hv_recon.specs.CodedUnits.{IsUnitCoded, AreQuartersCoded}
use Rattle.hv_recon.specs.CodedLeaves.{IsLeafCoded}
use Rattle.hv_recon.specs.Leaves.{AreSeen, lists_of_plan, luma_around, cb_around, cr_around}
use Rattle.hv_recon.proofs.UnitLemmas.{is_node, unit_ends, UnitInPicture, unit_behind}
use Rattle.hv_recon.proofs.GreatLeafLemmas.{quarter_places, quarter_behind}
use Rattle.hv_mode_model.specs.ModeDecision.{Given, Before, or_else, differences, chosen_levels, chosen_unit, chosen_quarters, leaf}
use Rattle.hv_mode.specs.declared.task.Task.{Task}
use Rattle.hv_mode.specs.Vectors.{references_of}
use Rattle.hv_mode.specs.Nodes.{given_of}
use Rattle.hv_recon.specs.Units.{IsUnitPut}

-- ---- a block

same_differences : (xs ys : List ℕ) → code_differences xs ys ≡ differences xs ys
same_differences [] ys = refl
same_differences (x ∷ xs) [] = refl
same_differences (x ∷ xs) (y ∷ ys) = ap (λ l. (pos x -ℤ pos y) ∷ l) (same_differences xs ys)

pub chosen_block : (s : Spot) (around : SamplesAround) (own : List ℕ) (address : ℕ)
    (samples : Component) (plane : Plane) (planes : List Plane) (x y log2 mode : ℕ)
    (is_luma : Bool) (qp : ℕ) →
    FitsIn s.side x y log2 → IsSeen s around own address samples →
    coded_levels log2 mode is_luma qp (input_block plane (s.left + x) (s.top + y) log2)
    (seen_line s around own address x y log2) ≡
    chosen_levels (Intra mode) is_luma qp plane planes samples
    (square_at (s.left + x) (s.top + y) log2)
unfolding chosen_levels
chosen_block s around own address samples plane planes x y log2 mode is_luma qp fits seen =
    let block : List ℕ = input_block plane (s.left + x) (s.top + y) log2 in
    ap (λ line. coded_levels log2 mode is_luma qp block line)
    (sym (neighbours_seen s around own address samples x y log2 fits seen)) ∙
    ap (λ left. levels log2 qp true left)
    (same_differences block (predicted log2 mode is_luma
    (substituted (neighbours samples (square_at (s.left + x) (s.top + y) log2)))))

-- ---- a transform unit

-- the block of chroma under the block of luma
chroma_levels : (place : Site) (size address mode qp : ℕ) (plane : Plane) (planes : List Plane)
    (samples : Component) →
    chosen_levels (Intra mode) false qp plane planes samples
    (square_at ((chroma_spot place).left + 4 * column_of address)
    ((chroma_spot place).top + 4 * row_of address) (size + 2)) ≡
    chosen_levels (Intra mode) false qp plane planes samples
    (chroma_of (square_at (x0 place address) (y0 place address) (size + 3)))
chroma_levels place size address mode qp plane planes samples =
    let x : 32 * ctb_column place + 4 * column_of address ≡ x0 place address / 2 = omega arith in
    let y : 32 * ctb_row place + 4 * row_of address ≡ y0 place address / 2 = omega arith in
    let log2 : size + 2 ≡ size + 3 - 1 = omega arith in
    λ i. chosen_levels (Intra mode) false qp plane planes samples (square_at (x i) (y i) (log2 i))

part_of_chroma : (list : List ℤ) (size address : ℕ) →
    part list (16 * address) (2 ^ (size + 3 - 1) * 2 ^ (size + 3 - 1)) ≡
    part list (16 * address) (2 ^ (size + 2) * 2 ^ (size + 2))
part_of_chroma list size address =
    let log2 : size + 3 - 1 ≡ size + 2 = omega arith in
    λ i. part list (16 * address) (2 ^ log2 i * 2 ^ log2 i)

some_side : (size : ℕ) → size ≤ 2 → 1 ≤ 2 ^ size
some_side zero few = lit≤ tt
some_side (suc zero) few = lit≤ tt
some_side (suc (suc zero)) few = lit≤ tt
some_side (suc (suc (suc size))) few = absurd (omega (arith, few))

pub unit_chosen : (t : Task) (plan : CtbPlan) (size address mode : ℕ) (old new : Samples)
    (d : Decoded) → size ≤ 2 → IsNode size address →
    IsUnitCoded t.input.now plan t.place t.near.now size address mode t.qp old new →
    AreSeen t.place (references_of t) t.near.now old address d →
    transform_unit_at (lists_of_plan plan) (size + 3) address ≡
    chosen_unit (given_of t) (Intra mode)
    (square_at (x0 t.place address) (y0 t.place address) (size + 3)) d
unit_chosen t plan size address mode old new d few node coded seen =
    let e = unit_ends size address few node.inside node.even in
    let some : 1 ≤ 2 ^ size = some_side size few in
    let fits : FitsIn 64 (8 * column_of address) (8 * row_of address) (size + 3) =
    record { some = omega (arith, power_luma size, some); across = e.right; down = e.bottom } in
    let chroma_fits : FitsIn 32 (4 * column_of address) (4 * row_of address) (size + 2) =
    record {
      some = omega (arith, power_chroma size, some);
      across = e.chroma_right;
      down = e.chroma_bottom;
    } in
    let luma =
    coded.luma ∙
    chosen_block (luma_spot t.place) (luma_around t.near.now) old.luma address d.luma
    t.input.now.luma (luma_planes d.references) (8 * column_of address) (8 * row_of address)
    (size + 3) mode true t.qp fits
    seen.luma in
    let cb =
    part_of_chroma plan.cb size address ∙ coded.cb ∙
    chosen_block (chroma_spot t.place) (cb_around t.near.now) old.cb address d.cb t.input.now.cb
    (cb_planes d.references) (4 * column_of address) (4 * row_of address) (size + 2) mode
    false (chroma_qp t.qp) chroma_fits
    seen.cb ∙
    chroma_levels t.place size address mode (chroma_qp t.qp) t.input.now.cb
    (cb_planes d.references) d.cb in
    let cr =
    part_of_chroma plan.cr size address ∙ coded.cr ∙
    chosen_block (chroma_spot t.place) (cr_around t.near.now) old.cr address d.cr t.input.now.cr
    (cr_planes d.references) (4 * column_of address) (4 * row_of address) (size + 2) mode
    false (chroma_qp t.qp) chroma_fits
    seen.cr ∙
    chroma_levels t.place size address mode (chroma_qp t.qp) t.input.now.cr
    (cr_planes d.references) d.cr in
    λ i. record { luma = luma i; cb = cb i; cr = cr i }

-- ---- the four transform units of a leaf of 64x64

abbrev unit_at : CtbPlan → ℕ → TransformUnit
unit_at plan address = transform_unit_at (lists_of_plan plan) 5 address

-- one of them, and those behind it
next_quarter : (g : Given) (p : Prediction) (s : Square) (i count : ℕ) (d e : Decoded)
    (unit : TransformUnit) (units : List TransformUnit) →
    unit ≡ chosen_unit g p (quarter s i) d → decoded_unit g.qp p (quarter s i) unit d ≡ Some e →
    units ≡ chosen_quarters g p s (suc i) count e →
    unit ∷ units ≡ chosen_quarters g p s i (suc count) d
next_quarter g p s i count d e unit units same is rest =
    let reached :
    or_else d (decoded_unit g.qp p (quarter s i) (chosen_unit g p (quarter s i) d) d) ≡
    e =
    ap (λ u. or_else d (decoded_unit g.qp p (quarter s i) u d)) (sym same) ∙ ap (or_else d) is in
    ap₂ (λ u l. u ∷ l) same
    (rest ∙ ap (λ z. chosen_quarters g p s (suc i) count z) (sym reached))

quarter_chosen : (t : Task) (plan : CtbPlan) (address mode : ℕ) (old new : Samples) (x y : ℕ)
    (d : Decoded) → address < 64 → address % 16 ≡ 0 → x ≡ x0 t.place address →
    y ≡ y0 t.place address →
    IsUnitCoded t.input.now plan t.place t.near.now 2 address mode t.qp old new →
    AreSeen t.place (references_of t) t.near.now old address d →
    unit_at plan address ≡ chosen_unit (given_of t) (Intra mode) (square_at x y 5) d
quarter_chosen t plan address mode old new x y d below even across down coded seen =
    unit_chosen t plan 2 address mode old new d (lit≤ tt)
    (is_node 2 address (lit≤ tt) below even) coded seen ∙
    sym (λ i. chosen_unit (given_of t) (Intra mode) (square_at (across i) (down i) 5) d)

-- what is decoded behind a quarter
quarter_decodes : (t : Task) (plan : CtbPlan) (mode address : ℕ) (old new : Samples) (x y : ℕ)
    (d : Decoded) → address < 64 → address % 16 ≡ 0 → UnitInPicture t.place 2 address →
    x ≡ x0 t.place address → y ≡ y0 t.place address →
    IsUnitPut plan t.place t.near.now 2 address mode t.qp old new →
    AreSeen t.place (references_of t) t.near.now old address d →
    (e : Decoded) ×
    (decoded_unit t.qp (Intra mode) (square_at x y 5) (unit_at plan address) d ≡ Some e) ×
    AreSeen t.place (references_of t) t.near.now new (address + 16) e
quarter_decodes t plan mode =
    quarter_behind (Intra mode) (lists_of_plan plan) t.place (references_of t) t.near.now t.qp
    (λ address. IsUnitPut plan t.place t.near.now 2 address mode t.qp)
    (λ address old new below even inside put d seen.
    unit_behind plan t.place (references_of t) t.near.now 2 address mode t.qp old new d (lit≤ tt)
    (is_node 2 address (lit≤ tt) below even) inside put seen)

pub quarters_chosen : (t : Task) (plan : CtbPlan) (mode : ℕ) (old new : Samples) (d : Decoded) →
    UnitInPicture t.place 3 0 →
    AreQuartersCoded t.input.now plan t.place t.near.now mode t.qp old new →
    AreSeen t.place (references_of t) t.near.now old 0 d →
    unit_at plan 0 ∷ unit_at plan 16 ∷ unit_at plan 32 ∷ unit_at plan 48 ∷ [] ≡
    chosen_quarters (given_of t) (Intra mode) (square_at (x0 t.place 0) (y0 t.place 0) 6) 0 4 d
quarters_chosen t plan mode old new d inside coded seen =
    let p = quarter_places t.place in
    let x : ℕ = x0 t.place 0 in
    let y : ℕ = y0 t.place 0 in
    let g : Given = given_of t in
    let s : Square = square_at x y 6 in
    let a = quarter_decodes t plan mode 0 old coded.first x y d (lit< tt) refl
    (record { across = omega (arith, inside.across); down = omega (arith, inside.down) }) refl refl
    coded.first_coded.put seen in
    let b = quarter_decodes t plan mode 16 coded.first coded.second (x + 32) y
    a.0 (lit< tt) refl
    (record {
      across = omega (arith, inside.across, p.right);
      down = omega (arith, inside.down, p.top);
    }) p.right p.top coded.second_coded.put a.2 in
    let c = quarter_decodes t plan mode 32 coded.second coded.third x (y + 32)
    b.0 (lit< tt) refl
    (record {
      across = omega (arith, inside.across, p.left);
      down = omega (arith, inside.down, p.below);
    }) p.left p.below coded.third_coded.put b.2 in
    let e = quarter_decodes t plan mode 48 coded.third new (x + 32) (y + 32)
    c.0 (lit< tt) refl
    (record {
      across = omega (arith, inside.across, p.last_right);
      down = omega (arith, inside.down, p.last_below);
    }) p.last_right p.last_below coded.fourth_coded.put c.2 in
    next_quarter g (Intra mode) s 0 3 d a.0 (unit_at plan 0) _
    (quarter_chosen t plan 0 mode old coded.first x y d (lit< tt) refl refl refl coded.first_coded
    seen) a.1
    (next_quarter g (Intra mode) s 1 2 a.0 b.0 (unit_at plan 16) _
    (quarter_chosen t plan 16 mode coded.first coded.second (x + 32) y a.0 (lit< tt) refl p.right
    p.top coded.second_coded a.2) b.1
    (next_quarter g (Intra mode) s 2 1 b.0 c.0 (unit_at plan 32) _
    (quarter_chosen t plan 32 mode coded.second coded.third x (y + 32) b.0 (lit< tt) refl p.left
    p.below coded.third_coded b.2) c.1
    (next_quarter g (Intra mode) s 3 0 c.0 e.0 (unit_at plan 48) []
    (quarter_chosen t plan 48 mode coded.third new (x + 32) (y + 32) c.0 (lit< tt) refl
    p.last_right p.last_below coded.fourth_coded c.2) e.1 refl)))

-- ---- the leaf

small_chosen : (t : Task) (plan : CtbPlan) (size address mode : ℕ) (old new : Samples)
    (before : Before) → size ≤ 2 → IsNode size address →
    IsUnitCoded t.input.now plan t.place t.near.now size address mode t.qp old new →
    AreSeen t.place (references_of t) t.near.now old address before.decoded →
    leaf_of (lists_of_plan plan) size address (IntraPred mode) ≡
    leaf (given_of t) size address before (Intra mode)
unfolding leaf
small_chosen t plan zero address mode old new before few node coded seen =
    ap (λ u. Leaf (Intra mode) (u ∷ []))
    (unit_chosen t plan 0 address mode old new before.decoded few node coded seen)
small_chosen t plan (suc zero) address mode old new before few node coded seen =
    ap (λ u. Leaf (Intra mode) (u ∷ []))
    (unit_chosen t plan 1 address mode old new before.decoded few node coded seen)
small_chosen t plan (suc (suc zero)) address mode old new before few node coded seen =
    ap (λ u. Leaf (Intra mode) (u ∷ []))
    (unit_chosen t plan 2 address mode old new before.decoded few node coded seen)
small_chosen t plan (suc (suc (suc size))) address mode old new before few node coded seen =
    absurd (omega (arith, few))

great_chosen : (t : Task) (plan : CtbPlan) (mode : ℕ) (old new : Samples) (before : Before) →
    UnitInPicture t.place 3 0 →
    AreQuartersCoded t.input.now plan t.place t.near.now mode t.qp old new →
    AreSeen t.place (references_of t) t.near.now old 0 before.decoded →
    leaf_of (lists_of_plan plan) 3 0 (IntraPred mode) ≡
    leaf (given_of t) 3 0 before (Intra mode)
unfolding leaf
great_chosen t plan mode old new before inside coded seen =
    ap (λ units. Leaf (Intra mode) units)
    (quarters_chosen t plan mode old new before.decoded inside coded seen)

pub leaf_chosen : (t : Task) (plan : CtbPlan) (size address mode : ℕ) (old new : Samples)
    (before : Before) → size ≤ 3 → address < 64 → address % squares size ≡ 0 →
    UnitInPicture t.place size address →
    IsLeafCoded t.input.now plan t.place t.near.now size address mode t.qp old new →
    AreSeen t.place (references_of t) t.near.now old address before.decoded →
    leaf_of (lists_of_plan plan) size address (IntraPred mode) ≡
    leaf (given_of t) size address before (Intra mode)
leaf_chosen t plan size address mode old new before few below even inside coded seen =
    elim (cases_lt size 3) [
      | inl small ↦
          let least : size ≤ 2 = omega (arith, small) in
          small_chosen t plan size address mode old new before least
          (is_node size address least below even) (coded.one least) seen
      | inr great ↦
          let three : size ≡ 3 = omega (arith, great, few) in
          let node : address % 64 ≡ 0 = subst (λ n. address % squares n ≡ 0) three even in
          let first : address ≡ 0 = omega (arith, node, below) in
          (λ i. leaf_of (lists_of_plan plan) (three i) (first i) (IntraPred mode)) ∙
          great_chosen t plan mode old new before
          (subst (λ n. UnitInPicture t.place n 0) three
          (subst (λ a. UnitInPicture t.place size a) first inside))
          (coded.four three)
          (subst (λ a. AreSeen t.place (references_of t) t.near.now old a before.decoded) first
          seen) ∙
          sym (λ i. leaf (given_of t) (three i) (first i) before (Intra mode))
    ]
