-- Squared differences at a node of a coding tree block: those by the block's own rows are those of
-- whatever is decoded of the picture and is seen so behind the node.
use Rattle.std.proofs.Common.{◌≡◌, ℕ, ◌+◌, ◌-◌, ◌*◌, ◌/◌, ◌%◌, ◌^◌, ◌<◌, ◌≤◌, Bool, true, false, List, refl, sym, ap, ap₂, subst, ◌∙◌, arith, inl, inr}
use Rattle.std.specs.Prelude.{nat_le, nat_lt, ◌&&◌, ◌||◌}
use Rattle.std.proofs.lemmas.Bool.{cases_lt, lt-ltb}
use Rattle.std.proofs.lemmas.Bool.Decides.{nat_tests}
use Rattle.hv_block.specs.declared.edges.Neighbours.{Neighbours}
use Rattle.hv_block.specs.Samples.{Samples}
use Rattle.hv_types.specs.Samples.{Plane, sample_at}
use Rattle.hv_types.specs.declared.picture.Picture.{Picture}
use Rattle.hv_types.specs.Video.{IsPicture}
use Rattle.hv_sample_model.specs.Blocks.{total_of}
use Rattle.hv_tree_model.specs.Trees.{side}
use Rattle.hv_tree_model.specs.Sites.{Site, ctb_column, ctb_row, column_of, row_of, squares, x0, y0}
use Rattle.hv_tree_model.proofs.NodeLemmas.{IsNode}
use Rattle.hv_unit_model.proofs.GeometryLemmas.{address_of_place}
use Rattle.hv_recon_model.specs.Reconstruction.{Component, Decoded, square_at, chroma_of, is_in, sample_of}
use Rattle.hv_recon_model.specs.SeenSamples.{Spot, SamplesAround, IsSeen, luma_spot, chroma_spot, by_rows, comes_before}
use Rattle.hv_recon_model.proofs.SeenLemmas.{own_sample}
use Rattle.hv_recon_model.proofs.SeenNodeLemmas.{node_ends, power_luma, power_chroma, luma_between, chroma_between}
use Rattle.hv_recon.specs.Leaves.{AreSeen, luma_around, cb_around, cr_around}
use Rattle.hv_mode_model.specs.ModeDecision.{squared_difference, squared_differences, squared_errors}
use Rattle.hv_mode.specs.declared.square.Square.{Square}
use Rattle.hv_mode.specs.NodeErrors.{errors_by_rows, IsLumaOfNode, IsChromaOf, Fit}
use Rattle.hv_sample_model.proofs.SumLemmas.{total_of_same}

-- ---- a square of one component

-- it lies in the block, and the block's part of the picture, and all of it comes before an address
record LiesBefore (s : Spot) (p q log2 next : ℕ) : Type 0 where
  right : p + 2 ^ log2 ≤ s.side
  bottom : q + 2 ^ log2 ≤ s.side
  across : s.left + p + 2 ^ log2 ≤ s.width
  down : s.top + q + 2 ^ log2 ≤ s.height
  before : (x y : ℕ) → x < 2 ^ log2 → y < 2 ^ log2 →
      comes_before s.side next (p + x) (q + y) ≡ true

square_seen : (s : Spot) (around : SamplesAround) (own : List ℕ) (next : ℕ) (samples : Component)
    (input : Plane) (p q log2 : ℕ) → LiesBefore s p q log2 next →
    IsSeen s around own next samples →
    total_of (2 ^ log2) (λ y. total_of (2 ^ log2) (λ x.
    squared_difference (sample_at input (s.left + p + x) (s.top + q + y))
    (sample_of (by_rows s.side own (p + x) (q + y))))) ≡
    squared_differences input samples (square_at (s.left + p) (s.top + q) log2)
square_seen s around own next samples input p q log2 lies seen =
    total_of_same (2 ^ log2) _ _ (λ y below. total_of_same (2 ^ log2) _ _ (λ x inside.
    let shifted_x : s.left + (p + x) ≡ s.left + p + x = omega arith in
    let shifted_y : s.top + (q + y) ≡ s.top + q + y = omega arith in
    ap (λ o. squared_difference (sample_at input (s.left + p + x) (s.top + q + y)) (sample_of o))
    (sym (own_sample s around own next samples (p + x) (q + y)
    (omega (arith, inside, lies.right)) (omega (arith, below, lies.bottom))
    (omega (arith, inside, lies.across)) (omega (arith, below, lies.down))
    (lies.before x y inside below) seen) ∙ ap₂ samples shifted_x shifted_y)))

-- ---- where the blocks of a node lie

first_node : (address : ℕ) → address < 64 → address % squares 3 ≡ 0 → address ≡ 0
first_node address inside even = omega (arith, inside, even)

-- where a node ends
abbrev Ends : ℕ → ℕ → Type 0
Ends size address = (column_of address + 2 ^ size ≤ 8) × (row_of address + 2 ^ size ≤ 8)

block_ends : Ends 3 0
unfolding column_of row_of
block_ends = (omega arith, omega arith)

ends_of_node : (size address : ℕ) → IsNode size address → Ends size address
ends_of_node size address node = elim (cases_lt size 3) [
  | inl less ↦ let e = node_ends size address (omega (arith, less)) node in (e.0, e.1)
  | inr most ↦
      let size_is : 3 ≡ size = omega (arith, most, node.few) in
      let first : 0 ≡ address =
      sym (first_node address node.inside (subst (λ n. address % squares n ≡ 0) (sym size_is)
      node.even)) in
      subst (λ n. Ends n address) size_is (subst (λ a. Ends 3 a) first block_ends)
]

-- all that is in the node comes before its end

in_square : (left top log2 x y : ℕ) → x < 2 ^ log2 → y < 2 ^ log2 →
    is_in (square_at left top log2) (left + x) (top + y) ≡ true
in_square left top log2 x y across down =
    λ j. first j && last j && above j && below j where
      first : nat_le left (left + x) ≡ true
      first = grind (arith, nat_tests)

      last : nat_lt (left + x) (left + 2 ^ log2) ≡ true
      last = grind (arith, nat_tests, across)

      above : nat_le top (top + y) ≡ true
      above = grind (arith, nat_tests)

      below : nat_lt (top + y) (top + 2 ^ log2) ≡ true
      below = grind (arith, nat_tests, down)

whole : (size address : ℕ) → size ≡ 3 → 64 ≤ address + squares size
whole size address is =
    subst (λ n. 64 ≤ address + squares n) (sym is) (omega arith)

left_of : (a b : Bool) → a ≡ true → a || b ≡ true
left_of true b h = refl
left_of false b h = absurd cc

all_before : (n u v next : ℕ) → u / (n / 8) < 8 → v / (n / 8) < 8 → 64 ≤ next →
    comes_before n next u v ≡ true
all_before n u v next across down most =
    let place = address_of_place (u / (n / 8)) (v / (n / 8)) across down in
    lt-ltb _ _ (omega (arith, place.2, most))

luma_before : (size address x y : ℕ) → IsNode size address → x < 2 ^ (size + 3) →
    y < 2 ^ (size + 3) →
    comes_before 64 (address + squares size) (8 * column_of address + x) (8 * row_of address + y) ≡
    true
luma_before size address x y node across down = elim (cases_lt size 3) [
  | inl less ↦
      (luma_between size address (omega (arith, less)) node).sample
      (8 * column_of address + x) (8 * row_of address + y)
      (omega (arith, ends.0, across, power)) (omega (arith, ends.1, down, power)) ∙
      left_of _ _
      (in_square (8 * column_of address) (8 * row_of address) (size + 3) x y across down)
  | inr most ↦
      all_before 64 _ _ _ (omega (arith, ends.0, across, power))
      (omega (arith, ends.1, down, power))
      (whole size address (omega (arith, most, node.few)))
] where
  ends : Ends size address
  ends = ends_of_node size address node

  power : 2 ^ (size + 3) ≡ 8 * 2 ^ size
  power = power_luma size

chroma_before : (size address x y : ℕ) → IsNode size address → x < 2 ^ (size + 2) →
    y < 2 ^ (size + 2) →
    comes_before 32 (address + squares size) (4 * column_of address + x) (4 * row_of address + y) ≡
    true
chroma_before size address x y node across down = elim (cases_lt size 3) [
  | inl less ↦
      (chroma_between size address (omega (arith, less)) node).sample
      (4 * column_of address + x) (4 * row_of address + y)
      (omega (arith, ends.0, across, power)) (omega (arith, ends.1, down, power)) ∙
      left_of _ _
      (in_square (4 * column_of address) (4 * row_of address) (size + 2) x y across down)
  | inr most ↦
      all_before 32 _ _ _ (omega (arith, ends.0, across, power))
      (omega (arith, ends.1, down, power))
      (whole size address (omega (arith, most, node.few)))
] where
  ends : Ends size address
  ends = ends_of_node size address node

  power : 2 ^ (size + 2) ≡ 4 * 2 ^ size
  power = power_chroma size

-- ---- the squares of a node

-- a node lies in the picture
pub record NodeInPicture (place : Site) (size address : ℕ) : Type 0 where
  pub across : x0 place address + side size ≤ place.width
  pub down : y0 place address + side size ≤ place.height

luma_lies : (place : Site) (size address : ℕ) → IsNode size address →
    NodeInPicture place size address →
    LiesBefore (luma_spot place) (8 * column_of address) (8 * row_of address) (size + 3)
    (address + squares size)
luma_lies place size address node inside =
    let ends = ends_of_node size address node in
    let power = power_luma size in
    record {
      right = omega (arith, ends.0, power);
      bottom = omega (arith, ends.1, power);
      across = omega (arith, inside.across, power);
      down = omega (arith, inside.down, power);
      before = λ x y across down. luma_before size address x y node across down;
    }

chroma_lies : (place : Site) (size address : ℕ) → IsNode size address →
    NodeInPicture place size address →
    LiesBefore (chroma_spot place) (4 * column_of address) (4 * row_of address) (size + 2)
    (address + squares size)
chroma_lies place size address node inside =
    let ends = ends_of_node size address node in
    let power = power_chroma size in
    record {
      right = omega (arith, ends.0, power);
      bottom = omega (arith, ends.1, power);
      across = omega (arith, inside.across, power);
      down = omega (arith, inside.down, power);
      before = λ x y across down. chroma_before size address x y node across down;
    }

pub squares_fit : (place : Site) (input : Picture) (size address : ℕ) (luma chroma : Square) →
    IsNode size address → NodeInPicture place size address →
    IsPicture place.width place.height input → IsLumaOfNode place size address luma →
    IsChromaOf luma chroma → Fit input luma chroma
squares_fit place input size address luma chroma node inside whole are half_of =
    let ends = ends_of_node size address node in
    let power : 2 ^ luma.log2 ≡ 8 * 2 ^ size = ap (λ n. 2 ^ n) are.log2 ∙ power_luma size in
    let less : chroma.log2 ≡ size + 2 = omega (arith, are.log2, half_of.log2) in
    let half : 2 ^ chroma.log2 ≡ 4 * 2 ^ size = ap (λ n. 2 ^ n) less ∙ power_chroma size in
    let left : chroma.left ≡ 32 * ctb_column place + 4 * column_of address =
    omega (arith, are.left, half_of.left) in
    let top : chroma.top ≡ 32 * ctb_row place + 4 * row_of address =
    omega (arith, are.top, half_of.top) in
    record {
      across = omega (arith, are.left, power, inside.across, whole.luma.wide);
      down = omega (arith, are.top, power, inside.down, whole.luma.high);
      right = omega (arith, are.column, power, ends.0);
      bottom = omega (arith, are.row, power, ends.1);
      cb_across = omega (arith, left, half, inside.across, whole.cb.wide);
      cb_down = omega (arith, top, half, inside.down, whole.cb.high);
      cr_across = omega (arith, left, half, inside.across, whole.cr.wide);
      cr_down = omega (arith, top, half, inside.down, whole.cr.high);
      chroma_right = omega (arith, are.column, half_of.column, half, ends.0);
      chroma_bottom = omega (arith, are.row, half_of.row, half, ends.1);
    }

abbrev errors_at : ℕ → Plane → List ℕ → (left top column row log2 : ℕ) → ℕ
errors_at n input own left top column row log2 =
    total_of (2 ^ log2) (λ y. total_of (2 ^ log2) (λ x.
    squared_difference (sample_at input (left + x) (top + y))
    (sample_of (by_rows n own (column + x) (row + y)))))

module _ (place : Site) (near : Neighbours) (own : Samples) (input : Picture) (d : Decoded)
    (references : List Picture) (size address : ℕ) (node : IsNode size address)
    (inside : NodeInPicture place size address)
    (seen : AreSeen place references near own (address + squares size) d) (luma chroma : Square)
    (are : IsLumaOfNode place size address luma) (half_of : IsChromaOf luma chroma) where
  next : ℕ
  next = address + squares size

  luma_errors : errors_by_rows 64 input.luma own.luma luma ≡
      squared_differences input.luma d.luma
      (square_at (x0 place address) (y0 place address) (size + 3))
  luma_errors =
      (λ i. errors_at 64 input.luma own.luma (are.left i) (are.top i) (are.column i) (are.row i)
      (are.log2 i)) ∙
      square_seen (luma_spot place) (luma_around near) own.luma (address + squares size) d.luma
      input.luma (8 * column_of address) (8 * row_of address) (size + 3)
      (luma_lies place size address node inside) seen.luma

  chroma_errors : (plane : Plane) (samples : List ℕ) (component : Component)
      (around : SamplesAround) → IsSeen (chroma_spot place) around samples (address + squares size)
      component →
      errors_by_rows 32 plane samples chroma ≡
      squared_differences plane component
      (chroma_of (square_at (x0 place address) (y0 place address) (size + 3)))
  chroma_errors plane samples component around there =
      let left : chroma.left ≡ 32 * ctb_column place + 4 * column_of address =
      omega (arith, are.left, half_of.left) in
      let top : chroma.top ≡ 32 * ctb_row place + 4 * row_of address =
      omega (arith, are.top, half_of.top) in
      let column : chroma.column ≡ 4 * column_of address =
      omega (arith, are.column, half_of.column) in
      let row : chroma.row ≡ 4 * row_of address = omega (arith, are.row, half_of.row) in
      let log2 : chroma.log2 ≡ size + 2 = omega (arith, are.log2, half_of.log2) in
      let x : 32 * ctb_column place + 4 * column_of address ≡ x0 place address / 2 = omega arith in
      let y : 32 * ctb_row place + 4 * row_of address ≡ y0 place address / 2 = omega arith in
      let less : size + 2 ≡ size + 3 - 1 = omega arith in
      (λ i. errors_at 32 plane samples (left i) (top i) (column i) (row i) (log2 i)) ∙
      square_seen (chroma_spot place) around samples (address + squares size) component plane
      (4 * column_of address) (4 * row_of address) (size + 2)
      (chroma_lies place size address node inside) there ∙
      (λ i. squared_differences plane component (square_at (x i) (y i) (less i)))

  pub node_errors_seen :
      errors_by_rows 64 input.luma own.luma luma +
      (errors_by_rows 32 input.cb own.cb chroma + errors_by_rows 32 input.cr own.cr chroma) ≡
      squared_errors input d (square_at (x0 place address) (y0 place address) (size + 3))
  unfolding squared_errors
  node_errors_seen =
      omega (
        arith,
        luma_errors,
        chroma_errors input.cb own.cb d.cb (cb_around near) seen.cb,
        chroma_errors input.cr own.cr d.cr (cr_around near) seen.cr,
      )
