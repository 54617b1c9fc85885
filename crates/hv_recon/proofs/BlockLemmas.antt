-- One colour component of a picture whose first blocks are decoded: from the next block it is seen
-- by the edges of the blocks around, and behind it one block more is decoded.
use Rattle.std.proofs.Common.{◌≡◌, ℕ, zero, suc, ◌+◌, ◌-◌, ◌*◌, ◌/◌, ◌%◌, ◌<◌, ◌≤◌, Bool, true, false, cond, List, length, refl, sym, ap, ap₂, ◌∙◌, arith, inl, inr}
use Rattle.std.specs.Prelude.{nat_lt, nat_le, ◌&&◌, slice_get, slice_index, Option, Some, None, option_map}
use Rattle.std.proofs.Math.Nat.{mod-lt, div-add-mod, mul_comm, mul-le-mul_left, mul-le-mul_right, add-mul}
use Rattle.std.proofs.lemmas.Nat.{mod-mul-add, div-mul-add}
use Rattle.std.proofs.lemmas.Bool.{cases_lt, and_parts, ltb-true, leb-true}
use Rattle.std.proofs.lemmas.Bool.Decides.{nat_tests}
use Rattle.std.proofs.lemmas.Option.{slice_get_past}
use Rattle.hv_lemmas.proofs.ListLemmas.{length-tabulate, there_is}
use Rattle.hv_block.specs.declared.block.Block.{Block}
use Rattle.hv_block.specs.declared.edges.Edges.{Edges}
use Rattle.hv_block.specs.BlockEdges.{edges_of}
use Rattle.hv_block.specs.Around.{edges_at}
use Rattle.hv_block.specs.Edges.{last_column, last_row}
use Rattle.hv_block.specs.Samples.{Samples, AreWholeSamples}
use Rattle.hv_block.proofs.EdgeLemmas.{column_sample, row_sample}
use Rattle.hv_recon_model.specs.Reconstruction.{Component}
use Rattle.hv_recon_model.specs.SeenSamples.{Spot, SampleEdges, SamplesAround, IsSeen, on_right, on_bottom, comes_before, sample_inside, sample_at_left, sample_above, sample_around, is_behind_edges, look_around, look_picture}
use Rattle.hv_recon.specs.Leaves.{edges_in}
use Rattle.hv_recon.proofs.ChoiceLemmas.{where_is, where_never, none_either, nested}

-- ---- a component

-- its samples and its edges
pub record Part : Type 0 where
  pub own : Samples → List ℕ
  pub right : Edges → List ℕ
  pub bottom : Edges → List ℕ

pub record IsPart (side : ℕ) (p : Part) : Type 0 where
  pub some : 0 < side
  pub whole : (s : Samples) → AreWholeSamples s → length (p.own s) ≡ side * side
  pub right : (b : Block) → p.right (edges_of b) ≡ last_column side (p.own b.samples)
  pub bottom : (b : Block) → p.bottom (edges_of b) ≡ last_row side (p.own b.samples)

-- the side of its blocks, how many stand in a row, and the sides of the picture
pub record Grid : Type 0 where
  pub side : ℕ
  pub across : ℕ
  pub width : ℕ
  pub height : ℕ

abbrev pub spot_of : Grid → ℕ → Spot
spot_of g n = record {
  side = g.side;
  left = g.side * (n % g.across);
  top = g.side * (n / g.across);
  width = g.width;
  height = g.height;
}

abbrev pub sample_in : Part → Option Block → ℕ → Option ℕ
sample_in p None i = None
sample_in p (Some block) i = slice_get (p.own block.samples) i

-- of block k, where the first n are decoded
abbrev pub sample_before : Part → List Block → ℕ → ℕ → ℕ → Option ℕ
sample_before p blocks n k i = cond (nat_lt k n) (sample_in p (slice_get blocks k) i) None

-- what is decoded of the picture then
abbrev pub decoded_before : Part → Grid → List Block → ℕ → Component
decoded_before p g blocks n x y =
    cond (nat_lt x g.width && nat_lt y g.height)
    (sample_before p blocks n (y / g.side * g.across + x / g.side)
    (y % g.side * g.side + x % g.side))
    None

-- ---- numbers

times_next : (side c b : ℕ) → c ≡ b + 1 → side * c ≡ side * b + side
times_next side c b e = rw e (omega arith)

rows_before : (row across : ℕ) → 0 < row → row * across ≡ (row - 1) * across + across
rows_before row across some =
    let same : row ≡ row - 1 + 1 = omega (arith, some) in
    ap (λ r. r * across) same ∙ omega (arith, add-mul (row - 1) 1 across)

some_before : (side c x : ℕ) → x < side → side ≤ side * c + x → 0 < c
some_before side zero x near far = absurd (omega (arith, near, far))
some_before side (suc c) x near far = omega arith

pub below_by : (side a b : ℕ) → side * a < side * b → a < b
below_by side a b h = elim (cases_lt a b) [
  | inl less ↦ less
  | inr more ↦
      let back : side * b ≤ side * a = mul-le-mul_left side more in
      absurd (omega (arith, h, back))
]

at_least_by : (side x b : ℕ) → 0 < side → side * b ≤ x → b ≤ x / side
at_least_by side x b some h = elim (cases_lt (x / side) b) [
  | inl less ↦
      let up : side * (x / side + 1) ≤ side * b = mul-le-mul_left side (omega (arith, less)) in
      absurd (omega (
        arith,
        up,
        h,
        times_next side (x / side + 1) (x / side) refl,
        div-add-mod x side,
        mod-lt x some,
      ))
  | inr more ↦ more
]

-- ---- the edges of blocks

abbrev pub edge : Part → List Block → Bool → ℕ → Option SampleEdges
edge p blocks has k = edges_in p.right p.bottom (edges_at blocks has k)

abbrev pub around_at : Part → Grid → List Block → ℕ → SamplesAround
around_at p g blocks n = record {
  left = edge p blocks (nat_lt 0 (n % g.across)) (n - 1);
  above_left =
      edge p blocks (nat_lt 0 (n % g.across) && nat_lt 0 (n / g.across)) (n - g.across - 1);
  above = edge p blocks (nat_lt 0 (n / g.across)) (n - g.across);
  above_right =
      edge p blocks (nat_lt 0 (n / g.across) && nat_lt (n % g.across + 1) g.across)
      (n - g.across + 1);
}

-- all blocks of a list
abbrev pub AreWhole : List Block → Type 0
AreWhole blocks =
    (k : ℕ) (block : Block) → slice_get blocks k ≡ Some block → AreWholeSamples block.samples

module _ (p : Part) (side : ℕ) (is_part : IsPart side p) (blocks : List Block)
    (all_whole : AreWhole blocks) where
  pub known_sample : (n k i : ℕ) (block : Block) → k < n → slice_get blocks k ≡ Some block →
      sample_before p blocks n k i ≡ slice_get (p.own block.samples) i
  known_sample n k i block early there =
      let is_early : nat_lt k n ≡ true = grind (arith, nat_tests) in
      ap₂ (λ t b. cond t (sample_in p b i) None) is_early there

  right_known : (has : Bool) (n k i : ℕ) → has ≡ true → k < n → n ≤ length blocks → i < side →
      on_right (edge p blocks has k) i ≡ sample_before p blocks n k (i * side + (side - 1))
  right_known has n k i is_there early few below =
      let b = there_is blocks k (omega (arith, early, few)) in
      ap₂ (λ t o. on_right (edges_in p.right p.bottom (cond t (option_map edges_of o) None)) i)
      is_there b.1 ∙
      ap (λ l. slice_get l i) (is_part.right b.0) ∙
      column_sample side (p.own b.0.samples) i
      (is_part.whole b.0.samples (all_whole k b.0 b.1)) below ∙
      sym (known_sample n k (i * side + (side - 1)) b.0 early b.1)

  bottom_known : (has : Bool) (n k i : ℕ) → has ≡ true → k < n → n ≤ length blocks → i < side →
      on_bottom (edge p blocks has k) i ≡ sample_before p blocks n k ((side - 1) * side + i)
  bottom_known has n k i is_there early few below =
      let b = there_is blocks k (omega (arith, early, few)) in
      ap₂ (λ t o. on_bottom (edges_in p.right p.bottom (cond t (option_map edges_of o) None)) i)
      is_there b.1 ∙
      ap (λ l. slice_get l i) (is_part.bottom b.0) ∙
      row_sample side (p.own b.0.samples) i
      (is_part.whole b.0.samples (all_whole k b.0 b.1)) below ∙
      sym (known_sample n k ((side - 1) * side + i) b.0 early b.1)

  right_of_none : (block : Option Block) (i : ℕ) → side ≤ i →
      on_right (edges_in p.right p.bottom (option_map edges_of block)) i ≡ None
  right_of_none None i past = refl
  right_of_none (Some block) i past =
      ap (λ l. slice_get l i) (is_part.right block) ∙
      slice_get_past (last_column side (p.own block.samples)) i
      (omega (
        arith,
        length-tabulate side (λ y. slice_index (p.own block.samples)
            (y * side + (side - 1))),
        past,
      ))

  right_past : (has : Bool) (k i : ℕ) → side ≤ i → on_right (edge p blocks has k) i ≡ None
  right_past true k i past = right_of_none (slice_get blocks k) i past
  right_past false k i past = refl

-- ---- places

module _ (p : Part) (g : Grid) (some : 0 < g.side) (blocks : List Block) where
  pub at_place : (bx by u v x y n k : ℕ) → x ≡ g.side * bx + u → y ≡ g.side * by + v → u < g.side →
      v < g.side → x < g.width → y < g.height → by * g.across + bx ≡ k →
      decoded_before p g blocks n x y ≡ sample_before p blocks n k (v * g.side + u)
  at_place bx by u v x y n k ex ey ub vb wide high number =
      let side : ℕ = g.side in
      let x_is : x ≡ bx * side + u = omega (arith, ex, mul_comm side bx) in
      let y_is : y ≡ by * side + v = omega (arith, ey, mul_comm side by) in
      let in_picture : nat_lt x g.width && nat_lt y g.height ≡ true = grind (arith, nat_tests) in
      let column : x / side ≡ bx = ap (λ k. k / side) x_is ∙ div-mul-add bx side u ub in
      let row : y / side ≡ by = ap (λ k. k / side) y_is ∙ div-mul-add by side v vb in
      let x_in : x % side ≡ u = ap (λ k. k % side) x_is ∙ mod-mul-add bx side u ub in
      let y_in : y % side ≡ v = ap (λ k. k % side) y_is ∙ mod-mul-add by side v vb in
      where_is (nat_lt x g.width && nat_lt y g.height) true _ None in_picture ∙
      ap₂ (λ k i. sample_before p blocks n k i)
      (ap₂ (λ a b. a * g.across + b) row column ∙ number)
      (ap₂ (λ a b. a * side + b) y_in x_in)

  later_place : (bx by x y n : ℕ) → g.side * bx ≤ x → g.side * by ≤ y →
      n ≤ by * g.across + bx → decoded_before p g blocks n x y ≡ None
  later_place bx by x y n right below late =
      let k : ℕ = y / g.side * g.across + x / g.side in
      let column : bx ≤ x / g.side = at_least_by g.side x bx some right in
      let row : by ≤ y / g.side = at_least_by g.side y by some below in
      let rows : by * g.across ≤ y / g.side * g.across = mul-le-mul_right g.across row in
      let later : n ≤ k = omega (arith, column, rows, late) in
      none_either (nat_lt x g.width && nat_lt y g.height) (sample_before p blocks n k _)
      (where_never (nat_lt k n) _ None (λ t. absurd (omega (arith, ltb-true _ _ t, later))))

-- ---- what is seen from the next block

module _ (p : Part) (g : Grid) (is_part : IsPart g.side p) (blocks : List Block)
    (all_whole : AreWhole blocks) (n : ℕ) (few : n ≤ length blocks) (columns : 0 < g.across)
    (fits : g.width ≤ g.side * g.across) where
  abbrev cx : ℕ
  cx = n % g.across

  abbrev cy : ℕ
  cy = n / g.across

  abbrev side : ℕ
  side = g.side

  abbrev near : SamplesAround
  near = around_at p g blocks n

  number : n ≡ cy * g.across + cx
  number = sym (div-add-mod n g.across) ∙ ap (λ k. k + cx) (mul_comm g.across cy)

  record Window (x y : ℕ) : Type 0 where
    left : side ≤ side * cx + x
    top : side ≤ side * cy + y
    across : side * cx + x - side < g.width
    down : side * cy + y - side < g.height

  abbrev there : ℕ → ℕ → Option ℕ
  there x y = decoded_before p g blocks n (side * cx + x - side) (side * cy + y - side)

  same_corner : (x y : ℕ) → x < side → side ≤ x + 1 → y < side → side ≤ y + 1 → Window x y →
      on_bottom near.above_left (side - 1) ≡ there x y
  same_corner x y left last top lowest w =
      let right : 0 < cx = some_before side cx x left w.left in
      let low : 0 < cy = some_before side cy y top w.top in
      let rows : cy * g.across ≡ (cy - 1) * g.across + g.across =
      rows_before cy g.across low in
      let has : nat_lt 0 cx && nat_lt 0 cy ≡ true = grind (arith, nat_tests) in
      let k : ℕ = n - g.across - 1 in
      let is_k : (cy - 1) * g.across + (cx - 1) ≡ k = omega (arith, number, rows, right) in
      bottom_known p side is_part blocks all_whole (nat_lt 0 cx && nat_lt 0 cy) n k (side - 1) has
      (omega (arith, number, rows, right)) few (omega (arith, left)) ∙
      sym (at_place p g is_part.some blocks (cx - 1) (cy - 1) (side - 1) (side - 1)
      (side * cx + x - side) (side * cy + y - side) n k
      (omega (arith, left, last, times_next side cx (cx - 1) (omega (arith, right))))
      (omega (arith, top, lowest, times_next side cy (cy - 1) (omega (arith, low))))
      (omega (arith, left)) (omega (arith, left)) w.across w.down is_k)

  same_left : (x y : ℕ) → x < side → side ≤ x + 1 → side ≤ y → y < 2 * side → Window x y →
      on_right near.left (y - side) ≡ there x y
  same_left x y left last low high w =
      let right : 0 < cx = some_before side cx x left w.left in
      let has : nat_lt 0 cx ≡ true = grind (arith, nat_tests) in
      let k : ℕ = n - 1 in
      let is_k : cy * g.across + (cx - 1) ≡ k = omega (arith, number, right) in
      right_known p side is_part blocks all_whole (nat_lt 0 cx) n k (y - side) has
      (omega (arith, number, right)) few (omega (arith, low, high)) ∙
      sym (at_place p g is_part.some blocks (cx - 1) cy (side - 1) (y - side)
      (side * cx + x - side) (side * cy + y - side) n k
      (omega (arith, left, last, times_next side cx (cx - 1) (omega (arith, right))))
      (omega (arith, low)) (omega (arith, left)) (omega (arith, low, high)) w.across w.down is_k)

  below_left : (x y : ℕ) → x < side → 2 * side ≤ y → Window x y →
      on_right near.left (y - side) ≡ there x y
  below_left x y left low w =
      let right : 0 < cx = some_before side cx x left w.left in
      let rows : (cy + 1) * g.across ≡ cy * g.across + g.across =
      omega (arith, add-mul cy 1 g.across) in
      right_past p side is_part blocks all_whole (nat_lt 0 cx) (n - 1) (y - side)
      (omega (arith, low)) ∙
      sym (later_place p g is_part.some blocks (cx - 1) (cy + 1) (side * cx + x - side)
      (side * cy + y - side) n
      (omega (arith, w.left, times_next side cx (cx - 1) (omega (arith, right))))
      (omega (arith, low, times_next side (cy + 1) cy refl))
      (omega (arith, number, rows, columns)))

  same_above : (x y : ℕ) → side ≤ x → x < 2 * side → y < side → side ≤ y + 1 → Window x y →
      on_bottom near.above (x - side) ≡ there x y
  same_above x y right near_x top lowest w =
      let low : 0 < cy = some_before side cy y top w.top in
      let rows : cy * g.across ≡ (cy - 1) * g.across + g.across =
      rows_before cy g.across low in
      let has : nat_lt 0 cy ≡ true = grind (arith, nat_tests) in
      let k : ℕ = n - g.across in
      let is_k : (cy - 1) * g.across + cx ≡ k = omega (arith, number, rows) in
      bottom_known p side is_part blocks all_whole (nat_lt 0 cy) n k (x - side) has
      (omega (arith, number, rows, columns)) few (omega (arith, right, near_x)) ∙
      sym (at_place p g is_part.some blocks cx (cy - 1) (x - side) (side - 1)
      (side * cx + x - side) (side * cy + y - side) n k (omega (arith, right))
      (omega (arith, top, lowest, times_next side cy (cy - 1) (omega (arith, low))))
      (omega (arith, right, near_x)) (omega (arith, top)) w.across w.down is_k)

  same_above_right : (x y : ℕ) → 2 * side ≤ x → x < 3 * side → y < side → side ≤ y + 1 →
      Window x y → on_bottom near.above_right (x - 2 * side) ≡ there x y
  same_above_right x y right near_x top lowest w =
      let low : 0 < cy = some_before side cy y top w.top in
      let rows : cy * g.across ≡ (cy - 1) * g.across + g.across =
      rows_before cy g.across low in
      let more : side * (cx + 1) ≡ side * cx + side = times_next side (cx + 1) cx refl in
      let next : cx + 1 < g.across =
      below_by side (cx + 1) g.across (omega (arith, more, right, w.across, fits)) in
      let has : nat_lt 0 cy && nat_lt (cx + 1) g.across ≡ true = grind (arith, nat_tests) in
      let k : ℕ = n - g.across + 1 in
      let is_k : (cy - 1) * g.across + (cx + 1) ≡ k = omega (arith, number, rows) in
      bottom_known p side is_part blocks all_whole (nat_lt 0 cy && nat_lt (cx + 1) g.across) n k
      (x - 2 * side) has (omega (arith, number, rows, next)) few (omega (arith, right, near_x)) ∙
      sym (at_place p g is_part.some blocks (cx + 1) (cy - 1) (x - 2 * side) (side - 1)
      (side * cx + x - side) (side * cy + y - side) n k (omega (arith, right, more))
      (omega (arith, top, lowest, times_next side cy (cy - 1) (omega (arith, low))))
      (omega (arith, right, near_x)) (omega (arith, top)) w.across w.down is_k)

  nothing_inside : (own : List ℕ) (x y : ℕ) → side ≤ x → side ≤ y → Window x y →
      sample_inside side own 0 (x - side) (y - side) ≡ there x y
  nothing_inside own x y right low w =
      where_never
      (nat_lt (x - side) side && nat_lt (y - side) side && comes_before side 0 (x - side)
      (y - side))
      (slice_get own ((y - side) * side + (x - side)))
      None
      (λ t. absurd (omega (
        arith,
        ltb-true _ 0 (and_parts _ (comes_before side 0 (x - side)
            (y - side)) t).1,
      ))) ∙
      sym (later_place p g is_part.some blocks cx cy (side * cx + x - side)
      (side * cy + y - side) n (omega (arith, right)) (omega (arith, low)) (omega (arith, number)))

  same_at_left : (x y : ℕ) → x < side → side ≤ x + 1 → side ≤ y + 1 → Window x y →
      sample_at_left side near y ≡ there x y
  same_at_left x y left last lowest w = elim (cases_lt y side) [
    | inl top ↦
        where_is (nat_lt y side) true _ _ (grind (arith, nat_tests)) ∙
        same_corner x y left last top lowest w
    | inr low ↦
        where_never (nat_lt y side) _ _ (λ t. absurd (omega (arith, ltb-true _ _ t, low))) ∙
        elim (cases_lt y (2 * side)) [
          | inl high ↦ same_left x y left last low high w
          | inr deep ↦ below_left x y left deep w
        ]
  ]

  same_in_row : (x y : ℕ) → side ≤ x → x < 3 * side → y < side → side ≤ y + 1 → Window x y →
      sample_above side near x ≡ there x y
  same_in_row x y right end top lowest w = elim (cases_lt x (2 * side)) [
    | inl near_x ↦
        where_is (nat_lt x (2 * side)) true _ _ (grind (arith, nat_tests)) ∙
        same_above x y right near_x top lowest w
    | inr far ↦
        where_never (nat_lt x (2 * side)) _ _ (λ t. absurd (omega (arith, ltb-true _ _ t, far))) ∙
        same_above_right x y far end top lowest w
  ]

  same_around : (own : List ℕ) (x y : ℕ) → side ≤ x + 1 → x < 3 * side → side ≤ y + 1 →
      Window x y → sample_around side near own 0 x y ≡ there x y
  same_around own x y last end lowest w = elim (cases_lt x side) [
    | inl left ↦
        where_is (nat_lt x side) true _ _ (grind (arith, nat_tests)) ∙
        same_at_left x y left last lowest w
    | inr right ↦
        where_never (nat_lt x side) _ _ (λ t. absurd (omega (arith, ltb-true _ _ t, right))) ∙
        elim (cases_lt y side) [
          | inl top ↦
              where_is (nat_lt y side) true _ _ (grind (arith, nat_tests)) ∙
              same_in_row x y right end top lowest w
          | inr low ↦
              where_never (nat_lt y side) _ _ (λ t. absurd (omega (arith, ltb-true _ _ t, low))) ∙
              nothing_inside own x y right low w
        ]
  ]

  look_same : (own : List ℕ) (x y : ℕ) → side ≤ x + 1 → x < 3 * side → side ≤ y + 1 →
      look_picture (spot_of g n) (decoded_before p g blocks n) x y ≡
      look_around (spot_of g n) near own 0 x y
  unfolding look_picture look_around
  look_same own x y last end lowest =
      let u : ℕ = side * cx + x - side in
      let v : ℕ = side * cy + y - side in
      let inside : Bool = nat_lt u g.width && nat_lt v g.height in
      nested (is_behind_edges (spot_of g n) x y) (nat_lt u g.width) (nat_lt v g.height)
      (sample_before p blocks n (v / side * g.across + u / side) (v % side * side + u % side))
      (sample_around side near own 0 x y) (λ t.
      let a = and_parts (is_behind_edges (spot_of g n) x y && nat_lt u g.width)
      (nat_lt v g.height) t in
      let b = and_parts (is_behind_edges (spot_of g n) x y) (nat_lt u g.width) a.0 in
      let c = and_parts (nat_le side (side * cx + x)) (nat_le side (side * cy + y)) b.0 in
      let in_picture : inside ≡ true = rw (b.1, a.1) refl in
      sym (where_is inside true
      (sample_before p blocks n (v / side * g.across + u / side) (v % side * side + u % side))
      None in_picture) ∙
      sym (same_around own x y last end lowest (record {
        left = leb-true _ _ c.0;
        top = leb-true _ _ c.1;
        across = ltb-true _ _ b.1;
        down = ltb-true _ _ a.1;
      })))

  pub seen_next : (samples : Component) →
      ((x y : ℕ) → samples x y ≡ decoded_before p g blocks n x y) → (own : List ℕ) →
      IsSeen (spot_of g n) near own 0 samples
  unfolding look_picture
  seen_next samples same own = record {
    sample = λ x y last end lowest bottom.
        ap (λ o. cond (is_behind_edges (spot_of g n) x y) o None)
        (same (side * cx + x - side) (side * cy + y - side)) ∙
        look_same own x y last end lowest;
  }
