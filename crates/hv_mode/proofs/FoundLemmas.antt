-- A node of a coding tree block is the node of motion search that begins there and has its side.
use Rattle.std.proofs.Common.{◌≡◌, ℕ, zero, suc, ◌+◌, ◌-◌, ◌*◌, ◌/◌, ◌%◌, ◌^◌, ◌<◌, ◌≤◌, true, cond, refl, sym, ap, ap₂, ◌∙◌, arith}
use Rattle.std.specs.Prelude.{Option, Some, None}
use Rattle.std.proofs.Math.Nat.{add-mul, div-add-mod, lt-div-mul-add, mul_comm, mul-le-mul_right}
use Rattle.std.specs.Option.{option_copied}
use Rattle.hv_plan.specs.declared.prediction.Mv.{Mv}
use Rattle.hv_plan.specs.declared.place.Node.{Node}
use Rattle.hv_tree_model.specs.Trees.{side}
use Rattle.hv_tree_model.specs.Sites.{Site, ctb_row, column_of, row_of, x0, y0}
use Rattle.hv_filter_model.specs.Blocks.{luma_side, blocks_over}
use Rattle.hv_search.specs.Motion.{Motion, IsNode, block_count, vector_of}
use Rattle.hv_recon.specs.DecodedNodes.{IsNodeOfBlock}
use Rattle.hv_mode.specs.declared.task.Task.{Task}
use Rattle.hv_mode.specs.InterChoices.{names, found_at}
use Rattle.hv_mode.specs.Motions.{depth_of_side, node_at, block_at, found_of, IsOfSides}
use Rattle.hv_mode.specs.Vectors.{vectors_of}

-- the node by its column and row
abbrev own_node : ℕ → ℕ → Node
own_node size address =
    record { depth = 3 - size; x = column_of address; y = row_of address }

-- ---- it is one of those that are searched

column_even : (size address : ℕ) → IsNodeOfBlock size address →
    column_of address % (8 / 2 ^ (3 - size)) ≡ 0
unfolding column_of
column_even zero address node = omega arith
column_even (suc zero) address node = omega (arith, node.multiple)
column_even (suc (suc zero)) address node = omega (arith, node.multiple)
column_even (suc (suc (suc zero))) address node = omega (arith, node.multiple, node.inside)
column_even (suc (suc (suc (suc size)))) address node = absurd (omega (arith, node.size_at_most))

row_even : (size address : ℕ) → IsNodeOfBlock size address →
    row_of address % (8 / 2 ^ (3 - size)) ≡ 0
unfolding row_of
row_even zero address node = omega arith
row_even (suc zero) address node = omega (arith, node.multiple)
row_even (suc (suc zero)) address node = omega (arith, node.multiple)
row_even (suc (suc (suc zero))) address node = omega (arith, node.multiple, node.inside)
row_even (suc (suc (suc (suc size)))) address node = absurd (omega (arith, node.size_at_most))

column_below : (address : ℕ) → column_of address < 8
unfolding column_of
column_below address = omega arith

row_below : (address : ℕ) → row_of address < 8
unfolding row_of
row_below address = omega arith

pub is_searched : (size address column row : ℕ) → IsNodeOfBlock size address →
    column ≡ column_of address → row ≡ row_of address →
    IsNode (record { depth = 3 - size; x = column; y = row })
is_searched size address column row node across down = record {
  depth = omega arith;
  x = omega (arith, column_below address, across);
  y = omega (arith, row_below address, down);
  column = ap (λ n. n % (8 / 2 ^ (3 - size))) across ∙ column_even size address node;
  row = ap (λ n. n % (8 / 2 ^ (3 - size))) down ∙ row_even size address node;
}

-- ---- its block is one of the picture

below_product : (index q w h : ℕ) → index < q * w + w → q < h → index < w * h
below_product index q w h near below =
    let step : (q + 1) * w ≤ h * w = mul-le-mul_right w (omega (arith, below)) in
    omega (arith, near, step, add-mul q 1 w, mul_comm h w)

some_side : (size : ℕ) → size ≤ 3 → 0 < side size
some_side zero few = omega arith
some_side (suc zero) few = omega arith
some_side (suc (suc zero)) few = omega arith
some_side (suc (suc (suc zero))) few = omega arith
some_side (suc (suc (suc (suc size)))) few = absurd (omega (arith, few))

pub block_below : (place : Site) (size address : ℕ) (m : Motion) → size ≤ 3 → 0 < place.width →
    y0 place address + side size ≤ place.height → IsOfSides place.width place.height m →
    place.index < block_count m
block_below place size address m few some bottom sides =
    let across : ℕ = blocks_over luma_side place.width in
    let there : 0 < across = omega (arith, some) in
    let some_rows = some_side size few in
    let row : ctb_row place < blocks_over luma_side place.height =
    omega (arith, bottom, some_rows) in
    let below : place.index < across * blocks_over luma_side place.height =
    below_product place.index (ctb_row place) across (blocks_over luma_side place.height)
    (lt-div-mul-add there) row in
    let wide = ap (blocks_over luma_side) sides.wide in
    let high = ap (blocks_over luma_side) sides.high in
    let same = ap₂ (λ a b. a * b) wide high in
    omega (arith, below, same)

-- ---- it begins where it was searched

depth_is : (size : ℕ) → size ≤ 3 → depth_of_side (side size) ≡ 3 - size
depth_is zero few = refl
depth_is (suc zero) few = refl
depth_is (suc (suc zero)) few = refl
depth_is (suc (suc (suc zero))) few = refl
depth_is (suc (suc (suc (suc size)))) few = absurd (omega (arith, few))

column_is : (place : Site) (address : ℕ) → x0 place address % luma_side / 8 ≡ column_of address
column_is place address = omega (arith, column_below address)

row_is : (place : Site) (address : ℕ) → y0 place address % luma_side / 8 ≡ row_of address
row_is place address = omega (arith, row_below address)

node_is : (place : Site) (size address : ℕ) → size ≤ 3 →
    node_at (x0 place address) (y0 place address) (side size) ≡ own_node size address
node_is place size address few =
    let depth = depth_is size few in
    let column = column_is place address in
    let row = row_is place address in λ i. record { depth = depth i; x = column i; y = row i }

block_is : (place : Site) (address : ℕ) →
    block_at place.width (x0 place address) (y0 place address) ≡ place.index
block_is place address =
    let across : ℕ = blocks_over luma_side place.width in
    let column : x0 place address / luma_side ≡ place.index % across =
    omega (arith, column_below address) in
    let row : y0 place address / luma_side ≡ place.index / across =
    omega (arith, row_below address) in
    ap₂ (λ a b. across * a + b) row column ∙ div-add-mod place.index across

-- what was found for the node
pub found_here : (t : Task) (size address entry : ℕ) (m : Motion) (result : Option Mv)
    (node : Node) → size ≤ 3 → names t entry ≡ true → option_copied t.motion ≡ Some m → m.width ≡ t.place.width →
    node ≡ own_node size address → result ≡ vector_of m entry t.place.index node →
    result ≡ found_at t size address entry
found_here t size address entry m result node few named there wide is found =
    let x : ℕ = x0 t.place address in
    let y : ℕ = y0 t.place address in
    found ∙ ap (vector_of m entry t.place.index) (is ∙ sym (node_is t.place size address few)) ∙
    ap (λ index. vector_of m entry index (node_at x y (side size)))
    (sym (ap (λ width. block_at width x y) wide ∙ block_is t.place address)) ∙
    sym (ap (λ motion. found_of motion entry x y (side size)) there) ∙
    sym (ap (λ test. cond test (vectors_of t entry x y (side size)) None) named)
