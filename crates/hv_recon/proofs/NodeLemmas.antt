-- What is decoded behind the nodes of a coding tree block: leaves, nodes outside the picture, and
-- nodes that are split.
use Rattle.std.proofs.Common.{◌≡◌, ℕ, zero, suc, ◌+◌, ◌-◌, ◌*◌, ◌/◌, ◌%◌, ◌^◌, ◌<◌, ◌≤◌, Bool, true, false, cond, refl, ap, subst, ◌∙◌, arith, inl, inr}
use Rattle.std.specs.Prelude.{nat_lt, ◌&&◌, List, slice_get, Some, None, option_and_then}
use Rattle.std.proofs.Math.Dec.{lit<}
use Rattle.std.proofs.lemmas.Bool.{cases_lt, and_parts, ltb-true}
use Rattle.std.proofs.lemmas.Bool.Decides.{nat_tests}
use Rattle.hv_types.specs.declared.picture.Picture.{Picture}
use Rattle.hv_block.specs.declared.edges.Neighbours.{Neighbours}
use Rattle.hv_block.specs.Samples.{Samples}
use Rattle.hv_tree_model.specs.Trees.{Tree, Split, Outside, side, greatest_size}
use Rattle.hv_tree_model.specs.Sites.{Site, ctb_side, ctb_column, ctb_row, address_of, column_of, row_of, x0, y0, squares, is_outside}
use Rattle.hv_tree_model.specs.Plans.{Plan, is_leaf, tree_at}
use Rattle.hv_tree_model.proofs.NodeLemmas.{IsNode, child_of}
use Rattle.hv_unit_model.proofs.GeometryLemmas.{address_of_place, square_of_node}
use Rattle.hv_recon_model.specs.Reconstruction.{Component, Decoded, decoded_tree}
use Rattle.hv_recon_model.proofs.DecodedLemmas.{Step, and_then}
use Rattle.hv_recon_model.proofs.PictureLemmas.{corner_column, corner_row}
use Rattle.hv_recon_model.specs.SeenSamples.{Spot, SamplesAround, IsSeen, luma_spot, chroma_spot, comes_before, sample_at_left, sample_above, sample_around, is_in_picture, look_around}
use Rattle.hv_recon.specs.Leaves.{AreSeen, luma_around, cb_around, cr_around, leaf_of_plan}
use Rattle.hv_recon.specs.DecodedNodes.{is_whole, IsNodeOfBlock, LeavesDecodeAsNodes, NodesOutsideDecodeNothing, SplitNodesDecodeByChildren, GreatestNodesAreBlocks}
use Rattle.hv_lemmas.proofs.BooleanLemmas.{same_where, other_where}

-- ---- a leaf

pub leaf_node : (plan : Plan) (size address : ℕ) (place : Site) →
    is_outside place address ≡ false →
    is_whole size (slice_get plan.units address) ≡ true →
    tree_at place plan size address ≡ leaf_of_plan plan size address
unfolding tree_at
leaf_node plan zero address place inside whole = ap (λ t. cond t Outside
    (leaf_of_plan plan zero address)) inside
leaf_node plan (suc size) address place inside whole = rw (inside, whole) refl

pub leaf_as_node : LeavesDecodeAsNodes
leaf_as_node plan size address place qp references near old new inside whole leaf d seen =
    let r = leaf d seen in
    let same = leaf_node plan size address place inside whole in (
      r.0,
      ap (λ t. decoded_tree qp size (x0 place address) (y0 place address) t d) same ∙ r.1,
      r.2,
    )

-- ---- a node that is split

pub split_node : (plan : Plan) (size address : ℕ) (place : Site) →
    is_outside place address ≡ false →
    is_leaf (suc size) (slice_get plan.units address) ≡ false →
    tree_at place plan (suc size) address ≡
    Split (tree_at place plan size address)
    (tree_at place plan size (address + squares size))
    (tree_at place plan size (address + 2 * squares size))
    (tree_at place plan size (address + 3 * squares size))
unfolding tree_at
split_node plan size address place inside split = rw (inside, split) refl

pub node_of_block : (size address : ℕ) → IsNodeOfBlock size address → IsNode size address
node_of_block size address node = record {
  few = node.size_at_most;
  inside = node.inside;
  even = node.multiple;
}

split_decodes : (qp size x y : ℕ) (a b c t : Tree) (d d1 d2 d3 d4 : Decoded) →
    decoded_tree qp size x y a d ≡ Some d1 →
    decoded_tree qp size (x + side size) y b d1 ≡ Some d2 →
    decoded_tree qp size x (y + side size) c d2 ≡ Some d3 →
    decoded_tree qp size (x + side size) (y + side size) t d3 ≡ Some d4 →
    decoded_tree qp (suc size) x y (Split a b c t) d ≡ Some d4
unfolding decoded_tree
split_decodes qp size x y a b c t d d1 d2 d3 d4 first second third fourth =
    let f2 : Step = decoded_tree qp size (x + side size) y b in
    let f3 : Step = decoded_tree qp size x (y + side size) c in
    let f4 : Step = decoded_tree qp size (x + side size) (y + side size) t in
    let two = and_then f2 (decoded_tree qp size x y a d) d1 d2 first second in
    let three = and_then f3 (option_and_then f2 (decoded_tree qp size x y a d)) d2 d3 two third in
    and_then f4 (option_and_then f3 (option_and_then f2 (decoded_tree qp size x y a d))) d3 d4
    three fourth

-- a child's corner, and what is decoded there
at_child : (qp size : ℕ) (place : Site) (plan : Plan) (z x y : ℕ) (d e : Decoded) →
    x0 place z ≡ x → y0 place z ≡ y →
    decoded_tree qp size (x0 place z) (y0 place z) (tree_at place plan size z) d ≡ Some e →
    decoded_tree qp size x y (tree_at place plan size z) d ≡ Some e
at_child qp size place plan z x y d e column row done =
    subst (λ u. decoded_tree qp size u y (tree_at place plan size z) d ≡ Some e) column
    (subst (λ v. decoded_tree qp size (x0 place z) v (tree_at place plan size z) d ≡ Some e)
    row done)

seen_from : (place : Site) (references : List Picture) (near : Neighbours) (own : Samples)
    (a b : ℕ) (d : Decoded) → a ≡ b → AreSeen place references near own a d →
    AreSeen place references near own b d
seen_from place references near own a b d same seen =
    subst (λ n. AreSeen place references near own n d) same seen

pub split_by_children : SplitNodesDecodeByChildren
split_by_children plan size address place qp references near s0 s1 s2 s3 s4 node inside split
    first second third fourth d seen =
    let n : ℕ = squares size in
    let x : ℕ = x0 place address in
    let y : ℕ = y0 place address in
    let half : ℕ = side size in
    let child = child_of size address in
    let is_node = node_of_block (suc size) address node in
    let one = child 1 is_node (lit< tt) in
    let two = child 2 is_node (lit< tt) in
    let three = child 3 is_node (lit< tt) in
    let at_one : address + 1 * n ≡ address + n = omega arith in
    let column_one : column_of (address + n) ≡ column_of address + 1 % 2 * 2 ^ size =
    subst (λ k. column_of k ≡ column_of address + 1 % 2 * 2 ^ size) at_one one.column in
    let row_one : row_of (address + n) ≡ row_of address + 1 / 2 * 2 ^ size =
    subst (λ k. row_of k ≡ row_of address + 1 / 2 * 2 ^ size) at_one one.row in
    let r1 = first d seen in
    let r2 = second r1.0 r1.2 in
    let r3 = third r2.0
    (seen_from place references near s2 (address + n + n) (address + 2 * n) r2.0 (omega arith)
    r2.2) in
    let r4 = fourth r3.0
    (seen_from place references near s3 (address + 2 * n + n) (address + 3 * n) r3.0 (omega arith)
    r3.2) in (
      r4.0,
      ap (λ t. decoded_tree qp (suc size) x y t d) (split_node plan size address place inside split)
          ∙ split_decodes qp size x y _ _ _ _ d r1.0 r2.0 r3.0 r4.0 r1.1
          (at_child qp size place plan (address + n) (x + half) y r1.0 r2.0
          (omega (arith, column_one)) (omega (arith, row_one)) r2.1)
          (at_child qp size place plan (address + 2 * n) x (y + half) r2.0 r3.0
          (omega (arith, two.column)) (omega (arith, two.row)) r3.1)
          (at_child qp size place plan (address + 3 * n) (x + half) (y + half) r3.0 r4.0
          (omega (arith, three.column)) (omega (arith, three.row)) r4.1),
      seen_from place references near s4 (address + 3 * n + n) (address + 4 * n) r4.0 (omega arith)
          r4.2,
    )

-- ---- the whole block

pub greatest_node_is_block : GreatestNodesAreBlocks
greatest_node_is_block plan place qp references near samples node own d seen =
    let r = node own d seen in (
      r.0,
      at_child qp greatest_size place plan 0 (ctb_side * ctb_column place)
          (ctb_side * ctb_row place) d r.0 (omega (arith, corner_column))
          (omega (arith, corner_row)) r.1,
      r.2,
    )

-- ---- a node outside the picture

-- a square of 8x8 luma samples at a place of the component lies before it in the picture
pub record FitsIn (place : Site) (s : Spot) : Type 0 where
  pub across :
      (u : ℕ) → s.left + u < s.width →
      ctb_side * ctb_column place + 8 * (u / (s.side / 8)) < place.width
  pub down :
      (v : ℕ) → s.top + v < s.height →
      ctb_side * ctb_row place + 8 * (v / (s.side / 8)) < place.height
  pub columns : (u : ℕ) → u < s.side → u / (s.side / 8) < 8

pub luma_fits : (place : Site) → FitsIn place (luma_spot place)
luma_fits place = record {
  across = λ u h. omega (arith, h);
  down = λ v h. omega (arith, h);
  columns = λ u h. omega (arith, h);
}

pub chroma_fits : (place : Site) → FitsIn place (chroma_spot place)
chroma_fits place = record {
  across = λ u h. omega (arith, h);
  down = λ v h. omega (arith, h);
  columns = λ u h. omega (arith, h);
}

-- no square of the node lies in the picture
none_inside : (place : Site) (size address c r : ℕ) → IsNode size address →
    is_outside place address ≡ true → c < 8 → r < 8 →
    ctb_side * ctb_column place + 8 * c < place.width →
    ctb_side * ctb_row place + 8 * r < place.height →
    address ≤ address_of c r → address_of c r < address + squares size → ⊥
unfolding is_outside
none_inside place size address c r node outside cb rb across down least most =
    let b : ℕ = address_of c r - address in
    let sum : address + b ≡ address_of c r = omega (arith, least) in
    let square = square_of_node size address b node.few node.inside node.even
    (omega (arith, least, most)) in
    let at = address_of_place c r cb rb in
    let column : column_of (address_of c r) ≡ column_of address + column_of b =
    subst (λ k. column_of k ≡ column_of address + column_of b) sum square.0 in
    let row : row_of (address_of c r) ≡ row_of address + row_of b =
    subst (λ k. row_of k ≡ row_of address + row_of b) sum square.1 in
    let left : x0 place address < place.width = omega (arith, column, at.0, across) in
    let top : y0 place address < place.height = omega (arith, row, at.1, down) in
    absurd (grind (arith, nat_tests))

same_before : (a from to : ℕ) → (from ≤ a → a < to → ⊥) → from ≤ to →
    nat_lt a from ≡ nat_lt a to
same_before a from to none order = elim (cases_lt a from) [
  | inl early ↦ grind (arith, nat_tests)
  | inr later ↦ elim (cases_lt a to) [
    | inl there ↦ absurd (none later there)
    | inr past ↦ grind (arith, nat_tests)
  ]
]

and_same : (p q a b : Bool) → (p ≡ true → q ≡ true → a ≡ b) → p && q && a ≡ p && q && b
and_same true true a b h = h refl refl
and_same true false a b h = refl
and_same false q a b h = refl

behind : (x n : ℕ) → nat_lt x n ≡ false → n ≤ x
behind x n late = grind (arith, nat_tests, late)

-- so nothing is seen of its squares
module _ (place : Site) (s : Spot) (fits : FitsIn place s) (size address : ℕ)
    (node : IsNode size address) (outside : is_outside place address ≡ true) where
  before_same : (u v : ℕ) → u < s.side → v < s.side → s.left + u < s.width →
      s.top + v < s.height →
      comes_before s.side address u v ≡ comes_before s.side (address + squares size) u v
  before_same u v ub vb across down =
      let c : ℕ = u / (s.side / 8) in
      let r : ℕ = v / (s.side / 8) in
      same_before (address_of c r) address (address + squares size)
      (none_inside place size address c r node outside (fits.columns u ub) (fits.columns v vb)
      (fits.across u across) (fits.down v down)) (omega arith)

  look_later : (around : SamplesAround) (own : List ℕ) (x y : ℕ) →
      look_around s around own address x y ≡
      look_around s around own (address + squares size) x y
  unfolding look_around
  look_later around own x y =
      let n : ℕ = address + squares size in
      same_where (is_in_picture s x y) (sample_around s.side around own address x y)
      (sample_around s.side around own n x y) None (λ there.
      other_where (nat_lt x s.side) (sample_at_left s.side around y) _ _ (λ no_x.
      other_where (nat_lt y s.side) (sample_above s.side around x) _ _ (λ no_y.
      let p = and_parts _ (nat_lt (s.top + y - s.side) s.height) there in
      let q = and_parts _ (nat_lt (s.left + x - s.side) s.width) p.0 in
      ap (λ t. cond t (slice_get own ((y - s.side) * s.side + (x - s.side))) None)
      (and_same (nat_lt (x - s.side) s.side) (nat_lt (y - s.side) s.side) _ _ (λ xb yb.
      before_same (x - s.side) (y - s.side) (ltb-true _ _ xb) (ltb-true _ _ yb)
      (omega (arith, behind x s.side no_x, ltb-true _ _ q.1))
      (omega (arith, behind y s.side no_y, ltb-true _ _ p.1)))))))

  seen_later : (around : SamplesAround) (own : List ℕ) (samples : Component) →
      IsSeen s around own address samples → IsSeen s around own (address + squares size) samples
  seen_later around own samples seen = record {
    sample = λ x y left right top low.
        seen.sample x y left right top low ∙ look_later around own x y;
  }

pub outside_node : (plan : Plan) (size address : ℕ) (place : Site) →
    is_outside place address ≡ true → tree_at place plan size address ≡ Outside
unfolding tree_at
outside_node plan zero address place outside = rw outside refl
outside_node plan (suc size) address place outside = rw outside refl

nothing_more : (qp size x y : ℕ) (d : Decoded) → decoded_tree qp size x y Outside d ≡ Some d
unfolding decoded_tree
nothing_more qp zero x y d = refl
nothing_more qp (suc size) x y d = refl

pub outside_decodes_nothing : NodesOutsideDecodeNothing
outside_decodes_nothing plan size address place qp references near samples node outside d seen =
    let is_node = node_of_block size address node in
    let luma = luma_fits place in
    let chroma = chroma_fits place in (
      d,
      ap (λ t. decoded_tree qp size (x0 place address) (y0 place address) t d)
          (outside_node plan size address place outside) ∙
          nothing_more qp size (x0 place address) (y0 place address) d,
      record {
        luma = seen_later place (luma_spot place) luma size address is_node outside
            (luma_around near) samples.luma d.luma seen.luma;
        cb = seen_later place (chroma_spot place) chroma size address is_node outside
            (cb_around near) samples.cb d.cb seen.cb;
        cr = seen_later place (chroma_spot place) chroma size address is_node outside
            (cr_around near) samples.cr d.cr seen.cr;
        same_references = seen.same_references;
      },
    )
