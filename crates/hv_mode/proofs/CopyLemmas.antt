-- A square of samples that is copied row by row: a node has the samples of the other block, and
-- those before it are kept (6.5.2).
use Rattle.std.proofs.Common.{◌≡◌, ℕ, zero, suc, ◌+◌, ◌-◌, ◌*◌, ◌/◌, ◌%◌, ◌^◌, ◌<◌, ◌≤◌, Bool, true, false, cond, List, ◌++◌, length, take, take_at, drop, drop_at, length-drop, length-take-le, get_or, refl, sym, ap, ap₂, ◌∙◌, subst, arith}
use Rattle.std.specs.Prelude.{◌||◌, slice_index_or, Some}
use Rattle.std.proofs.Math.Nat.{mul-le-mul_right, add-mul, pow-suc}
use Rattle.std.proofs.lemmas.Bool.{and_parts, leb-true, ltb-true, lt-ltb}
use Rattle.std.proofs.lemmas.Bool.Decides.{nat_tests}
use Rattle.std.proofs.lemmas.Grind.{common_steps}
use Rattle.std.proofs.lemmas.Nat.{div-mul-add}
use Rattle.std.proofs.lemmas.Option.{slice_get-get_or}
use Rattle.hv_lemmas.specs.Lists.{tabulate}
use Rattle.hv_lemmas.proofs.ListLemmas.{get_or-tabulate}
use Rattle.hv_block.specs.declared.block.Block.{Block}
use Rattle.hv_block.specs.Plans.{IsWholePlan, with_part, with_node}
use Rattle.hv_tree_model.specs.Plans.{part}
use Rattle.hv_tree_model.specs.Sites.{column_of, row_of, squares}
use Rattle.hv_unit_model.proofs.GeometryLemmas.{address_of_place}
use Rattle.hv_recon_model.specs.Reconstruction.{square_at, is_in}
use Rattle.hv_recon_model.specs.SeenSamples.{by_rows, comes_before, IsPut}
use Rattle.hv_recon_model.proofs.SeenLemmas.{ComesBetween}
use Rattle.hv_recon_model.proofs.SeenNodeLemmas.{node_ends, luma_between, chroma_between}
use Rattle.hv_recon.specs.DecodedNodes.{IsNodeOfBlock}
use Rattle.hv_recon.proofs.NodeLemmas.{node_of_block}
use Rattle.hv_recon.proofs.PutRowLemmas.{place_inside}
use Rattle.hv_mode.specs.Nodes.{SameSamples, SameInNode, CopiesNode}
use Rattle.hv_mode.specs.Copies.{CopiesSquare, CopiesSamples}
use Rattle.hv_lemmas.proofs.BooleanLemmas.{same_where}
use Rattle.hv_recon_model.proofs.PictureLemmas.{corner_column, corner_row}

-- ---- a square of samples

-- by its own rows
unfoldable pub gathered : ℕ → ℕ → ℕ → ℕ → List ℕ → List ℕ
gathered side x y n from = tabulate (n * n) (λ i. get_or from ((y + i / n) * side + x + i % n) 0)

mod_of : (r n j : ℕ) → j < n → (r * n + j) % n ≡ j
mod_of r n j small = grind (arith, div-mul-add r n j small)

pub gathered_at : (side x y n r j : ℕ) (from : List ℕ) → r < n → j < n →
    get_or (gathered side x y n from) (r * n + j) 0 ≡ get_or from ((y + r) * side + x + j) 0
unfolding gathered
gathered_at side x y n r j from below small =
    let rows : (r + 1) * n ≤ n * n = mul-le-mul_right n (omega (arith, below)) in
    get_or-tabulate (n * n) (r * n + j) (λ i. get_or from ((y + i / n) * side + x + i % n) 0) 0
    (omega (arith, rows, add-mul r 1 n, small)) ∙
    ap₂ (λ a b. get_or from ((y + a) * side + x + b) 0) (div-mul-add r n j small)
    (mod_of r n j small)

-- one of its rows, from this place on

abbrev pub row_at : List ℕ → ℕ → ℕ → List ℕ
row_at from at n = take (at + n - at) (drop at from)

pub length-row_at : (from : List ℕ) (at n : ℕ) → at + n ≤ length from →
    length (row_at from at n) ≡ n
length-row_at from at n fits = grind (arith, common_steps, fits)

pub sample_of_row : (from : List ℕ) (at n j : ℕ) → j < n →
    get_or (row_at from at n) j 0 ≡ get_or from (at + j) 0
sample_of_row from at n j small = grind (arith, common_steps, small)

-- ---- all of it

inside_square : (side x y log2 p q : ℕ) (from : List ℕ) → length from ≡ side * side →
    p < side → q < side → is_in (square_at x y log2) p q ≡ true →
    Some (slice_index_or (gathered side x y (2 ^ log2) from) ((q - y) * 2 ^ log2 + (p - x)) 0) ≡
    by_rows side from p q
inside_square side x y log2 p q from whole across down inside =
    let a = and_parts _ _ inside in
    let b = and_parts _ _ a.0 in
    let c = and_parts _ _ b.0 in
    let left : x ≤ p = leb-true _ _ c.0 in
    let right : p < x + 2 ^ log2 = ltb-true _ _ c.1 in
    let top : y ≤ q = leb-true _ _ b.1 in
    let bottom : q < y + 2 ^ log2 = ltb-true _ _ a.1 in
    let row : y + (q - y) ≡ q = omega (arith, top) in
    let column : q * side + x + (p - x) ≡ q * side + p = omega (arith, left) in
    ap (λ (v : ℕ). Some v)
    (gathered_at side x y (2 ^ log2) (q - y) (p - x) from (omega (arith, top, bottom))
    (omega (arith, left, right)) ∙
    ap (λ (k : ℕ). get_or from (k * side + x + (p - x)) 0) row ∙
    ap (λ (k : ℕ). get_or from k 0) column) ∙
    sym (slice_get-get_or from (q * side + p) 0
    (place_inside side p q (length from) across down whole))

pub all_copied : (side x y log2 : ℕ) (from old new : List ℕ) → length from ≡ side * side →
    IsPut side x y log2 (gathered side x y (2 ^ log2) from) old new →
    CopiesSquare side x y log2 from old new
all_copied side x y log2 from old new whole put = record {
  sample = λ p q across down.
      put.sample p q across down ∙
      same_where (is_in (square_at x y log2) p q)
      (Some (slice_index_or (gathered side x y (2 ^ log2) from) ((q - y) * 2 ^ log2 + (p - x)) 0))
      (by_rows side from p q) (by_rows side old p q)
      (inside_square side x y log2 p q from whole across down);
}

-- ---- the square of a node

not_before : (a b : Bool) → true ≡ a || b → b ≡ false → a ≡ true
not_before true b e f = refl
not_before false b e f = sym (e ∙ f)

module _ (side x y log2 size address : ℕ) (from old new : List ℕ)
    (between : ComesBetween side x y log2 address (address + squares size))
    (copied : CopiesSquare side x y log2 from old new) where
  pub before_kept : SameSamples side address old new
  before_kept = record {
    sample = λ p q across down before.
        copied.sample p q across down ∙
        ap (λ t. cond t (by_rows side from p q) (by_rows side old p q))
        (between.apart p q across down before);
  }

  pub in_node : SameInNode side size address from new
  in_node = record {
    sample = λ p q across down behind before.
        copied.sample p q across down ∙
        ap (λ t. cond t (by_rows side from p q) (by_rows side old p q))
        (not_before _ _ (sym before ∙ between.sample p q across down) behind);
  }

-- ---- where a node lies

first_address : (address : ℕ) → IsNodeOfBlock 3 address → address ≡ 0
first_address address node = omega (arith, node.inside, node.multiple)

pub node_fits : (size address : ℕ) → IsNodeOfBlock size address →
    (column_of address + 2 ^ size ≤ 8) × (row_of address + 2 ^ size ≤ 8) ×
    (address + squares size ≤ 64)
node_fits zero address node = node_ends 0 address (omega arith) (node_of_block 0 address node)
node_fits (suc zero) address node =
    node_ends 1 address (omega arith) (node_of_block 1 address node)
node_fits (suc (suc zero)) address node =
    node_ends 2 address (omega arith) (node_of_block 2 address node)
node_fits (suc (suc (suc zero))) address node =
    let at = first_address address node in
    let column : column_of address ≡ 0 = ap column_of at ∙ corner_column in
    let row : row_of address ≡ 0 = ap row_of at ∙ corner_row in
    (omega (arith, column), omega (arith, row), omega (arith, at))
node_fits (suc (suc (suc (suc size)))) address node = absurd (omega (arith, node.size_at_most))

-- the whole block comes behind its first address and before the last

all_between : (side n address : ℕ) → address ≡ 0 → 2 ^ n ≡ side →
    ((p : ℕ) → p < side → p / (side / 8) < 8) →
    ComesBetween side 0 0 n address (address + 64)
all_between side n address first whole columns = record {
  apart = λ p q across down before.
      absurd (omega (arith, ltb-true _ _ before, first));
  sample = λ p q across down.
      let place = address_of_place (p / (side / 8)) (q / (side / 8)) (columns p across)
      (columns q down) in
      let there : comes_before side (address + 64) p q ≡ true =
      lt-ltb _ _ (omega (arith, place.2, first)) in
      let inside : is_in (square_at 0 0 n) p q ≡ true =
      grind (arith, nat_tests, whole, across, down) in
      there ∙ sym (ap (λ t. t || comes_before side address p q) inside);
}

pub node_luma : (size address : ℕ) → IsNodeOfBlock size address →
    ComesBetween 64 (8 * column_of address) (8 * row_of address) (size + 3) address
    (address + squares size)
node_luma zero address node = luma_between 0 address (omega arith) (node_of_block 0 address node)
node_luma (suc zero) address node =
    luma_between 1 address (omega arith) (node_of_block 1 address node)
node_luma (suc (suc zero)) address node =
    luma_between 2 address (omega arith) (node_of_block 2 address node)
node_luma (suc (suc (suc zero))) address node =
    let at = first_address address node in
    let column : 0 ≡ 8 * column_of address =
    sym (ap (λ a. 8 * column_of a) at ∙ ap (λ k. 8 * k) corner_column) in
    let row : 0 ≡ 8 * row_of address =
    sym (ap (λ a. 8 * row_of a) at ∙ ap (λ k. 8 * k) corner_row) in
    subst (λ x. ComesBetween 64 x (8 * row_of address) 6 address (address + 64)) column
    (subst (λ y. ComesBetween 64 0 y 6 address (address + 64)) row
    (all_between 64 6 address at refl (λ p h. omega (arith, h))))
node_luma (suc (suc (suc (suc size)))) address node = absurd (omega (arith, node.size_at_most))

pub node_chroma : (size address : ℕ) → IsNodeOfBlock size address →
    ComesBetween 32 (4 * column_of address) (4 * row_of address) (size + 2) address
    (address + squares size)
node_chroma zero address node =
    chroma_between 0 address (omega arith) (node_of_block 0 address node)
node_chroma (suc zero) address node =
    chroma_between 1 address (omega arith) (node_of_block 1 address node)
node_chroma (suc (suc zero)) address node =
    chroma_between 2 address (omega arith) (node_of_block 2 address node)
node_chroma (suc (suc (suc zero))) address node =
    let at = first_address address node in
    let column : 0 ≡ 4 * column_of address =
    sym (ap (λ a. 4 * column_of a) at ∙ ap (λ k. 4 * k) corner_column) in
    let row : 0 ≡ 4 * row_of address =
    sym (ap (λ a. 4 * row_of a) at ∙ ap (λ k. 4 * k) corner_row) in
    subst (λ x. ComesBetween 32 x (4 * row_of address) 5 address (address + 64)) column
    (subst (λ y. ComesBetween 32 0 y 5 address (address + 64)) row
    (all_between 32 5 address at refl (λ p h. omega (arith, h))))
node_chroma (suc (suc (suc (suc size)))) address node = absurd (omega (arith, node.size_at_most))

pub squares_of_size : (size : ℕ) → 4 ^ size ≡ squares size
squares_of_size zero = refl
squares_of_size (suc size) = omega (arith, pow-suc 4 size, squares_of_size size)

-- ---- a part of a list that is copied

-- the front stays
pub front_stays : {A : Type 0} (list rest : List A) (first : ℕ) → first ≤ length list →
    take first (take first list ++ rest) ≡ take first list
front_stays list rest first fits =
    take_at (take first list) rest first (length-take-le first list fits)

-- what stands behind the front
pub behind_front : {A : Type 0} (list rest : List A) (first : ℕ) → first ≤ length list →
    drop first (take first list ++ rest) ≡ rest
behind_front list rest first fits =
    drop_at (take first list) rest first (length-take-le first list fits)

pub part_copied : {A : Type 0} (list other : List A) (first count : ℕ) → first ≤ length list →
    first + count ≤ length other →
    part (with_part list other first count) first count ≡ part other first count
part_copied {A = A} list other first count fits there =
    let mid : List A = take count (drop first other) in
    let rest : List A = drop (first + count) list in
    let long : length mid ≡ count =
    length-take-le count (drop first other) (omega (arith, length-drop first other, there)) in
    ap (take count) (behind_front list (mid ++ rest) first fits) ∙ take_at mid rest count long

pub node_copied : (size address : ℕ) (from old new : Block) → IsNodeOfBlock size address →
    IsWholePlan from.plan → IsWholePlan old.plan →
    new.plan ≡ with_node old.plan from.plan size address →
    CopiesSamples size address from.samples old.samples new.samples →
    CopiesNode size address from old new
node_copied size address from old new node there whole is samples =
    record {
      kept = record {
        units = ap (λ p. take address p.units) is ∙
            front_stays old.plan.units _ address (omega (arith, fits.2, whole.units));
        luma_levels = ap (λ p. take (64 * address) p.luma) is ∙
            front_stays old.plan.luma _ (64 * address) (omega (arith, fits.2, whole.luma));
        cb_levels = ap (λ p. take (16 * address) p.cb) is ∙
            front_stays old.plan.cb _ (16 * address) (omega (arith, fits.2, whole.cb));
        cr_levels = ap (λ p. take (16 * address) p.cr) is ∙
            front_stays old.plan.cr _ (16 * address) (omega (arith, fits.2, whole.cr));
        luma = before_kept 64 _ _ _ size address _ _ _ (node_luma size address node) samples.luma;
        cb = before_kept 32 _ _ _ size address _ _ _ (node_chroma size address node) samples.cb;
        cr = before_kept 32 _ _ _ size address _ _ _ (node_chroma size address node) samples.cr;
      };
      units = ap (λ p. part p.units address (squares size)) is ∙
          ap (λ n. part (with_part old.plan.units from.plan.units address n) address (squares size))
          count ∙
          part_copied old.plan.units from.plan.units address (squares size)
          (omega (arith, fits.2, whole.units)) (omega (arith, fits.2, there.units));
      luma_levels = ap (λ p. part p.luma (64 * address) (64 * squares size)) is ∙
          ap (λ n. part (with_part old.plan.luma from.plan.luma (64 * address) (64 * n))
          (64 * address) (64 * squares size)) count ∙
          part_copied old.plan.luma from.plan.luma (64 * address) (64 * squares size)
          (omega (arith, fits.2, whole.luma)) (omega (arith, fits.2, there.luma));
      cb_levels = ap (λ p. part p.cb (16 * address) (16 * squares size)) is ∙
          ap (λ n. part (with_part old.plan.cb from.plan.cb (16 * address) (16 * n))
          (16 * address) (16 * squares size)) count ∙
          part_copied old.plan.cb from.plan.cb (16 * address) (16 * squares size)
          (omega (arith, fits.2, whole.cb)) (omega (arith, fits.2, there.cb));
      cr_levels = ap (λ p. part p.cr (16 * address) (16 * squares size)) is ∙
          ap (λ n. part (with_part old.plan.cr from.plan.cr (16 * address) (16 * n))
          (16 * address) (16 * squares size)) count ∙
          part_copied old.plan.cr from.plan.cr (16 * address) (16 * squares size)
          (omega (arith, fits.2, whole.cr)) (omega (arith, fits.2, there.cr));
      luma = in_node 64 _ _ _ size address _ _ _ (node_luma size address node) samples.luma;
      cb = in_node 32 _ _ _ size address _ _ _ (node_chroma size address node) samples.cb;
      cr = in_node 32 _ _ _ size address _ _ _ (node_chroma size address node) samples.cr;
    } where
      fits : (column_of address + 2 ^ size ≤ 8) × (row_of address + 2 ^ size ≤ 8) ×
          (address + squares size ≤ 64)
      fits = node_fits size address node

      count : 4 ^ size ≡ squares size
      count = squares_of_size size
