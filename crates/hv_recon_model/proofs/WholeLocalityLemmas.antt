-- The same of whole pictures: what is decoded behind a block changes neither it nor the edges that
-- it sees.
use Rattle.std.proofs.Common.{◌≡◌, ℕ, zero, suc, ◌+◌, ◌-◌, ◌*◌, ◌/◌, ◌%◌, ◌<◌, ◌≤◌, List, [], ◌∷◌, refl, sym, ap, ap₂, subst, ◌∙◌, ◌⊎◌, arith, inl, inr}
use Rattle.std.specs.Prelude.{slice_get, Option, Some, None, option_and_then, is_some}
use Rattle.std.proofs.Math.Nat.{div-add-mod, mul_comm, mul-le-mul_right, add-mul, mod-lt, mul-pos}
use Rattle.std.proofs.lemmas.Bool.{true≢false}
use Rattle.hv_lemmas.proofs.OptionLemmas.{some_same}
use Rattle.hv_tree_model.specs.Trees.{Tree, greatest_size}
use Rattle.hv_tree_model.specs.Sites.{site, sites, sites_from, blocks_over, ctb_side, ctb_column, ctb_row}
use Rattle.hv_recon_model.specs.Reconstruction.{Component, Decoded, nothing_decoded, decoded_tree, decoded_trees}
use Rattle.hv_recon_model.specs.LocalityLaws.{SameEdges, SameBlock, SameEdgesAround, SameBlockThere, PicturesAreLocal}
use Rattle.hv_recon_model.proofs.DecodedLemmas.{Step, and_then}
use Rattle.hv_recon_model.proofs.LocalityLemmas.{BesideBlocks, KeepAt, trees_beside, kept_by, blocks_are_local}

-- ---- a picture, up to a block and behind it

-- a step that succeeded, and the next
steps : (f : Step) (r : Option Decoded) (p : Decoded) → option_and_then f r ≡ Some p →
    (e : Decoded) × (r ≡ Some e) × (f e ≡ Some p)
steps f None p done = absurd (true≢false (sym (ap is_some done)))
steps f (Some e) p done = (e, refl, done)

module _ (width height qp : ℕ) where
  abbrev left : ℕ → ℕ
  left k = ctb_side * ctb_column (site width height k)

  abbrev top : ℕ → ℕ
  top k = ctb_side * ctb_row (site width height k)

  record SplitAt (count first k : ℕ) (trees : List Tree) (tree : Tree) (d p : Decoded) :
      Type 0 where
    before : Decoded
    behind : Decoded
    rest : List Tree
    first_part : decoded_trees qp (sites_from k width height first) trees d ≡ Some before
    block :
        decoded_tree qp greatest_size (left (first + k)) (top (first + k)) tree before ≡
        Some behind
    last_part :
        decoded_trees qp (sites_from (count - k - 1) width height (first + k + 1)) rest behind ≡
        Some p

  split_at : (count first k : ℕ) (trees : List Tree) (tree : Tree) (d p : Decoded) → k < count →
      slice_get trees k ≡ Some tree →
      decoded_trees qp (sites_from count width height first) trees d ≡ Some p →
      SplitAt count first k trees tree d p
  unfolding decoded_trees
  split_at zero first k trees tree d p below there done = absurd (omega (arith, below))
  split_at (suc count) first k [] tree d p below there done =
      absurd (true≢false (sym (ap is_some there)))
  split_at (suc count) first zero (head ∷ trees) tree d p below there done =
      let s = steps (decoded_trees qp (sites_from count width height (first + 1)) trees)
      (decoded_tree qp greatest_size (left first) (top first) head d) p done in
      let number : first ≡ first + 0 = omega arith in
      let next : first + 1 ≡ first + 0 + 1 = omega arith in
      let left_over : count ≡ suc count - 0 - 1 = omega arith in
      record {
        before = d;
        behind = s.0;
        rest = trees;
        first_part = refl;
        block = subst (λ n. decoded_tree qp greatest_size (left n) (top n) tree d ≡ Some s.0) number
            (ap (λ t. decoded_tree qp greatest_size (left first) (top first) t d)
            (sym (some_same head tree there)) ∙ s.1);
        last_part = ap₂ (λ c n. decoded_trees qp (sites_from c width height n) trees s.0)
            (sym left_over) (sym next) ∙ s.2;
      }
  split_at (suc count) first (suc k) (head ∷ trees) tree d p below there done =
      let s = steps (decoded_trees qp (sites_from count width height (first + 1)) trees)
      (decoded_tree qp greatest_size (left first) (top first) head d) p done in
      let r = split_at count (first + 1) k trees tree s.0 p (omega (arith, below)) there s.2 in
      let number : first + 1 + k ≡ first + suc k = omega arith in
      let next : first + 1 + k + 1 ≡ first + suc k + 1 = omega arith in
      let left_over : count - k - 1 ≡ suc count - suc k - 1 = omega arith in
      record {
        before = r.before;
        behind = r.behind;
        rest = r.rest;
        first_part = and_then (decoded_trees qp (sites_from k width height (first + 1)) trees)
            (decoded_tree qp greatest_size (left first) (top first) head d) s.0 r.before s.1
            r.first_part;
        block = subst (λ n. decoded_tree qp greatest_size (left n) (top n) tree r.before ≡
            Some r.behind) number r.block;
        last_part = ap₂ (λ c n. decoded_trees qp (sites_from c width height n) r.rest r.behind)
            (sym left_over) (sym next) ∙ r.last_part;
      }

-- ---- places of blocks before this one, and of this one

abbrev IsEarly : ℕ → ℕ → ℕ → ℕ → ℕ → Type 0
IsEarly side column row x y =
    (y < side * row) ⊎ ((x < side * column) × (y < side * row + side))

early_place : (width height n count x y : ℕ) → 0 < blocks_over width →
    IsEarly 64 (n % blocks_over width) (n / blocks_over width) x y →
    BesideBlocks width height n count x y
early_place width height n count x y some (inl high) k least most = record {
  beside = λ from across below down.
      let columns : ℕ = blocks_over width in
      let row : k / columns + 1 ≤ n / columns = omega (arith, below, high) in
      let rows : (k / columns + 1) * columns ≤ n / columns * columns =
      mul-le-mul_right columns row in
      absurd (omega (
        arith,
        rows,
        add-mul (k / columns) 1 columns,
        least,
        mod-lt k some,
        div-add-mod n columns,
        div-add-mod k columns,
        mul_comm columns (n / columns),
        mul_comm columns (k / columns),
      ));
}
early_place width height n count x y some (inr before) k least most = record {
  beside = λ from across below down.
      let columns : ℕ = blocks_over width in
      let row : k / columns ≤ n / columns = omega (arith, below, before.1) in
      let rows : k / columns * columns ≤ n / columns * columns = mul-le-mul_right columns row in
      absurd (omega (
        arith,
        rows,
        from,
        before.0,
        least,
        div-add-mod n columns,
        div-add-mod k columns,
        mul_comm columns (n / columns),
        mul_comm columns (k / columns),
      ));
}

own_place : (width height n count x y : ℕ) → 64 * (n % blocks_over width) ≤ x →
    x < 64 * (n % blocks_over width) + 64 → 64 * (n / blocks_over width) ≤ y →
    y < 64 * (n / blocks_over width) + 64 → BesideBlocks width height (n + 1) count x y
own_place width height n count x y right left_of low high k least most = record {
  beside = λ from across below down.
      let columns : ℕ = blocks_over width in
      let row : k / columns ≡ n / columns = omega (arith, below, down, low, high) in
      let column : k % columns ≡ n % columns = omega (arith, from, across, right, left_of) in
      let rows : columns * (k / columns) ≡ columns * (n / columns) =
      ap (λ r. columns * r) row in
      absurd (omega (
        arith,
        rows,
        column,
        least,
        div-add-mod n columns,
        div-add-mod k columns,
      ));
}

edges_back : (side column row : ℕ) (d e p q : Component) → 0 < side →
    ((x y : ℕ) → IsEarly side column row x y → p x y ≡ d x y) →
    ((x y : ℕ) → IsEarly side column row x y → q x y ≡ e x y) →
    SameEdges side column row p q → SameEdges side column row d e
edges_back side column row d e p q some first second edges = record {
  left = λ y has below.
      let here : 0 < side * column = mul-pos some has in
      at (side * column - 1) (side * row + y) (inr (omega (arith, here), omega (arith, below)))
      (edges.left y has below);
  above_left = λ has has_row.
      let here : 0 < side * row = mul-pos some has_row in
      at (side * column - 1) (side * row - 1) (inl (omega (arith, here)))
      (edges.above_left has has_row);
  above = λ x has_row below.
      let here : 0 < side * row = mul-pos some has_row in
      at (side * column + x) (side * row - 1) (inl (omega (arith, here)))
      (edges.above x has_row below);
} where
  at : (x y : ℕ) → IsEarly side column row x y → p x y ≡ q x y → d x y ≡ e x y
  at x y early same = sym (first x y early) ∙ same ∙ second x y early

block_forth : (side column row : ℕ) (f g p q : Component) →
    ((x y : ℕ) → x < side → y < side →
    p (side * column + x) (side * row + y) ≡ f (side * column + x) (side * row + y)) →
    ((x y : ℕ) → x < side → y < side →
    q (side * column + x) (side * row + y) ≡ g (side * column + x) (side * row + y)) →
    SameBlock side column row f g → SameBlock side column row p q
block_forth side column row f g p q first second same = record {
  sample = λ x y across down.
      first x y across down ∙ same.sample x y across down ∙ sym (second x y across down);
}

-- ---- two pictures

module _ (width height qp n count : ℕ) (some : 0 < blocks_over width) (rest : List Tree)
    (tree : Tree) (b f p : Decoded)
    (block : decoded_tree qp greatest_size (left width height qp n) (top width height qp n) tree b ≡
    Some f)
    (last_part : decoded_trees qp (sites_from count width height (n + 1)) rest f ≡ Some p) where
  kept_behind : KeepAt (BesideBlocks width height (n + 1) count) f p
  kept_behind =
      kept_by (BesideBlocks width height (n + 1) count) f p
      (decoded_trees qp (sites_from count width height (n + 1)) rest f) last_part
      (trees_beside width height qp count (n + 1) rest f)

  kept_before : KeepAt (BesideBlocks width height n (suc count)) b p
  unfolding decoded_trees
  kept_before =
      kept_by (BesideBlocks width height n (suc count)) b p
      (decoded_trees qp (sites_from (suc count) width height n) (tree ∷ rest) b)
      (ap (option_and_then (decoded_trees qp (sites_from count width height (n + 1)) rest)) block ∙
      last_part) (trees_beside width height qp (suc count) n (tree ∷ rest) b)

pub some_of_product : (columns rows n : ℕ) → n < columns * rows → 0 < columns
some_of_product zero rows n h = absurd (omega (arith, h))
some_of_product (suc columns) rows n h = omega arith

pub pictures_are_local : PicturesAreLocal
unfolding sites
pictures_are_local width height qp n references trees others tree p q inside there there_too first
    second edges =
    let start : Decoded = nothing_decoded references in
    let total : ℕ = blocks_over width * blocks_over height in
    let count : ℕ = total - n - 1 in
    let some : 0 < blocks_over width =
    some_of_product (blocks_over width) (blocks_over height) n inside in
    let column : ℕ = n % blocks_over width in
    let row : ℕ = n / blocks_over width in
    let x0 : ℕ → ℕ = left width height qp in
    let y0 : ℕ → ℕ = top width height qp in
    let s = split_at width height qp total 0 n trees tree start p inside there first in
    let t = split_at width height qp total 0 n others tree start q inside there_too second in
    let zero_is : 0 + n ≡ n = omega arith in
    let s_block : decoded_tree qp greatest_size (x0 n) (y0 n) tree s.before ≡ Some s.behind =
    subst (λ k. decoded_tree qp greatest_size (x0 k) (y0 k) tree s.before ≡ Some s.behind) zero_is
    s.block in
    let t_block : decoded_tree qp greatest_size (x0 n) (y0 n) tree t.before ≡ Some t.behind =
    subst (λ k. decoded_tree qp greatest_size (x0 k) (y0 k) tree t.before ≡ Some t.behind) zero_is
    t.block in
    let s_last : decoded_trees qp (sites_from count width height (n + 1)) s.rest s.behind ≡ Some p =
    subst (λ k. decoded_trees qp (sites_from count width height (k + 1)) s.rest s.behind ≡ Some p)
    zero_is s.last_part in
    let t_last : decoded_trees qp (sites_from count width height (n + 1)) t.rest t.behind ≡ Some q =
    subst (λ k. decoded_trees qp (sites_from count width height (k + 1)) t.rest t.behind ≡ Some q)
    zero_is t.last_part in
    let s_kept = kept_before width height qp n count some s.rest tree s.before s.behind p s_block
    s_last in
    let t_kept = kept_before width height qp n count some t.rest tree t.before t.behind q t_block
    t_last in
    let s_own = kept_behind width height qp n count some s.rest tree s.before s.behind p s_block
    s_last in
    let t_own = kept_behind width height qp n count some t.rest tree t.before t.behind q t_block
    t_last in
    let early : (x y : ℕ) → IsEarly 64 column row x y →
    BesideBlocks width height n (suc count) x y =
    λ x y h. early_place width height n (suc count) x y some h in
    let early_chroma : (x y : ℕ) → IsEarly 32 column row x y →
    BesideBlocks width height n (suc count) (2 * x) (2 * y) =
    λ x y h. early (2 * x) (2 * y) (doubled column row x y h) in
    let own : (x y : ℕ) → x < 64 → y < 64 →
    BesideBlocks width height (n + 1) count (64 * column + x) (64 * row + y) =
    λ x y a d. own_place width height n count (64 * column + x) (64 * row + y) (omega arith)
    (omega (arith, a)) (omega arith) (omega (arith, d)) in
    let own_chroma : (x y : ℕ) → x < 32 → y < 32 →
    BesideBlocks width height (n + 1) count (2 * (32 * column + x)) (2 * (32 * row + y)) =
    λ x y a d. own_place width height n count (2 * (32 * column + x)) (2 * (32 * row + y))
    (omega arith) (omega (arith, a)) (omega arith) (omega (arith, d)) in
    let before : SameEdgesAround (site width height n) s.before t.before = record {
      luma = edges_back 64 column row s.before.luma t.before.luma p.luma q.luma (omega arith)
          (λ x y h. s_kept.luma x y (early x y h)) (λ x y h. t_kept.luma x y (early x y h))
          edges.luma;
      cb = edges_back 32 column row s.before.cb t.before.cb p.cb q.cb (omega arith)
          (λ x y h. s_kept.cb x y (early_chroma x y h))
          (λ x y h. t_kept.cb x y (early_chroma x y h)) edges.cb;
      cr = edges_back 32 column row s.before.cr t.before.cr p.cr q.cr (omega arith)
          (λ x y h. s_kept.cr x y (early_chroma x y h))
          (λ x y h. t_kept.cr x y (early_chroma x y h)) edges.cr;
    } in
    let r = blocks_are_local width height qp n references trees others tree s.before t.before s.behind some
    s.first_part t.first_part before s_block in
    let same_end : r.0 ≡ t.behind = some_same r.0 t.behind (sym r.1 ∙ t_block) in
    let same : SameBlockThere (site width height n) s.behind t.behind =
    subst (λ g. SameBlockThere (site width height n) s.behind g) same_end r.2 in
    record {
      luma = block_forth 64 column row s.behind.luma t.behind.luma p.luma q.luma
          (λ x y a d. s_own.luma _ _ (own x y a d)) (λ x y a d. t_own.luma _ _ (own x y a d))
          same.luma;
      cb = block_forth 32 column row s.behind.cb t.behind.cb p.cb q.cb
          (λ x y a d. s_own.cb (32 * column + x) (32 * row + y) (own_chroma x y a d))
          (λ x y a d. t_own.cb (32 * column + x) (32 * row + y) (own_chroma x y a d)) same.cb;
      cr = block_forth 32 column row s.behind.cr t.behind.cr p.cr q.cr
          (λ x y a d. s_own.cr (32 * column + x) (32 * row + y) (own_chroma x y a d))
          (λ x y a d. t_own.cr (32 * column + x) (32 * row + y) (own_chroma x y a d)) same.cr;
    } where
      doubled : (column row x y : ℕ) → IsEarly 32 column row x y →
          IsEarly 64 column row (2 * x) (2 * y)
      doubled column row x y (inl high) = inl (omega (arith, high))
      doubled column row x y (inr before) =
          inr (omega (arith, before.0), omega (arith, before.1))
