-- The four blocks around a coding tree block determine what is decoded in it: of what is read
-- there, the rest isn't decoded yet.
use Rattle.std.proofs.Common.{◌≡◌, ℕ, zero, suc, ◌+◌, ◌-◌, ◌*◌, ◌/◌, ◌%◌, ◌<◌, ◌≤◌, List, [], ◌∷◌, refl, sym, ap₂, subst, ◌∙◌, ◌⊎◌, arith, inl, inr}
use Rattle.std.specs.Prelude.{Option, Some, None, option_and_then}
use Rattle.std.proofs.Math.Nat.{div-add-mod, mul_comm, mul-le-mul_right, add-mul, mod-lt}
use Rattle.std.proofs.lemmas.Bool.{cases_lt}
use Rattle.hv_tree_model.specs.Trees.{Tree, greatest_size}
use Rattle.hv_tree_model.specs.Sites.{Site, site, sites_from, blocks_over, ctb_side, ctb_column, ctb_row}
use Rattle.hv_recon_model.specs.Reconstruction.{Component, Decoded, nothing_decoded, decoded_tree, decoded_trees}
use Rattle.hv_recon_model.specs.LocalityLaws.{SameEdges, SameBlock, BlocksAreLocal}
use Rattle.hv_recon_model.proofs.DecodedLemmas.{Step}
use Rattle.hv_recon_model.proofs.BesideLemmas.{LiesBeside, KeepBeside, KeptBeside, tree_beside}
use Rattle.hv_recon_model.proofs.WindowLemmas.{SameIn, SameAround, BothSame, same_tree}

-- ---- beside blocks of these numbers nothing changes

abbrev pub BesideBlocks : ℕ → ℕ → ℕ → ℕ → ℕ → ℕ → Type 0
BesideBlocks width height first count x y =
    (k : ℕ) → first ≤ k → k < first + count →
    LiesBeside (ctb_side * ctb_column (site width height k))
    (ctb_side * ctb_row (site width height k)) 64 x y

pub record KeepAt (At : ℕ → ℕ → Type 0) (d e : Decoded) : Type 0 where
  pub luma : (x y : ℕ) → At x y → e.luma x y ≡ d.luma x y
  pub cb : (x y : ℕ) → At (2 * x) (2 * y) → e.cb x y ≡ d.cb x y
  pub cr : (x y : ℕ) → At (2 * x) (2 * y) → e.cr x y ≡ d.cr x y
  pub references : e.references ≡ d.references

abbrev pub KeptAt : (ℕ → ℕ → Type 0) → Decoded → Option Decoded → Type 0
KeptAt At d None = Unit {0}
KeptAt At d (Some e) = KeepAt At d e

kept_all : (At : ℕ → ℕ → Type 0) (d : Decoded) → KeepAt At d d
kept_all At d = record {
  luma = λ x y h. refl;
  cb = λ x y h. refl;
  cr = λ x y h. refl;
  references = refl;
}

block_then : (left top : ℕ) (At Later : ℕ → ℕ → Type 0) (d e : Decoded) (r : Option Decoded) →
    ((x y : ℕ) → At x y → LiesBeside left top 64 x y) → ((x y : ℕ) → At x y → Later x y) →
    KeepBeside left top 64 d e → KeptAt Later e r → KeptAt At d r
block_then left top At Later d e None one more first second = tt
block_then left top At Later d e (Some f) one more first second = record {
  luma = λ x y h. second.luma x y (more x y h) ∙ first.luma x y (one x y h);
  cb = λ x y h. second.cb x y (more (2 * x) (2 * y) h) ∙
      first.cb x y (one (2 * x) (2 * y) h);
  cr = λ x y h. second.cr x y (more (2 * x) (2 * y) h) ∙
      first.cr x y (one (2 * x) (2 * y) h);
  references = second.references ∙ first.references;
}

blocks_then : (left top : ℕ) (At Later : ℕ → ℕ → Type 0) (f : Step) (d : Decoded)
    (r : Option Decoded) → ((x y : ℕ) → At x y → LiesBeside left top 64 x y) →
    ((x y : ℕ) → At x y → Later x y) → KeptBeside left top 64 d r →
    ((e : Decoded) → KeptAt Later e (f e)) → KeptAt At d (option_and_then f r)
blocks_then left top At Later f d None one more first second = tt
blocks_then left top At Later f d (Some e) one more first second =
    block_then left top At Later d e (f e) one more first (second e)

pub trees_beside : (width height qp count first : ℕ) (trees : List Tree) (d : Decoded) →
    KeptAt (BesideBlocks width height first count) d
    (decoded_trees qp (sites_from count width height first) trees d)
unfolding decoded_trees
trees_beside width height qp zero first trees d = kept_all (BesideBlocks width height first 0) d
trees_beside width height qp (suc count) first [] d =
    kept_all (BesideBlocks width height first (suc count)) d
trees_beside width height qp (suc count) first (tree ∷ trees) d =
    let left : ℕ = ctb_side * ctb_column (site width height first) in
    let top : ℕ = ctb_side * ctb_row (site width height first) in
    blocks_then left top (BesideBlocks width height first (suc count))
    (BesideBlocks width height (first + 1) count)
    (decoded_trees qp (sites_from count width height (first + 1)) trees) d
    (decoded_tree qp greatest_size left top tree d)
    (λ x y h. h first (omega arith) (omega arith))
    (λ x y h k least most. h k (omega (arith, least)) (omega (arith, most)))
    (tree_beside qp greatest_size left top tree d (omega arith) (omega arith))
    (trees_beside width height qp count (first + 1) trees)

pub kept_by : (At : ℕ → ℕ → Type 0) (d e : Decoded) (r : Option Decoded) → r ≡ Some e →
    KeptAt At d r → KeepAt At d e
kept_by At d e r same kept = subst (λ o. KeptAt At d o) same kept

-- ---- places that come later

later_place : (width height n x y : ℕ) → 0 < blocks_over width →
    64 * (n / blocks_over width) ≤ y →
    (64 * (n % blocks_over width) ≤ x) ⊎ (64 * (n / blocks_over width) + 64 ≤ y) →
    BesideBlocks width height 0 n x y
later_place width height n x y some low (inl right) k least most = record {
  beside = λ from across below down.
      let columns : ℕ = blocks_over width in
      let row : n / columns ≤ k / columns = omega (arith, low, down) in
      let rows : n / columns * columns ≤ k / columns * columns = mul-le-mul_right columns row in
      absurd (omega (
        arith,
        right,
        across,
        rows,
        most,
        div-add-mod n columns,
        div-add-mod k columns,
        mul_comm columns (n / columns),
        mul_comm columns (k / columns),
      ));
}
later_place width height n x y some low (inr deep) k least most = record {
  beside = λ from across below down.
      let columns : ℕ = blocks_over width in
      let row : n / columns + 1 ≤ k / columns = omega (arith, deep, down) in
      let rows : (n / columns + 1) * columns ≤ k / columns * columns =
      mul-le-mul_right columns row in
      absurd (omega (
        arith,
        rows,
        add-mul (n / columns) 1 columns,
        most,
        mod-lt n some,
        div-add-mod n columns,
        div-add-mod k columns,
        mul_comm columns (n / columns),
        mul_comm columns (k / columns),
      ));
}

-- ---- the window of a block

same_window : (side column row left top : ℕ) (d e : Component) → 0 < side →
    left ≡ side * column → top ≡ side * row → SameEdges side column row d e →
    ((x y : ℕ) → top ≤ y → (left ≤ x) ⊎ (top + side ≤ y) → d x y ≡ e x y) →
    SameIn left top side d e
same_window side column row left top d e some is_left is_top edges late x y inside =
    elim (cases_lt y top) [
      | inl high ↦
          let has_row : 0 < row = some_of side row y (omega (arith, high, is_top)) in
          let at_y : side * row - 1 ≡ y = omega (arith, is_top, high, inside.below) in
          elim (cases_lt x left) [
            | inl far ↦
                let has_column : 0 < column = some_of side column x (omega (arith, far, is_left)) in
                let at_x : side * column - 1 ≡ x = omega (arith, is_left, far, inside.right) in
                at x y (side * column - 1) (side * row - 1) at_x at_y
                (edges.above_left has_column has_row)
            | inr near ↦
                let at_x : side * column + (x - left) ≡ x = omega (arith, is_left, near) in
                at x y (side * column + (x - left)) (side * row - 1) at_x at_y
                (edges.above (x - left) has_row (omega (arith, near, inside.across)))
          ]
      | inr low ↦ elim (cases_lt x left) [
        | inr near ↦ late x y low (inl near)
        | inl far ↦ elim (cases_lt y (top + side)) [
          | inr deep ↦ late x y low (inr deep)
          | inl here ↦
              let has_column : 0 < column = some_of side column x (omega (arith, far, is_left)) in
              let at_x : side * column - 1 ≡ x = omega (arith, is_left, far, inside.right) in
              let at_y : side * row + (y - top) ≡ y = omega (arith, is_top, low) in
              at x y (side * column - 1) (side * row + (y - top)) at_x at_y
              (edges.left (y - top) has_column (omega (arith, low, here)))
        ]
      ]
    ] where
      at : (x y u v : ℕ) → u ≡ x → v ≡ y → d u v ≡ e u v → d x y ≡ e x y
      at x y u v eu ev same = sym (ap₂ d eu ev) ∙ same ∙ ap₂ e eu ev

      some_of : (n c z : ℕ) → z < n * c → 0 < c
      some_of n zero z h = absurd (omega (arith, h))
      some_of n (suc c) z h = omega arith

some_both : (left top n : ℕ) (f : Decoded) (q : Option Decoded) →
    BothSame left top n (Some f) q → (g : Decoded) × (q ≡ Some g) × SameAround left top n f g
some_both left top n f None both = absurd both
some_both left top n f (Some g) both = (g, refl, both)

block_of_window : (side column row left top : ℕ) (d e : Component) → left ≡ side * column →
    top ≡ side * row → SameIn left top side d e → SameBlock side column row d e
block_of_window side column row left top d e is_left is_top same = record {
  sample = λ x y across down. same (side * column + x) (side * row + y) (record {
    right = omega (arith, is_left);
    below = omega (arith, is_top);
    across = omega (arith, is_left, across);
    down = omega (arith, is_top, down);
  });
}

pub blocks_are_local : BlocksAreLocal
blocks_are_local width height qp index references trees others tree d e f some first second edges
    done =
    let start : Decoded = nothing_decoded references in
    let here : Site = site width height index in
    let column : ℕ = ctb_column here in
    let row : ℕ = ctb_row here in
    let left : ℕ = ctb_side * column in
    let top : ℕ = ctb_side * row in
    let At : ℕ → ℕ → Type 0 = BesideBlocks width height 0 index in
    let sites : List Site = sites_from index width height 0 in
    let one = kept_by At start d (decoded_trees qp sites trees start) first
    (trees_beside width height qp index 0 trees start) in
    let two = kept_by At start e (decoded_trees qp sites others start) second
    (trees_beside width height qp index 0 others start) in
    let chroma_later : (x y : ℕ) → top / 2 ≤ y → (left / 2 ≤ x) ⊎ (top / 2 + 32 ≤ y) →
    At (2 * x) (2 * y) =
    λ x y low part.
    later_place width height index (2 * x) (2 * y) some (omega (arith, low)) (doubled x y part) in
    let later : (x y : ℕ) → top ≤ y → (left ≤ x) ⊎ (top + 64 ≤ y) → At x y =
    λ x y low part. later_place width height index x y some low part in
    let same : SameAround left top 64 d e = record {
      luma = same_window 64 column row left top d.luma e.luma (omega arith) refl refl edges.luma
          (λ x y low part. one.luma x y (later x y low part) ∙
          sym (two.luma x y (later x y low part)));
      cb = same_window 32 column row (left / 2) (top / 2) d.cb e.cb (omega arith) (omega arith)
          (omega arith) edges.cb
          (λ x y low part. one.cb x y (chroma_later x y low part) ∙
          sym (two.cb x y (chroma_later x y low part)));
      cr = same_window 32 column row (left / 2) (top / 2) d.cr e.cr (omega arith) (omega arith)
          (omega arith) edges.cr
          (λ x y low part. one.cr x y (chroma_later x y low part) ∙
          sym (two.cr x y (chroma_later x y low part)));
      references = one.references ∙ sym two.references;
    } in
    let both = same_tree left top 64 (omega arith) (omega arith) refl qp greatest_size left top tree
    (omega arith) (omega arith) (record {
      right = omega arith;
      below = omega arith;
      across = omega arith;
      down = omega arith;
    }) d e same in
    let r = some_both left top 64 f (decoded_tree qp greatest_size left top tree e)
    (subst (λ o. BothSame left top 64 o (decoded_tree qp greatest_size left top tree e)) done both)
    in (
      r.0,
      r.1,
      record {
        luma = block_of_window 64 column row left top f.luma r.0.luma refl refl r.2.luma;
        cb = block_of_window 32 column row (left / 2) (top / 2) f.cb r.0.cb (omega arith)
            (omega arith) r.2.cb;
        cr = block_of_window 32 column row (left / 2) (top / 2) f.cr r.0.cr (omega arith)
            (omega arith) r.2.cr;
      },
    ) where
      doubled : (x y : ℕ) →
          (64 * ctb_column (site width height index) / 2 ≤ x) ⊎
          (64 * ctb_row (site width height index) / 2 + 32 ≤ y) →
          (64 * ctb_column (site width height index) ≤ 2 * x) ⊎
          (64 * ctb_row (site width height index) + 64 ≤ 2 * y)
      doubled x y (inl right) = inl (omega (arith, right))
      doubled x y (inr deep) = inr (omega (arith, deep))
