-- Every sample of a picture is decoded: each lies in one of the coding tree blocks, which come one
-- after the other.
use Rattle.std.proofs.Common.{◌≡◌, ℕ, zero, suc, ◌+◌, ◌*◌, ◌/◌, ◌%◌, ◌<◌, ◌≤◌, List, [], ◌∷◌, refl, ap, subst, ◌∙◌, arith, inl, inr}
use Rattle.std.specs.Prelude.{Some, option_and_then}
use Rattle.std.proofs.Math.Dec.{lit<}
use Rattle.std.proofs.Math.Nat.{mul-le-mul_right, add-mul, mul_comm}
use Rattle.std.proofs.lemmas.Nat.{mod-mul-add, div-mul-add}
use Rattle.std.proofs.lemmas.Bool.{cases_lt}
use Rattle.hv_types.specs.declared.picture.Picture.{Picture}
use Rattle.hv_tables.specs.declared.bins.SliceKind.{SliceKind}
use Rattle.hv_tree_model.specs.Trees.{Tree, greatest_size}
use Rattle.hv_tree_model.specs.Sites.{Site, site, sites, sites_from, blocks_over, ctb_side, ctb_column, ctb_row, column_of, row_of}
use Rattle.hv_recon_model.specs.Reconstruction.{Decoded, nothing_decoded, decoded_trees}
use Rattle.hv_recon_model.specs.ReconstructionLaws.{AreThere, AreTrees, EverySampleIsDecoded}
use Rattle.hv_recon_model.proofs.DecodedLemmas.{Keep, keep_all, keep_then, Cover, cover_later, LiesIn, LiesAt, tree_behind}

pub corner_column : column_of 0 ≡ 0
unfolding column_of
corner_column = refl

pub corner_row : row_of 0 ≡ 0
unfolding row_of
corner_row = refl

-- the whole of a block
whole_lies : (here : Site) →
    LiesAt here greatest_size 0 (ctb_side * ctb_column here) (ctb_side * ctb_row here)
whole_lies here = record {
  node = record { few = omega arith; inside = lit< tt; even = refl };
  column = omega (arith, corner_column);
  row = omega (arith, corner_row);
}

-- the block of this number is decoded
abbrev CoverBlock : ℕ → ℕ → ℕ → Decoded → Type 0
CoverBlock width height k d =
    Cover width height (64 * ctb_column (site width height k)) (64 * ctb_row (site width height k))
    64 d

-- blocks of these numbers
record CoverBlocks (width height first count : ℕ) (d : Decoded) : Type 0 where
  block : (k : ℕ) → first ≤ k → k < first + count → CoverBlock width height k d

module _ (slice_type : SliceKind) (width height qp count : ℕ) (references : List Picture)
    (there : AreThere slice_type count references) where
  trees_behind : (blocks first : ℕ) (trees : List Tree) →
      AreTrees slice_type count (sites_from blocks width height first) trees → (d : Decoded) →
      d.references ≡ references →
      (e : Decoded) ×
      (decoded_trees qp (sites_from blocks width height first) trees d ≡ Some e) ×
      Keep d e × CoverBlocks width height first blocks e
  unfolding decoded_trees
  trees_behind zero first [] valid d has =
      (d, refl, keep_all d, record { block = λ k least most. absurd (omega (arith, least, most)) })
  trees_behind zero first (tree ∷ trees) valid d has = absurd valid
  trees_behind (suc blocks) first [] valid d has = absurd valid
  trees_behind (suc blocks) first (tree ∷ trees) valid d has =
      let here : Site = site width height first in
      let one = tree_behind slice_type here qp count references there greatest_size 0 tree _ _
      (whole_lies here) valid.0 d has in
      let kept : Keep d one.0 = one.2 in
      let rest = trees_behind blocks (first + 1) trees valid.1 one.0 (kept.references ∙ has) in (
        rest.0,
        ap (option_and_then (decoded_trees qp (sites_from blocks width height (first + 1)) trees))
            one.1 ∙ rest.1,
        keep_then d one.0 rest.0 kept rest.2,
        record {
          block = λ k least most. elim (cases_lt first k) [
            | inl later ↦ rest.3.block k (omega (arith, later)) (omega (arith, most))
            | inr now ↦
                let same : first ≡ k = omega (arith, now, least) in
                subst (λ n. CoverBlock width height n rest.0) same
                (cover_later width height _ _ 64 one.0 rest.0 rest.2 one.3)
          ];
        },
      )

-- ---- a place of the picture lies in a block

module _ (width height : ℕ) where
  abbrev columns : ℕ
  columns = blocks_over width

  abbrev rows : ℕ
  rows = blocks_over height

  abbrev block_of : ℕ → ℕ → ℕ
  block_of x y = y / 64 * columns + x / 64

  pub block_below : (x y : ℕ) → x < width → y < height → block_of x y < columns * rows
  block_below x y across down =
      let row_of_blocks : y / 64 + 1 ≤ rows = omega (arith, down) in
      let before : (y / 64 + 1) * columns ≤ rows * columns =
      mul-le-mul_right columns row_of_blocks in
      omega (
        arith,
        across,
        before,
        add-mul (y / 64) 1 columns,
        mul_comm columns rows,
      )

  lies_in_block : (x y : ℕ) → x < width → y < height →
      LiesIn width height (64 * ctb_column (site width height (block_of x y)))
      (64 * ctb_row (site width height (block_of x y))) 64 x y
  lies_in_block x y across down =
      let inside : x / 64 < columns = omega (arith, across) in
      let at_column : block_of x y % columns ≡ x / 64 =
      mod-mul-add (y / 64) columns (x / 64) inside in
      let at_row : block_of x y / columns ≡ y / 64 =
      div-mul-add (y / 64) columns (x / 64) inside in
      record {
        right = omega (arith, at_column);
        below = omega (arith, at_row);
        across = omega (arith, at_column);
        down = omega (arith, at_row);
        wide = across;
        high = down;
      }

pub every_sample : EverySampleIsDecoded
unfolding sites
every_sample slice_type width height qp count references trees there valid =
    let all = trees_behind slice_type width height qp count references there
    (blocks_over width * blocks_over height) 0 trees valid (nothing_decoded references) refl in
    let block : (x y : ℕ) → x < width → y < height →
    CoverBlock width height (block_of width height x y) all.0 =
    λ x y across down. all.3.block (block_of width height x y) (omega arith)
    (omega (arith, block_below width height x y across down)) in (
      all.0,
      all.1,
      record {
        luma = λ x y across down.
            (block x y across down).luma x y (lies_in_block width height x y across down);
        cb = λ x y across down.
            let wide : 2 * x < width = omega (arith, across) in
            let high : 2 * y < height = omega (arith, down) in
            (block (2 * x) (2 * y) wide high).cb x y
            (lies_in_block width height (2 * x) (2 * y) wide high);
        cr = λ x y across down.
            let wide : 2 * x < width = omega (arith, across) in
            let high : 2 * y < height = omega (arith, down) in
            (block (2 * x) (2 * y) wide high).cr x y
            (lies_in_block width height (2 * x) (2 * y) wide high);
      },
    )
