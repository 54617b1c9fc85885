-- What is decoded in a square of the picture changes no sample beside it: transform units, coding
-- units, and nodes of a quadtree, whatever they hold.
use Rattle.std.proofs.Common.{◌≡◌, ℕ, zero, suc, ◌+◌, ◌-◌, ◌*◌, ◌/◌, ◌%◌, ◌^◌, ◌<◌, ◌≤◌, Bool, true, false, cond, List, [], ◌∷◌, refl, sym, ap, ◌∙◌, arith}
use Rattle.std.specs.Prelude.{Option, Some, None, option_and_then, option_map, slice_index_or}
use Rattle.std.proofs.Math.Nat.{pow-suc}
use Rattle.std.proofs.lemmas.Bool.Decides.{nat_tests}
use Rattle.hv_tables.specs.Quantisers.{chroma_qp}
use Rattle.hv_sample_model.specs.InverseTransform.{residual}
use Rattle.hv_tree_model.specs.Trees.{Prediction, TransformUnit, Tree, Leaf, Split, Outside, side}
use Rattle.hv_recon_model.specs.Reconstruction.{Component, Decoded, Square, square_at, quarter, luma_planes, cb_planes, cr_planes, predicted_block, sum_of, is_in, with_block, all_decoded, decoded_block, decoded_unit, decoded_quarters, decoded_units, decoded_tree}
use Rattle.hv_recon_model.proofs.DecodedLemmas.{Step, side_double}

-- a place of luma lies beside the square of this corner and side
pub record LiesBeside (left top n x y : ℕ) : Type 0 where
  pub beside : left ≤ x → x < left + n → top ≤ y → y < top + n → ⊥

-- all samples beside it are the same, that of chroma by the luma sample at the same place, and so
-- are the reference pictures
pub record KeepBeside (left top n : ℕ) (d e : Decoded) : Type 0 where
  pub luma : (x y : ℕ) → LiesBeside left top n x y → e.luma x y ≡ d.luma x y
  pub cb : (x y : ℕ) → LiesBeside left top n (2 * x) (2 * y) → e.cb x y ≡ d.cb x y
  pub cr : (x y : ℕ) → LiesBeside left top n (2 * x) (2 * y) → e.cr x y ≡ d.cr x y
  pub references : e.references ≡ d.references

-- where something is decoded
abbrev pub KeptBeside : ℕ → ℕ → ℕ → Decoded → Option Decoded → Type 0
KeptBeside left top n d None = Unit {0}
KeptBeside left top n d (Some e) = KeepBeside left top n d e

same_beside : (left top n : ℕ) (d : Decoded) → KeepBeside left top n d d
same_beside left top n d = record {
  luma = λ x y h. refl;
  cb = λ x y h. refl;
  cr = λ x y h. refl;
  references = refl;
}

-- a square in a square
pub record LiesWithin (left top n x y m : ℕ) : Type 0 where
  pub right : left ≤ x
  pub below : top ≤ y
  pub across : x + m ≤ left + n
  pub down : y + m ≤ top + n

wider : (left top n x y m : ℕ) (d e : Decoded) → LiesWithin left top n x y m →
    KeepBeside x y m d e → KeepBeside left top n d e
wider left top n x y m d e within kept = record {
  luma = λ u v h. kept.luma u v (smaller u v h);
  cb = λ u v h. kept.cb u v (smaller (2 * u) (2 * v) h);
  cr = λ u v h. kept.cr u v (smaller (2 * u) (2 * v) h);
  references = kept.references;
} where
  smaller : (u v : ℕ) → LiesBeside left top n u v → LiesBeside x y m u v
  smaller u v h = record {
    beside = λ right across below down.
        h.beside (omega (arith, right, within.right)) (omega (arith, across, within.across))
        (omega (arith, below, within.below)) (omega (arith, down, within.down));
  }

wider_if : (left top n x y m : ℕ) (d : Decoded) (r : Option Decoded) →
    LiesWithin left top n x y m → KeptBeside x y m d r → KeptBeside left top n d r
wider_if left top n x y m d None within kept = tt
wider_if left top n x y m d (Some e) within kept = wider left top n x y m d e within kept

behind_both : (left top n : ℕ) (d e : Decoded) (r : Option Decoded) → KeepBeside left top n d e →
    KeptBeside left top n e r → KeptBeside left top n d r
behind_both left top n d e None first second = tt
behind_both left top n d e (Some f) first second = record {
  luma = λ x y h. second.luma x y h ∙ first.luma x y h;
  cb = λ x y h. second.cb x y h ∙ first.cb x y h;
  cr = λ x y h. second.cr x y h ∙ first.cr x y h;
  references = second.references ∙ first.references;
}

then_beside : (left top n : ℕ) (f : Step) (d : Decoded) (r : Option Decoded) →
    KeptBeside left top n d r → ((e : Decoded) → KeptBeside left top n e (f e)) →
    KeptBeside left top n d (option_and_then f r)
then_beside left top n f d None first second = tt
then_beside left top n f d (Some e) first second =
    behind_both left top n d e (f e) first (second e)

-- ---- a transform unit

where_not : (test : Bool) (sample : ℕ) (old : Option ℕ) → (test ≡ true → ⊥) →
    cond test (Some sample) old ≡ old
where_not true sample old h = absurd (h refl)
where_not false sample old h = refl

block_beside : (samples : Component) (s : Square) (block : List ℕ) (x y : ℕ) →
    (s.x ≤ x → x < s.x + 2 ^ s.log2 → s.y ≤ y → y < s.y + 2 ^ s.log2 → ⊥) →
    with_block samples s block x y ≡ samples x y
block_beside samples s block x y beside =
    where_not (is_in s x y)
    (slice_index_or block ((y - s.y) * 2 ^ s.log2 + (x - s.x)) 0)
    (samples x y)
    (λ t. beside (grind (arith, nat_tests)) (grind (arith, nat_tests)) (grind (arith, nat_tests))
    (grind (arith, nat_tests)))

-- a component behind a block of these samples
abbrev pub Put : Type 0
Put = List ℕ → Component

-- where all three blocks are predicted
blocks_beside : (left top n : ℕ) (d : Decoded) (luma cb cr : Option (List ℕ))
    (put_luma put_cb put_cr : Put) →
    ((block : List ℕ) (x y : ℕ) → LiesBeside left top n x y → put_luma block x y ≡ d.luma x y) →
    ((block : List ℕ) (x y : ℕ) → LiesBeside left top n (2 * x) (2 * y) →
    put_cb block x y ≡ d.cb x y) →
    ((block : List ℕ) (x y : ℕ) → LiesBeside left top n (2 * x) (2 * y) →
    put_cr block x y ≡ d.cr x y) →
    KeptBeside left top n d
    (all_decoded d.references (option_map put_luma luma) (option_map put_cb cb)
    (option_map put_cr cr))
blocks_beside left top n d None cb cr put_luma put_cb put_cr in_luma in_cb in_cr = tt
blocks_beside left top n d (Some luma) None cr put_luma put_cb put_cr in_luma in_cb in_cr = tt
blocks_beside left top n d (Some luma) (Some cb) None put_luma put_cb put_cr in_luma in_cb in_cr =
    tt
blocks_beside left top n d (Some luma) (Some cb) (Some cr) put_luma put_cb put_cr in_luma in_cb
    in_cr =
    record { luma = in_luma luma; cb = in_cb cb; cr = in_cr cr; references = refl }

unit_beside : (qp : ℕ) (prediction : Prediction) (left top log2 n : ℕ) (t : TransformUnit)
    (d : Decoded) → n ≡ 2 ^ log2 → n ≡ 2 * 2 ^ (log2 - 1) → left % 2 ≡ 0 → top % 2 ≡ 0 →
    KeptBeside left top n d (decoded_unit qp prediction (square_at left top log2) t d)
unfolding decoded_block
unit_beside qp prediction left top log2 n t d luma_side chroma_side even_left even_top =
    let s : Square = square_at left top log2 in
    let c : Square = square_at (left / 2) (top / 2) (log2 - 1) in
    blocks_beside left top n d
    (predicted_block prediction true (luma_planes d.references) d.luma s)
    (predicted_block prediction false (cb_planes d.references) d.cb c)
    (predicted_block prediction false (cr_planes d.references) d.cr c)
    (λ block. with_block d.luma s (sum_of block (residual s.log2 qp t.luma)))
    (λ block. with_block d.cb c (sum_of block (residual c.log2 (chroma_qp qp) t.cb)))
    (λ block. with_block d.cr c (sum_of block (residual c.log2 (chroma_qp qp) t.cr)))
    (λ block x y h. block_beside d.luma s _ x y (λ right across below down.
    h.beside right (omega (arith, across, luma_side)) below (omega (arith, down, luma_side))))
    (λ block x y h. block_beside d.cb c _ x y (beside_chroma x y h))
    (λ block x y h. block_beside d.cr c _ x y (beside_chroma x y h)) where
      beside_chroma : (x y : ℕ) → LiesBeside left top n (2 * x) (2 * y) → left / 2 ≤ x →
          x < left / 2 + 2 ^ (log2 - 1) → top / 2 ≤ y → y < top / 2 + 2 ^ (log2 - 1) → ⊥
      beside_chroma x y h right across below down =
          h.beside (omega (arith, right, even_left)) (omega (arith, across, chroma_side, even_left))
          (omega (arith, below, even_top)) (omega (arith, down, chroma_side, even_top))

-- ---- a coding unit

-- the sides of blocks of 8x8 or more, and of the four transform units
pub sides : (k : ℕ) → (2 ^ (k + 3) ≡ 8 * 2 ^ k) × (2 ^ (k + 3 - 1) ≡ 4 * 2 ^ k) ×
    (2 ^ (k + 3 - 1 - 1) ≡ 2 * 2 ^ k)
sides k =
    let one : k + 3 - 1 - 1 ≡ suc k = omega arith in
    let two : k + 3 - 1 ≡ suc (suc k) = omega arith in
    let three : k + 3 ≡ suc (suc (suc k)) = omega arith in
    let a : 2 ^ suc k ≡ 2 * 2 ^ k = omega (arith, pow-suc 2 k) in
    let b : 2 ^ suc (suc k) ≡ 2 * 2 ^ suc k = omega (arith, pow-suc 2 (suc k)) in
    let c : 2 ^ suc (suc (suc k)) ≡ 2 * 2 ^ suc (suc k) =
    omega (arith, pow-suc 2 (suc (suc k))) in (
      ap (λ e. 2 ^ e) three ∙ omega (arith, a, b, c),
      ap (λ e. 2 ^ e) two ∙ omega (arith, a, b),
      ap (λ e. 2 ^ e) one ∙ a,
    )

module _ (qp : ℕ) (prediction : Prediction) (left top k : ℕ) (even_left : left % 2 ≡ 0)
    (even_top : top % 2 ≡ 0) where
  abbrev whole : Square
  whole = square_at left top (k + 3)

  abbrev n : ℕ
  n = 8 * 2 ^ k

  quarter_beside : (x y : ℕ) (t : TransformUnit) (d : Decoded) → x % 2 ≡ 0 → y % 2 ≡ 0 →
      LiesWithin left top n x y (4 * 2 ^ k) →
      KeptBeside left top n d (decoded_unit qp prediction (square_at x y (k + 3 - 1)) t d)
  quarter_beside x y t d even_x even_y within =
      let s = sides k in
      wider_if left top n x y (4 * 2 ^ k) d
      (decoded_unit qp prediction (square_at x y (k + 3 - 1)) t d) within
      (unit_beside qp prediction x y (k + 3 - 1) (4 * 2 ^ k) t d (sym s.1)
      (omega (arith, s.2)) even_x even_y)

  numbered_beside : (i : ℕ) (t : TransformUnit) (d : Decoded) →
      KeptBeside left top n d (decoded_unit qp prediction (quarter whole i) t d)
  numbered_beside zero t d =
      quarter_beside left top t d even_left even_top (record {
        right = omega arith;
        below = omega arith;
        across = omega arith;
        down = omega arith;
      })
  numbered_beside (suc zero) t d =
      let half = (sides k).1 in
      quarter_beside (left + 2 ^ (k + 3 - 1)) top t d (omega (arith, half, even_left)) even_top
      (record {
        right = omega arith;
        below = omega arith;
        across = omega (arith, half);
        down = omega arith;
      })
  numbered_beside (suc (suc zero)) t d =
      let half = (sides k).1 in
      quarter_beside left (top + 2 ^ (k + 3 - 1)) t d even_left (omega (arith, half, even_top))
      (record {
        right = omega arith;
        below = omega arith;
        across = omega arith;
        down = omega (arith, half);
      })
  numbered_beside (suc (suc (suc i))) t d =
      let half = (sides k).1 in
      quarter_beside (left + 2 ^ (k + 3 - 1)) (top + 2 ^ (k + 3 - 1)) t d
      (omega (arith, half, even_left)) (omega (arith, half, even_top))
      (record {
        right = omega arith;
        below = omega arith;
        across = omega (arith, half);
        down = omega (arith, half);
      })

  quarters_beside : (i : ℕ) (units : List TransformUnit) (d : Decoded) →
      KeptBeside left top n d (decoded_quarters qp prediction whole i units d)
  quarters_beside i [] d = same_beside left top n d
  quarters_beside i (t ∷ units) d =
      then_beside left top n (decoded_quarters qp prediction whole (suc i) units) d
      (decoded_unit qp prediction (quarter whole i) t d) (numbered_beside i t d)
      (quarters_beside (suc i) units)

  units_beside : (units : List TransformUnit) (d : Decoded) →
      KeptBeside left top n d (decoded_units qp prediction whole units d)
  units_beside [] d = same_beside left top n d
  units_beside (t ∷ []) d =
      let s = sides k in
      unit_beside qp prediction left top (k + 3) n t d (sym s.0) (omega (arith, s.1)) even_left
      even_top
  units_beside (t ∷ u ∷ units) d = quarters_beside 0 (t ∷ u ∷ units) d

-- ---- nodes

pub tree_beside : (qp size left top : ℕ) (tree : Tree) (d : Decoded) → left % 2 ≡ 0 →
    top % 2 ≡ 0 → KeptBeside left top (side size) d (decoded_tree qp size left top tree d)
unfolding decoded_tree
tree_beside qp zero left top Outside d even_left even_top = same_beside left top (side zero) d
tree_beside qp (suc size) left top Outside d even_left even_top =
    same_beside left top (side (suc size)) d
tree_beside qp zero left top (Leaf prediction units) d even_left even_top =
    units_beside qp prediction left top zero even_left even_top units d
tree_beside qp (suc size) left top (Leaf prediction units) d even_left even_top =
    units_beside qp prediction left top (suc size) even_left even_top units d
tree_beside qp zero left top (Split a b c e) d even_left even_top =
    same_beside left top (side zero) d
tree_beside qp (suc size) left top (Split a b c e) d even_left even_top =
    let half : ℕ = side size in
    let all : ℕ = side (suc size) in
    let double = side_double size in
    let f1 : Step = decoded_tree qp size left top a in
    let f2 : Step = decoded_tree qp size (left + half) top b in
    let f3 : Step = decoded_tree qp size left (top + half) c in
    let f4 : Step = decoded_tree qp size (left + half) (top + half) e in
    let part : (x y : ℕ) (t : Tree) → x % 2 ≡ 0 → y % 2 ≡ 0 →
    LiesWithin left top all x y half → (g : Decoded) →
    KeptBeside left top all g (decoded_tree qp size x y t g) =
    λ x y t even_x even_y within g.
    wider_if left top all x y half g (decoded_tree qp size x y t g) within
    (tree_beside qp size x y t g even_x even_y) in
    let first = part left top a even_left even_top (record {
      right = omega arith;
      below = omega arith;
      across = omega (arith, double);
      down = omega (arith, double);
    }) in
    let second = part (left + half) top b (omega (arith, even_left)) even_top (record {
      right = omega arith;
      below = omega arith;
      across = omega (arith, double);
      down = omega (arith, double);
    }) in
    let third = part left (top + half) c even_left (omega (arith, even_top)) (record {
      right = omega arith;
      below = omega arith;
      across = omega (arith, double);
      down = omega (arith, double);
    }) in
    let fourth = part (left + half) (top + half) e (omega (arith, even_left))
    (omega (arith, even_top)) (record {
      right = omega arith;
      below = omega arith;
      across = omega (arith, double);
      down = omega (arith, double);
    }) in
    let two = then_beside left top all f2 d (f1 d) (first d) second in
    let three = then_beside left top all f3 d (option_and_then f2 (f1 d)) two third in
    then_beside left top all f4 d (option_and_then f3 (option_and_then f2 (f1 d))) three fourth
