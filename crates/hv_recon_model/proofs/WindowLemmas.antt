-- What is decoded in a square of the picture reads nothing but a window around it: where two
-- pictures are the same in the window, they are the same in it behind the square.
use Rattle.std.proofs.Common.{◌≡◌, ℕ, zero, suc, ◌+◌, ◌-◌, ◌*◌, ◌/◌, ◌%◌, ◌^◌, ◌<◌, ◌≤◌, Bool, true, false, cond, List, [], ◌∷◌, ◌++◌, refl, sym, ap, ap₂, subst, ◌∙◌, arith, inl, inr}
use Rattle.std.specs.Prelude.{nat_eq, ◌||◌, slice_index_or, Option, Some, None, option_and_then, option_map, ℤ}
use Rattle.std.proofs.lemmas.Bool.{cases_lt}
use Rattle.std.proofs.lemmas.Bool.Decides.{nat_tests}
use Rattle.hv_lemmas.proofs.ListLemmas.{tabulate-same}
use Rattle.hv_types.specs.Samples.{Plane}
use Rattle.hv_sample_model.specs.IntraPrediction.{substituted, predicted}
use Rattle.hv_sample_model.specs.InverseTransform.{residual}
use Rattle.hv_tables.specs.Quantisers.{chroma_qp}
use Rattle.hv_tree_model.specs.Trees.{Prediction, Intra, Inter, TransformUnit, Tree, Leaf, Split, Outside, side}
use Rattle.hv_recon_model.specs.Reconstruction.{Component, Decoded, Square, square_at, quarter, is_in, with_block, luma_planes, cb_planes, cr_planes, left_of, above_of, neighbours, predicted_block, sum_of, all_decoded, decoded_block, decoded_unit, decoded_quarters, decoded_units, decoded_tree}
use Rattle.hv_recon_model.proofs.DecodedLemmas.{Step, side_double}
use Rattle.hv_recon_model.proofs.BesideLemmas.{LiesWithin, Put, sides}

-- the column and the row before a square, and up to a side behind it
pub record IsWindowed (left top n x y : ℕ) : Type 0 where
  pub right : left ≤ x + 1
  pub below : top ≤ y + 1
  pub across : x < left + 2 * n
  pub down : y < top + 2 * n

abbrev pub SameIn : ℕ → ℕ → ℕ → Component → Component → Type 0
SameIn left top n d e = (x y : ℕ) → IsWindowed left top n x y → d x y ≡ e x y

-- a square that lies in it
pub record LiesInWindow (left top n : ℕ) (s : Square) : Type 0 where
  pub right : left ≤ s.x
  pub below : top ≤ s.y
  pub across : s.x + 2 ^ s.log2 ≤ left + n
  pub down : s.y + 2 ^ s.log2 ≤ top + n

module _ (left top n : ℕ) (d e : Component) (same : SameIn left top n d e) (s : Square)
    (lies : LiesInWindow left top n s) where
  same_left_of : (i : ℕ) → i ≤ 2 * 2 ^ s.log2 → left_of d s i ≡ left_of e s i
  same_left_of zero few = elim (cases_lt 0 s.x) [
    | inl right ↦ elim (cases_lt 0 s.y) [
      | inl below ↦
          ap (λ o. cond (nat_eq s.x 0 || nat_eq s.y 0) None o)
          (same (s.x - 1) (s.y - 1) (record {
            right = omega (arith, lies.right, right);
            below = omega (arith, lies.below, below);
            across = omega (arith, lies.across, right);
            down = omega (arith, lies.down, below);
          }))
      | inr none ↦
          let first : s.y ≡ 0 = omega (arith, none) in
          grind (arith, nat_tests)
    ]
    | inr none ↦
        let first : s.x ≡ 0 = omega (arith, none) in
        grind (arith, nat_tests)
  ]
  same_left_of (suc i) few = elim (cases_lt 0 s.x) [
    | inl right ↦
        ap (λ o. cond (nat_eq s.x 0) None o)
        (same (s.x - 1) (s.y + i) (record {
          right = omega (arith, lies.right, right);
          below = omega (arith, lies.below);
          across = omega (arith, lies.across, right);
          down = omega (arith, lies.down, lies.below, few);
        }))
    | inr none ↦
        let first : s.x ≡ 0 = omega (arith, none) in
        grind (arith, nat_tests)
  ]

  same_above_of : (i : ℕ) → i < 2 * 2 ^ s.log2 → above_of d s i ≡ above_of e s i
  same_above_of i few = elim (cases_lt 0 s.y) [
    | inl below ↦
        ap (λ o. cond (nat_eq s.y 0) None o)
        (same (s.x + i) (s.y - 1) (record {
          right = omega (arith, lies.right);
          below = omega (arith, lies.below, below);
          across = omega (arith, lies.across, lies.right, few);
          down = omega (arith, lies.down, below);
        }))
    | inr none ↦
        let first : s.y ≡ 0 = omega (arith, none) in
        grind (arith, nat_tests)
  ]

  same_neighbours : neighbours d s ≡ neighbours e s
  same_neighbours =
      let n : ℕ = 2 * 2 ^ s.log2 in
      ap₂ (λ a b. a ++ b)
      (tabulate-same (n + 1) (λ i. left_of d s (n - i)) (λ i. left_of e s (n - i))
      (λ i below. same_left_of (n - i) (omega arith)))
      (tabulate-same n (above_of d s) (above_of e s) (λ i below. same_above_of i below))

-- what a block is predicted as, from the same planes
same_predicted : (left top n : ℕ) (prediction : Prediction) (luma : Bool) (planes : List Plane)
    (s : Square) (d e : Component) → SameIn left top n d e → LiesInWindow left top n s →
    predicted_block prediction luma planes d s ≡ predicted_block prediction luma planes e s
same_predicted left top n (Intra mode) luma planes s d e same lies =
    ap (λ line. Some (predicted s.log2 mode luma (substituted line)))
    (same_neighbours left top n d e same s lies)
same_predicted left top n (Inter motion) luma planes s d e same lies = refl

-- behind a block of these samples
same_put : (left top n : ℕ) (s : Square) (samples : List ℕ) (d e : Component) →
    SameIn left top n d e → SameIn left top n (with_block d s samples) (with_block e s samples)
same_put left top n s samples d e same x y inside =
    ap (λ old. cond (is_in s x y)
    (Some (slice_index_or samples ((y - s.y) * 2 ^ s.log2 + (x - s.x)) 0)) old) (same x y inside)

-- ---- the three components

pub record SameAround (left top n : ℕ) (d e : Decoded) : Type 0 where
  pub luma : SameIn left top n d.luma e.luma
  pub cb : SameIn (left / 2) (top / 2) (n / 2) d.cb e.cb
  pub cr : SameIn (left / 2) (top / 2) (n / 2) d.cr e.cr
  pub references : d.references ≡ e.references

abbrev pub BothSame : ℕ → ℕ → ℕ → Option Decoded → Option Decoded → Type 0
BothSame left top n None None = Unit {0}
BothSame left top n None (Some f) = ⊥
BothSame left top n (Some d) None = ⊥
BothSame left top n (Some d) (Some e) = SameAround left top n d e

both_then : (left top n : ℕ) (f : Step) (r q : Option Decoded) → BothSame left top n r q →
    ((d e : Decoded) → SameAround left top n d e → BothSame left top n (f d) (f e)) →
    BothSame left top n (option_and_then f r) (option_and_then f q)
both_then left top n f None None first second = tt
both_then left top n f None (Some e) first second = absurd first
both_then left top n f (Some d) None first second = absurd first
both_then left top n f (Some d) (Some e) first second = second d e first

-- ---- a transform unit

-- where all three blocks are predicted alike, both are decoded, or none is
same_blocks : (left top n : ℕ) (d e : Decoded) (luma cb cr : Option (List ℕ))
    (luma_d cb_d cr_d luma_e cb_e cr_e : Put) →
    ((block : List ℕ) → SameIn left top n (luma_d block) (luma_e block)) →
    ((block : List ℕ) → SameIn (left / 2) (top / 2) (n / 2) (cb_d block) (cb_e block)) →
    ((block : List ℕ) → SameIn (left / 2) (top / 2) (n / 2) (cr_d block) (cr_e block)) →
    d.references ≡ e.references →
    BothSame left top n
    (all_decoded d.references (option_map luma_d luma) (option_map cb_d cb) (option_map cr_d cr))
    (all_decoded e.references (option_map luma_e luma) (option_map cb_e cb) (option_map cr_e cr))
same_blocks left top n d e None cb cr luma_d cb_d cr_d luma_e cb_e cr_e in_luma in_cb in_cr same =
    tt
same_blocks left top n d e (Some luma) None cr luma_d cb_d cr_d luma_e cb_e cr_e in_luma in_cb in_cr
    same =
    tt
same_blocks left top n d e (Some luma) (Some cb) None luma_d cb_d cr_d luma_e cb_e cr_e in_luma
    in_cb in_cr same =
    tt
same_blocks left top n d e (Some luma) (Some cb) (Some cr) luma_d cb_d cr_d luma_e cb_e cr_e in_luma
    in_cb in_cr same =
    record { luma = in_luma luma; cb = in_cb cb; cr = in_cr cr; references = same }

module _ (left top n : ℕ) (even_left : left % 2 ≡ 0) (even_top : top % 2 ≡ 0)
    (even_n : n % 2 ≡ 0) (qp : ℕ) where
  same_unit : (prediction : Prediction) (x y log2 m : ℕ) (t : TransformUnit) (d e : Decoded) →
      m ≡ 2 ^ log2 → m ≡ 2 * 2 ^ (log2 - 1) → x % 2 ≡ 0 → y % 2 ≡ 0 →
      LiesWithin left top n x y m → SameAround left top n d e →
      BothSame left top n (decoded_unit qp prediction (square_at x y log2) t d)
      (decoded_unit qp prediction (square_at x y log2) t e)
  unfolding decoded_block
  same_unit prediction x y log2 m t d e luma_side chroma_side even_x even_y within same =
      let s : Square = square_at x y log2 in
      let c : Square = square_at (x / 2) (y / 2) (log2 - 1) in
      let luma : LiesInWindow left top n s = record {
        right = within.right;
        below = within.below;
        across = omega (arith, within.across, luma_side);
        down = omega (arith, within.down, luma_side);
      } in
      let chroma : LiesInWindow (left / 2) (top / 2) (n / 2) c = record {
        right = omega (arith, within.right);
        below = omega (arith, within.below);
        across = omega (arith, within.across, chroma_side, even_x, even_left, even_n);
        down = omega (arith, within.down, chroma_side, even_y, even_top, even_n);
      } in
      let block_of : Bool → List Plane → Component → Square → Option (List ℕ) =
      predicted_block prediction in
      let in_luma : block_of true (luma_planes d.references) d.luma s ≡
      block_of true (luma_planes e.references) e.luma s =
      ap (λ r. block_of true (luma_planes r) d.luma s) same.references ∙
      same_predicted left top n prediction true (luma_planes e.references) s d.luma e.luma same.luma
      luma in
      let in_cb : block_of false (cb_planes d.references) d.cb c ≡
      block_of false (cb_planes e.references) e.cb c =
      ap (λ r. block_of false (cb_planes r) d.cb c) same.references ∙
      same_predicted (left / 2) (top / 2) (n / 2) prediction false (cb_planes e.references) c d.cb
      e.cb same.cb chroma in
      let in_cr : block_of false (cr_planes d.references) d.cr c ≡
      block_of false (cr_planes e.references) e.cr c =
      ap (λ r. block_of false (cr_planes r) d.cr c) same.references ∙
      same_predicted (left / 2) (top / 2) (n / 2) prediction false (cr_planes e.references) c d.cr
      e.cr same.cr chroma in
      let put : Component → Square → ℕ → List ℤ → Put =
      λ samples place quantiser levels block.
      with_block samples place (sum_of block (residual place.log2 quantiser levels)) in
      subst (λ o. BothSame left top n
      (all_decoded d.references (option_map (put d.luma s qp t.luma) o)
      (option_map (put d.cb c (chroma_qp qp) t.cb)
      (block_of false (cb_planes d.references) d.cb c))
      (option_map (put d.cr c (chroma_qp qp) t.cr)
      (block_of false (cr_planes d.references) d.cr c)))
      (decoded_unit qp prediction s t e)) (sym in_luma)
      (subst (λ o. BothSame left top n
      (all_decoded d.references
      (option_map (put d.luma s qp t.luma) (block_of true (luma_planes e.references) e.luma s))
      (option_map (put d.cb c (chroma_qp qp) t.cb) o)
      (option_map (put d.cr c (chroma_qp qp) t.cr)
      (block_of false (cr_planes d.references) d.cr c)))
      (decoded_unit qp prediction s t e)) (sym in_cb)
      (subst (λ o. BothSame left top n
      (all_decoded d.references
      (option_map (put d.luma s qp t.luma) (block_of true (luma_planes e.references) e.luma s))
      (option_map (put d.cb c (chroma_qp qp) t.cb)
      (block_of false (cb_planes e.references) e.cb c))
      (option_map (put d.cr c (chroma_qp qp) t.cr) o))
      (decoded_unit qp prediction s t e)) (sym in_cr)
      (same_blocks left top n d e _ _ _ _ _ _ _ _ _
      (λ block. same_put left top n s _ d.luma e.luma same.luma)
      (λ block. same_put (left / 2) (top / 2) (n / 2) c _ d.cb e.cb same.cb)
      (λ block. same_put (left / 2) (top / 2) (n / 2) c _ d.cr e.cr same.cr) same.references)))

  -- ---- a coding unit

  module _ (prediction : Prediction) (x y k : ℕ) (even_x : x % 2 ≡ 0) (even_y : y % 2 ≡ 0)
      (within : LiesWithin left top n x y (8 * 2 ^ k)) where
    abbrev whole : Square
    whole = square_at x y (k + 3)

    abbrev Same : Step → Type 0
    Same f = (d e : Decoded) → SameAround left top n d e → BothSame left top n (f d) (f e)

    same_corner : (u v : ℕ) (t : TransformUnit) → u % 2 ≡ 0 → v % 2 ≡ 0 →
        LiesWithin left top n u v (4 * 2 ^ k) →
        Same (decoded_unit qp prediction (square_at u v (k + 3 - 1)) t)
    same_corner u v t even_u even_v inside d e same =
        let s = sides k in
        same_unit prediction u v (k + 3 - 1) (4 * 2 ^ k) t d e (sym s.1) (omega (arith, s.2)) even_u
        even_v inside same

    same_quarter : (i : ℕ) (t : TransformUnit) →
        Same (decoded_unit qp prediction (quarter whole i) t)
    same_quarter zero t =
        same_corner x y t even_x even_y (record {
          right = within.right;
          below = within.below;
          across = omega (arith, within.across);
          down = omega (arith, within.down);
        })
    same_quarter (suc zero) t =
        let half = (sides k).1 in
        same_corner (x + 2 ^ (k + 3 - 1)) y t (omega (arith, half, even_x)) even_y (record {
          right = omega (arith, within.right);
          below = within.below;
          across = omega (arith, within.across, half);
          down = omega (arith, within.down);
        })
    same_quarter (suc (suc zero)) t =
        let half = (sides k).1 in
        same_corner x (y + 2 ^ (k + 3 - 1)) t even_x (omega (arith, half, even_y)) (record {
          right = within.right;
          below = omega (arith, within.below);
          across = omega (arith, within.across);
          down = omega (arith, within.down, half);
        })
    same_quarter (suc (suc (suc i))) t =
        let half = (sides k).1 in
        same_corner (x + 2 ^ (k + 3 - 1)) (y + 2 ^ (k + 3 - 1)) t (omega (arith, half, even_x))
        (omega (arith, half, even_y)) (record {
          right = omega (arith, within.right);
          below = omega (arith, within.below);
          across = omega (arith, within.across, half);
          down = omega (arith, within.down, half);
        })

    same_quarters : (i : ℕ) (units : List TransformUnit) →
        Same (decoded_quarters qp prediction whole i units)
    same_quarters i [] d e same = same
    same_quarters i (t ∷ units) d e same =
        both_then left top n (decoded_quarters qp prediction whole (suc i) units)
        (decoded_unit qp prediction (quarter whole i) t d)
        (decoded_unit qp prediction (quarter whole i) t e) (same_quarter i t d e same)
        (same_quarters (suc i) units)

    same_units : (units : List TransformUnit) → Same (decoded_units qp prediction whole units)
    same_units [] d e same = same
    same_units (t ∷ []) d e same =
        let s = sides k in
        same_unit prediction x y (k + 3) (8 * 2 ^ k) t d e (sym s.0) (omega (arith, s.1)) even_x
        even_y within same
    same_units (t ∷ u ∷ units) d e same = same_quarters 0 (t ∷ u ∷ units) d e same

  -- ---- nodes

  pub same_tree : (size x y : ℕ) (tree : Tree) → x % 2 ≡ 0 → y % 2 ≡ 0 →
      LiesWithin left top n x y (side size) → (d e : Decoded) → SameAround left top n d e →
      BothSame left top n (decoded_tree qp size x y tree d) (decoded_tree qp size x y tree e)
  unfolding decoded_tree
  same_tree zero x y Outside even_x even_y within d e same = same
  same_tree (suc size) x y Outside even_x even_y within d e same = same
  same_tree zero x y (Leaf prediction units) even_x even_y within d e same =
      same_units prediction x y zero even_x even_y within units d e same
  same_tree (suc size) x y (Leaf prediction units) even_x even_y within d e same =
      same_units prediction x y (suc size) even_x even_y within units d e same
  same_tree zero x y (Split a b c t) even_x even_y within d e same = same
  same_tree (suc size) x y (Split a b c t) even_x even_y within d e same =
      let half : ℕ = side size in
      let double = side_double size in
      let f1 : Step = decoded_tree qp size x y a in
      let f2 : Step = decoded_tree qp size (x + half) y b in
      let f3 : Step = decoded_tree qp size x (y + half) c in
      let f4 : Step = decoded_tree qp size (x + half) (y + half) t in
      let first = same_tree size x y a even_x even_y (record {
        right = within.right;
        below = within.below;
        across = omega (arith, within.across, double);
        down = omega (arith, within.down, double);
      }) d e same in
      let second = same_tree size (x + half) y b (omega (arith, even_x)) even_y (record {
        right = omega (arith, within.right);
        below = within.below;
        across = omega (arith, within.across, double);
        down = omega (arith, within.down, double);
      }) in
      let third = same_tree size x (y + half) c even_x (omega (arith, even_y)) (record {
        right = within.right;
        below = omega (arith, within.below);
        across = omega (arith, within.across, double);
        down = omega (arith, within.down, double);
      }) in
      let fourth = same_tree size (x + half) (y + half) t (omega (arith, even_x))
      (omega (arith, even_y)) (record {
        right = omega (arith, within.right);
        below = omega (arith, within.below);
        across = omega (arith, within.across, double);
        down = omega (arith, within.down, double);
      }) in
      let two = both_then left top n f2 (f1 d) (f1 e) first second in
      let three = both_then left top n f3 (option_and_then f2 (f1 d)) (option_and_then f2 (f1 e))
      two third in
      both_then left top n f4 (option_and_then f3 (option_and_then f2 (f1 d)))
      (option_and_then f3 (option_and_then f2 (f1 e))) three fourth
