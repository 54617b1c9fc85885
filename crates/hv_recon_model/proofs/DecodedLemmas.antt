-- What is decoded behind transform blocks and nodes: what was decoded before, and each sample of
-- the block or the node that lies inside the picture.
use Rattle.std.proofs.Common.{◌≡◌, ℕ, zero, suc, ◌+◌, ◌-◌, ◌*◌, ◌/◌, ◌%◌, ◌^◌, ◌<◌, ◌≤◌, Bool, true, false, cond, List, [], ◌∷◌, length, map, refl, sym, ap, subst, ◌∙◌, arith, inl, inr, ℤ}
use Rattle.std.specs.Prelude.{nat_le, ◌||◌, slice_get, slice_index_or, is_some, Option, Some, None, option_and_then, option_map}
use Rattle.std.proofs.lemmas.Bool.{cases_lt}
use Rattle.std.proofs.Math.Dec.{lit<}
use Rattle.std.proofs.Math.Nat.{pow-suc}
use Rattle.std.proofs.lemmas.Bool.Decides.{nat_tests}
use Rattle.std.proofs.lemmas.Option.{slice_get-map}
use Rattle.hv_lemmas.proofs.ListLemmas.{there_is}
use Rattle.hv_types.specs.declared.picture.Picture.{Picture}
use Rattle.hv_types.specs.Samples.{Plane}
use Rattle.hv_inter_model.specs.Interpolation.{inter_predicted}
use Rattle.hv_sample_model.specs.InverseTransform.{residual}
use Rattle.hv_tables.specs.Quantisers.{chroma_qp}
use Rattle.hv_tables.specs.declared.bins.SliceKind.{SliceKind}
use Rattle.hv_tables.specs.declared.bins.SliceKind.TheVariants.{I, P}
use Rattle.hv_tree_model.specs.Trees.{Prediction, Intra, Inter, TransformUnit, Tree, Leaf, Split, Outside, side, log2TrafoSize, transform_units}
use Rattle.hv_tree_model.specs.Sites.{Site, x0, y0, squares, is_outside}
use Rattle.hv_tree_model.specs.Validity.{IsPrediction, IsValidNode, AreTransformUnits}
use Rattle.hv_tree_model.proofs.NodeLemmas.{IsNode, child_of}
use Rattle.hv_recon_model.specs.Reconstruction.{Component, Decoded, Square, square_at, chroma_of, is_in, with_block, sum_of, all_decoded, decoded_block, decoded_unit, decoded_units, decoded_tree}
use Rattle.hv_recon_model.specs.ReconstructionLaws.{IsDecoded, AreThere}

-- ---- one block

in_block : (samples : Component) (s : Square) (block : List ℕ) (x y : ℕ) → is_in s x y ≡ true →
    IsDecoded (with_block samples s block) x y
in_block samples s block x y inside =
    ap (λ t. is_some (cond t (Some (slice_index_or block ((y - s.y) * 2 ^ s.log2 + (x - s.x)) 0))
    (samples x y))) inside

is_in_square : (s : Square) (x y : ℕ) → s.x ≤ x → x < s.x + 2 ^ s.log2 → s.y ≤ y →
    y < s.y + 2 ^ s.log2 → is_in s x y ≡ true
is_in_square s x y right across below down = grind (arith, nat_tests)

kept_in : (test : Bool) (sample : ℕ) (old : Option ℕ) → is_some old ≡ true →
    is_some (cond test (Some sample) old) ≡ true
kept_in true sample old there = refl
kept_in false sample old there = there

kept_block : (samples : Component) (s : Square) (block : List ℕ) (x y : ℕ) →
    IsDecoded samples x y → IsDecoded (with_block samples s block) x y
kept_block samples s block x y there = kept_in (is_in s x y) _ (samples x y) there

-- ---- what holds behind a part of a picture

pub record Keep (d e : Decoded) : Type 0 where
  pub luma : (x y : ℕ) → IsDecoded d.luma x y → IsDecoded e.luma x y
  pub cb : (x y : ℕ) → IsDecoded d.cb x y → IsDecoded e.cb x y
  pub cr : (x y : ℕ) → IsDecoded d.cr x y → IsDecoded e.cr x y
  pub references : e.references ≡ d.references

pub keep_all : (d : Decoded) → Keep d d
keep_all d =
    record { luma = λ x y h. h; cb = λ x y h. h; cr = λ x y h. h; references = refl }

pub keep_then : (d e f : Decoded) → Keep d e → Keep e f → Keep d f
keep_then d e f h k = record {
  luma = λ x y there. k.luma x y (h.luma x y there);
  cb = λ x y there. k.cb x y (h.cb x y there);
  cr = λ x y there. k.cr x y (h.cr x y there);
  references = k.references ∙ h.references;
}

-- a place of luma lies in the square of this corner and side, and in the picture
pub record LiesIn (width height left top n x y : ℕ) : Type 0 where
  pub right : left ≤ x
  pub below : top ≤ y
  pub across : x < left + n
  pub down : y < top + n
  pub wide : x < width
  pub high : y < height

-- that of chroma by the luma sample at the same place
pub record Cover (width height left top n : ℕ) (d : Decoded) : Type 0 where
  pub luma : (x y : ℕ) → LiesIn width height left top n x y → IsDecoded d.luma x y
  pub cb : (x y : ℕ) → LiesIn width height left top n (2 * x) (2 * y) → IsDecoded d.cb x y
  pub cr : (x y : ℕ) → LiesIn width height left top n (2 * x) (2 * y) → IsDecoded d.cr x y

pub cover_later : (width height left top n : ℕ) (d e : Decoded) → Keep d e →
    Cover width height left top n d → Cover width height left top n e
cover_later width height left top n d e kept cover = record {
  luma = λ x y inside. kept.luma x y (cover.luma x y inside);
  cb = λ x y inside. kept.cb x y (cover.cb x y inside);
  cr = λ x y inside. kept.cr x y (cover.cr x y inside);
}

abbrev pub Behind : ℕ → ℕ → ℕ → ℕ → ℕ → Decoded → Option Decoded → Type 0
Behind width height left top n d result =
    (e : Decoded) × (result ≡ Some e) × Keep d e × Cover width height left top n e

-- ---- predictions

-- the reference picture that a unit names is there
abbrev pub IsFound : Prediction → List Picture → Type 0
IsFound (Intra mode) references = Unit {0}
IsFound (Inter motion) references = motion.ref_idx_l0 < length references

all_found : (slice_type : SliceKind) (count : ℕ) (references : List Picture)
    (prediction : Prediction) → AreThere slice_type count references →
    IsPrediction slice_type count prediction → IsFound prediction references
all_found slice_type count references (Intra mode) there valid = tt
all_found I count references (Inter motion) there valid = absurd valid
all_found P count references (Inter motion) there valid = omega (arith, there, valid.reference)

-- then its block is decoded
pub block_found : (prediction : Prediction) (is_luma : Bool) (qp : ℕ) (part : Picture → Plane)
    (references : List Picture) (s : Square) (levels : List ℤ) (samples : Component) →
    IsFound prediction references →
    (block : List ℕ) ×
    (decoded_block prediction is_luma qp (map part references) s levels samples ≡
    Some (with_block samples s block))
unfolding decoded_block
block_found (Intra mode) is_luma qp part references s levels samples found = (_, refl)
block_found (Inter motion) is_luma qp part references s levels samples found =
    let picture = there_is references motion.ref_idx_l0 found in
    let plane : slice_get (map part references) motion.ref_idx_l0 ≡ Some (part picture.0) =
    slice_get-map part references motion.ref_idx_l0 ∙ ap (option_map part) picture.1 in (
      _,
      ap (λ o. option_map
          (λ block. with_block samples s (sum_of block (residual s.log2 qp levels)))
          (option_map
          (λ p. inter_predicted is_luma p motion.MvdL0 s.x s.y (2 ^ s.log2)) o)) plane,
    )

-- ---- a transform unit

pub unit_behind : (width height qp : ℕ) (prediction : Prediction) (left top log2 n : ℕ)
    (t : TransformUnit) (d : Decoded) → n ≡ 2 ^ log2 → n ≡ 2 * 2 ^ (log2 - 1) → left % 2 ≡ 0 →
    top % 2 ≡ 0 → IsFound prediction d.references →
    Behind width height left top n d
    (decoded_unit qp prediction (square_at left top log2) t d)
unit_behind width height qp prediction left top log2 n t d luma_side chroma_side even_left even_top
    found =
    let s : Square = square_at left top log2 in
    let luma = block_found prediction true qp (λ p. p.luma) d.references s t.luma d.luma found in
    let cb = block_found prediction false (chroma_qp qp) (λ p. p.cb) d.references (chroma_of s) t.cb
    d.cb found in
    let cr = block_found prediction false (chroma_qp qp) (λ p. p.cr) d.references (chroma_of s) t.cr
    d.cr found in (
      record {
        luma = with_block d.luma s luma.0;
        cb = with_block d.cb (chroma_of s) cb.0;
        cr = with_block d.cr (chroma_of s) cr.0;
        references = d.references;
      },
      (λ i. all_decoded d.references (luma.1 i) (cb.1 i) (cr.1 i)),
      record {
        luma = λ x y there. kept_block d.luma s luma.0 x y there;
        cb = λ x y there. kept_block d.cb (chroma_of s) cb.0 x y there;
        cr = λ x y there. kept_block d.cr (chroma_of s) cr.0 x y there;
        references = refl;
      },
      record {
        luma = λ x y inside.
            in_block d.luma s luma.0 x y (is_in_square s x y inside.right
            (omega (arith, inside.across, luma_side)) inside.below
            (omega (arith, inside.down, luma_side)));
        cb = λ x y inside. in_block d.cb (chroma_of s) cb.0 x y (in_chroma x y inside);
        cr = λ x y inside. in_block d.cr (chroma_of s) cr.0 x y (in_chroma x y inside);
      },
    ) where
      in_chroma : (x y : ℕ) → LiesIn width height left top n (2 * x) (2 * y) →
          is_in (square_at (left / 2) (top / 2) (log2 - 1)) x y ≡ true
      in_chroma x y inside =
          is_in_square (square_at (left / 2) (top / 2) (log2 - 1)) x y
          (omega (arith, inside.right))
          (omega (arith, inside.across, chroma_side, even_left))
          (omega (arith, inside.below))
          (omega (arith, inside.down, chroma_side, even_top))

-- ---- four parts of a square

cover_four : (width height left top m n : ℕ) (d : Decoded) → n ≡ 2 * m →
    Cover width height left top m d → Cover width height (left + m) top m d →
    Cover width height left (top + m) m d → Cover width height (left + m) (top + m) m d →
    Cover width height left top n d
cover_four width height left top m n d double a b c e = record {
  luma = λ x y inside.
      part x y inside (IsDecoded d.luma x y) (a.luma x y) (b.luma x y) (c.luma x y) (e.luma x y);
  cb = λ x y inside. part (2 * x) (2 * y) inside (IsDecoded d.cb x y) (a.cb x y) (b.cb x y)
      (c.cb x y) (e.cb x y);
  cr = λ x y inside. part (2 * x) (2 * y) inside (IsDecoded d.cr x y) (a.cr x y) (b.cr x y)
      (c.cr x y) (e.cr x y);
} where
  part : (x y : ℕ) → LiesIn width height left top n x y → (Goal : Type 0) →
      (LiesIn width height left top m x y → Goal) →
      (LiesIn width height (left + m) top m x y → Goal) →
      (LiesIn width height left (top + m) m x y → Goal) →
      (LiesIn width height (left + m) (top + m) m x y → Goal) → Goal
  part x y inside Goal first second third fourth = elim (cases_lt x (left + m)) [
    | inl near ↦ elim (cases_lt y (top + m)) [
      | inl high ↦ first (lies inside.right near inside.below high)
      | inr low ↦ third (lies inside.right near low (omega (arith, inside.down, double)))
    ]
    | inr far ↦ elim (cases_lt y (top + m)) [
      | inl high ↦ second (lies far (omega (arith, inside.across, double)) inside.below high)
      | inr low ↦
          fourth
          (lies far (omega (arith, inside.across, double)) low
          (omega (arith, inside.down, double)))
    ]
  ] where
    lies : {from up : ℕ} → from ≤ x → x < from + m → up ≤ y → y < up + m →
        LiesIn width height from up m x y
    lies right across below down = record {
      right = right;
      below = below;
      across = across;
      down = down;
      wide = inside.wide;
      high = inside.high;
    }

abbrev pub Step : Type 0
Step = Decoded → Option Decoded

pub and_then : (f : Step) (r : Option Decoded) (e g : Decoded) → r ≡ Some e → f e ≡ Some g →
    option_and_then f r ≡ Some g
and_then f r e g first second = ap (option_and_then f) first ∙ second

-- behind whatever is decoded with these reference pictures
abbrev pub AlwaysBehind : ℕ → ℕ → ℕ → ℕ → ℕ → List Picture → Step → Type 0
AlwaysBehind width height left top n references f =
    (d : Decoded) → d.references ≡ references → Behind width height left top n d (f d)

four_behind : (width height left top m n : ℕ) (references : List Picture) (f1 f2 f3 f4 : Step) →
    n ≡ 2 * m →
    AlwaysBehind width height left top m references f1 →
    AlwaysBehind width height (left + m) top m references f2 →
    AlwaysBehind width height left (top + m) m references f3 →
    AlwaysBehind width height (left + m) (top + m) m references f4 →
    AlwaysBehind width height left top n references
    (λ d. option_and_then f4 (option_and_then f3 (option_and_then f2 (f1 d))))
four_behind width height left top m n references f1 f2 f3 f4 double first second third fourth d
    has =
    let a = first d has in
    let da : Keep d a.0 = a.2 in
    let has_a : a.0.references ≡ references = da.references ∙ has in
    let b = second a.0 has_a in
    let ab : Keep a.0 b.0 = b.2 in
    let has_b : b.0.references ≡ references = ab.references ∙ has_a in
    let c = third b.0 has_b in
    let bc : Keep b.0 c.0 = c.2 in
    let e = fourth c.0 (bc.references ∙ has_b) in
    let two = and_then f2 (f1 d) a.0 b.0 a.1 b.1 in
    let three = and_then f3 (option_and_then f2 (f1 d)) b.0 c.0 two c.1 in
    let ce : Keep c.0 e.0 = e.2 in
    let be : Keep b.0 e.0 = keep_then b.0 c.0 e.0 bc ce in
    let ae : Keep a.0 e.0 = keep_then a.0 b.0 e.0 ab be in (
      e.0,
      and_then f4 (option_and_then f3 (option_and_then f2 (f1 d))) c.0 e.0 three e.1,
      keep_then d a.0 e.0 da ae,
      cover_four width height left top m n e.0 double
          (cover_later width height left top m a.0 e.0 ae a.3)
          (cover_later width height (left + m) top m b.0 e.0 be b.3)
          (cover_later width height left (top + m) m c.0 e.0 ce c.3) e.3,
    )

-- ---- coding units

-- four steps, one behind the other
one_step : (f : Step) (r : Option Decoded) →
    option_and_then (λ d. option_and_then (λ e. Some e) (f d)) r ≡ option_and_then f r
one_step f None = refl
one_step f (Some d) = itself (f d) where
  itself : (r : Option Decoded) → option_and_then (λ e. Some e) r ≡ r
  itself None = refl
  itself (Some e) = refl

two_steps : (f g : Step) (r : Option Decoded) →
    option_and_then (λ d. option_and_then (λ e. option_and_then (λ e'. Some e') (g e)) (f d)) r ≡
    option_and_then g (option_and_then f r)
two_steps f g None = refl
two_steps f g (Some d) = one_step g (f d)

three_steps : (f g h : Step) (r : Option Decoded) →
    option_and_then (λ d. option_and_then (λ e. option_and_then (λ e'. option_and_then
    (λ e''. Some e'') (h e')) (g e)) (f d)) r ≡
    option_and_then h (option_and_then g (option_and_then f r))
three_steps f g h None = refl
three_steps f g h (Some d) = two_steps g h (f d)

module _ (width height qp : ℕ) (prediction : Prediction) (references : List Picture)
    (found : IsFound prediction references) where
  one_behind : (left top log2 n : ℕ) (t : TransformUnit) → n ≡ 2 ^ log2 →
      n ≡ 2 * 2 ^ (log2 - 1) → left % 2 ≡ 0 → top % 2 ≡ 0 →
      AlwaysBehind width height left top n references
      (decoded_unit qp prediction (square_at left top log2) t)
  one_behind left top log2 n t luma_side chroma_side even_left even_top d has =
      unit_behind width height qp prediction left top log2 n t d luma_side chroma_side even_left
      even_top (subst (IsFound prediction) (sym has) found)

  -- of 64x64: four transform units
  quarters_behind : (left top : ℕ) (t1 t2 t3 t4 : TransformUnit) → left % 2 ≡ 0 → top % 2 ≡ 0 →
      AlwaysBehind width height left top 64 references
      (decoded_units qp prediction (square_at left top 6) (t1 ∷ t2 ∷ t3 ∷ t4 ∷ []))
  quarters_behind left top t1 t2 t3 t4 even_left even_top d has =
      let unit : ℕ → ℕ → TransformUnit → Step =
      λ x y t e. decoded_unit qp prediction (square_at x y 5) t e in
      subst (Behind width height left top 64 d)
      (sym (three_steps (unit (left + 32) top t2) (unit left (top + 32) t3)
      (unit (left + 32) (top + 32) t4) (unit left top t1 d)))
      (four_behind width height left top 32 64 references (unit left top t1) (unit (left + 32) top t2)
      (unit left (top + 32) t3) (unit (left + 32) (top + 32) t4) refl
      (one_behind left top 5 32 t1 refl refl even_left even_top)
      (one_behind (left + 32) top 5 32 t2 refl refl (omega (arith, even_left)) even_top)
      (one_behind left (top + 32) 5 32 t3 refl refl even_left (omega (arith, even_top)))
      (one_behind (left + 32) (top + 32) 5 32 t4 refl refl (omega (arith, even_left))
      (omega (arith, even_top))) d has)

  leaf_behind : (left top size : ℕ) (units : List TransformUnit) → size ≤ 3 →
      AreTransformUnits (log2TrafoSize size) (transform_units size) units → left % 2 ≡ 0 →
      top % 2 ≡ 0 →
      AlwaysBehind width height left top (side size) references
      (decoded_units qp prediction (square_at left top (size + 3)) units)
  leaf_behind left top zero [] few valid even_left even_top = absurd valid
  leaf_behind left top zero (t ∷ []) few valid even_left even_top =
      one_behind left top 3 8 t refl refl even_left even_top
  leaf_behind left top zero (t ∷ u ∷ units) few valid even_left even_top = absurd valid.1
  leaf_behind left top (suc zero) [] few valid even_left even_top = absurd valid
  leaf_behind left top (suc zero) (t ∷ []) few valid even_left even_top =
      one_behind left top 4 16 t refl refl even_left even_top
  leaf_behind left top (suc zero) (t ∷ u ∷ units) few valid even_left even_top = absurd valid.1
  leaf_behind left top (suc (suc zero)) [] few valid even_left even_top = absurd valid
  leaf_behind left top (suc (suc zero)) (t ∷ []) few valid even_left even_top =
      one_behind left top 5 32 t refl refl even_left even_top
  leaf_behind left top (suc (suc zero)) (t ∷ u ∷ units) few valid even_left even_top =
      absurd valid.1
  leaf_behind left top (suc (suc (suc zero))) (t1 ∷ t2 ∷ t3 ∷ t4 ∷ []) few valid even_left
      even_top =
      quarters_behind left top t1 t2 t3 t4 even_left even_top
  leaf_behind left top (suc (suc (suc (suc size)))) units few valid even_left even_top =
      absurd (omega (arith, few))
  leaf_behind left top (suc (suc (suc zero))) [] few valid even_left even_top = absurd valid
  leaf_behind left top (suc (suc (suc zero))) (t1 ∷ []) few valid even_left even_top =
      absurd valid.1
  leaf_behind left top (suc (suc (suc zero))) (t1 ∷ t2 ∷ []) few valid even_left even_top =
      absurd valid.1.1
  leaf_behind left top (suc (suc (suc zero))) (t1 ∷ t2 ∷ t3 ∷ []) few valid even_left even_top =
      absurd valid.1.1.1
  leaf_behind left top (suc (suc (suc zero))) (t1 ∷ t2 ∷ t3 ∷ t4 ∷ u ∷ units) few valid even_left
      even_top =
      absurd valid.1.1.1.1

-- ---- nodes

off_picture : (width height left top : ℕ) → nat_le width left || nat_le height top ≡ true →
    left < width → top < height → ⊥
off_picture width height left top off wide high = absurd (grind (arith, nat_tests))

outside_behind : (width height left top n : ℕ) (d : Decoded) →
    nat_le width left || nat_le height top ≡ true → Behind width height left top n d (Some d)
outside_behind width height left top n d off = (
  d,
  refl,
  keep_all d,
  record {
    luma = λ x y inside. absurd (none x y inside);
    cb = λ x y inside. absurd (none (2 * x) (2 * y) inside);
    cr = λ x y inside. absurd (none (2 * x) (2 * y) inside);
  },
) where
  none : (x y : ℕ) → LiesIn width height left top n x y → ⊥
  none x y inside =
      off_picture width height left top off (omega (arith, inside.right, inside.wide))
      (omega (arith, inside.below, inside.high))

pub side_double : (size : ℕ) → side (suc size) ≡ 2 * side size
side_double size = omega (arith, pow-suc 2 size)

-- where a node lies in the picture
pub record LiesAt (here : Site) (size address left top : ℕ) : Type 0 where
  pub node : IsNode size address
  pub column : left ≡ x0 here address
  pub row : top ≡ y0 here address

-- a node whose first address is k nodes of its size behind that of the node that is split
part_lies : (here : Site) (size address left top k x y z : ℕ) →
    LiesAt here (suc size) address left top → k < 4 → z ≡ address + k * squares size →
    x ≡ left + 8 * (k % 2 * 2 ^ size) → y ≡ top + 8 * (k / 2 * 2 ^ size) → LiesAt here size z x y
part_lies here size address left top k x y z at below e across down =
    let child = child_of size address k at.node below in
    subst (λ n. LiesAt here size n x y) (sym e) (record {
      node = child.node;
      column = omega (arith, child.column, at.column, across);
      row = omega (arith, child.row, at.row, down);
    })

module _ (slice_type : SliceKind) (here : Site) (qp count : ℕ) (references : List Picture)
    (there : AreThere slice_type count references) where
  leaf_node_behind : (size address : ℕ) (prediction : Prediction) (units : List TransformUnit)
      (left top : ℕ) → LiesAt here size address left top →
      IsPrediction slice_type count prediction →
      AreTransformUnits (log2TrafoSize size) (transform_units size) units →
      AlwaysBehind here.width here.height left top (side size) references
      (decoded_units qp prediction (square_at left top (size + 3)) units)
  leaf_node_behind size address prediction units left top at valid whole =
      leaf_behind here.width here.height qp prediction references
      (all_found slice_type count references prediction there valid) left top size units at.node.few
      whole (omega (arith, at.column)) (omega (arith, at.row))

  pub tree_behind : (size address : ℕ) (tree : Tree) (left top : ℕ) →
      LiesAt here size address left top → IsValidNode slice_type count here size address tree →
      AlwaysBehind here.width here.height left top (side size) references
      (decoded_tree qp size left top tree)
  unfolding decoded_tree IsValidNode is_outside
  tree_behind zero address Outside left top at valid d has =
      outside_behind here.width here.height left top (side zero) d (rw (at.column, at.row) valid)
  tree_behind (suc size) address Outside left top at valid d has =
      outside_behind here.width here.height left top (side (suc size)) d
      (rw (at.column, at.row) valid)
  tree_behind zero address (Leaf prediction units) left top at valid d has =
      leaf_node_behind zero address prediction units left top at valid.2 valid.3 d has
  tree_behind (suc size) address (Leaf prediction units) left top at valid d has =
      leaf_node_behind (suc size) address prediction units left top at valid.2 valid.3 d has
  tree_behind zero address (Split a b c e) left top at valid d has = absurd valid
  tree_behind (suc size) address (Split a b c e) left top at valid d has =
      let n : ℕ = squares size in
      let half : ℕ = side size in
      let lies = part_lies here size address left top in
      let first = lies 0 left top address at (lit< tt) (omega arith) (omega arith) (omega arith) in
      let second =
      lies 1 (left + half) top (address + n) at (lit< tt) (omega arith) (omega arith) (omega arith)
      in
      let third =
      lies 2 left (top + half) (address + 2 * n) at (lit< tt) refl (omega arith) (omega arith) in
      let fourth =
      lies 3 (left + half) (top + half) (address + 3 * n) at (lit< tt) refl (omega arith)
      (omega arith) in
      four_behind here.width here.height left top half (side (suc size)) references
      (decoded_tree qp size left top a) (decoded_tree qp size (left + half) top b)
      (decoded_tree qp size left (top + half) c) (decoded_tree qp size (left + half) (top + half) e)
      (side_double size)
      (tree_behind size address a left top first valid.1)
      (tree_behind size (address + n) b (left + half) top second valid.2)
      (tree_behind size (address + 2 * n) c left (top + half) third valid.3)
      (tree_behind size (address + 3 * n) e (left + half) (top + half) fourth valid.4)
      d has
