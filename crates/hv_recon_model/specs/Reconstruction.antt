-- The decoded picture before the in-loop filters (8.4 to 8.6): every transform block of the
-- picture, in decoding order, is predicted from samples that were decoded before it or from a
-- reference picture, and its residual is added.
use Rattle.std.specs.Prelude.{ℕ, zero, suc, ◌+◌, ◌-◌, ◌*◌, ◌/◌, ◌^◌, Bool, true, false, cond, nat_eq, nat_lt, nat_le, ◌&&◌, ◌||◌, List, [], ◌∷◌, ◌++◌, map, slice_get, slice_index_or, Option, Some, None, option_and_then, option_map, ℤ, pos, ◌+ℤ◌}
use Rattle.hv_lemmas.specs.Clipping.{clip1}
use Rattle.hv_lemmas.specs.Lists.{tabulate}
use Rattle.hv_types.specs.declared.picture.Picture.{Picture}
use Rattle.hv_types.specs.Samples.{Plane, plane_of}
use Rattle.hv_tables.specs.Quantisers.{chroma_qp}
use Rattle.hv_inter_model.specs.Interpolation.{inter_predicted}
use Rattle.hv_sample_model.specs.IntraPrediction.{substituted, predicted}
use Rattle.hv_sample_model.specs.InverseTransform.{residual}
use Rattle.hv_tree_model.specs.Trees.{Prediction, Intra, Inter, TransformUnit, Tree, Leaf, Split, Outside, side, greatest_size}
use Rattle.hv_tree_model.specs.Sites.{Site, ctb_side, ctb_column, ctb_row}

-- ---- what is decoded so far

-- The sample of one colour component in a column and row of the picture. None where it isn't
-- decoded yet, or lies outside the picture: with one slice a picture, that is what isn't available
-- to a block that is decoded next (6.4.1).
abbrev pub Component : Type 0
Component = ℕ → ℕ → Option ℕ

-- of the picture, and before it: its reference pictures, which are list 0 of its slice (8.3.4)
pub record Decoded : Type 0 where
  pub luma : Component
  pub cb : Component
  pub cr : Component
  pub references : List Picture

abbrev pub nothing : Component
nothing x y = None

-- before the first block of a picture with these reference pictures
abbrev pub nothing_decoded : List Picture → Decoded
nothing_decoded references =
    record { luma = nothing; cb = nothing; cr = nothing; references = references }

-- a component of each reference picture
abbrev pub luma_planes : List Picture → List Plane
luma_planes references = map (λ p. p.luma) references

abbrev pub cb_planes : List Picture → List Plane
cb_planes references = map (λ p. p.cb) references

abbrev pub cr_planes : List Picture → List Plane
cr_planes references = map (λ p. p.cr) references

-- ---- a transform block

-- where a block lies in its component, and its side as a power of 2
pub record Square : Type 0 where
  pub x : ℕ
  pub y : ℕ
  pub log2 : ℕ

abbrev pub square_at : ℕ → ℕ → ℕ → Square
square_at x y log2 = record { x = x; y = y; log2 = log2 }

-- p[-1][i - 1], whose number 0 is the corner
abbrev pub left_of : Component → Square → ℕ → Option ℕ
left_of samples s zero =
    cond (nat_eq s.x 0 || nat_eq s.y 0) None (samples (s.x - 1) (s.y - 1))
left_of samples s (suc i) = cond (nat_eq s.x 0) None (samples (s.x - 1) (s.y + i))

-- p[i][-1]
abbrev pub above_of : Component → Square → ℕ → Option ℕ
above_of samples s i = cond (nat_eq s.y 0) None (samples (s.x + i) (s.y - 1))

-- the neighbours of a block: from the lowest at the left upwards to the corner, and then above the
-- block to the right (8.4.4.2.2)
abbrev pub neighbours : Component → Square → List (Option ℕ)
neighbours samples s =
    let n = 2 * 2 ^ s.log2 in
    tabulate (n + 1) (λ i. left_of samples s (n - i)) ++ tabulate n (above_of samples s)

-- The samples of a block that is predicted so, by rows: from its neighbours (8.4.4.2), or from the
-- plane of an entry of list 0, by a vector, which stands in the place of the coded difference
-- (8.5.3.3.3). None where list 0 has no such entry. What comes of a reference picture is predicted
-- for a whole unit, and each of its transform blocks has its part.
abbrev pub predicted_block :
    Prediction → Bool → List Plane → Component → Square → Option (List ℕ)
predicted_block (Intra mode) is_luma planes samples s =
    Some (predicted s.log2 mode is_luma (substituted (neighbours samples s)))
predicted_block (Inter motion) is_luma planes samples s =
    option_map (λ plane. inter_predicted is_luma plane motion.MvdL0 s.x s.y (2 ^ s.log2))
    (slice_get planes motion.ref_idx_l0)

-- prediction and residual, by rows (8.6.7)
abbrev pub sum_of : List ℕ → List ℤ → List ℕ
sum_of [] residuals = []
sum_of (p ∷ samples) [] = []
sum_of (p ∷ samples) (r ∷ residuals) = clip1 (pos p +ℤ r) ∷ sum_of samples residuals

abbrev pub is_in : Square → ℕ → ℕ → Bool
is_in s x y =
    nat_le s.x x && nat_lt x (s.x + 2 ^ s.log2) && nat_le s.y y && nat_lt y (s.y + 2 ^ s.log2)

-- with the samples of a block
abbrev pub with_block : Component → Square → List ℕ → Component
with_block samples s block x y =
    cond (is_in s x y)
    (Some (slice_index_or block ((y - s.y) * 2 ^ s.log2 + (x - s.x)) 0))
    (samples x y)

-- behind a block with these levels, by rows, and this quantiser
unfoldable pub decoded_block :
    Prediction → Bool → ℕ → List Plane → Square → List ℤ → Component → Option Component
decoded_block prediction is_luma qp planes s levels samples =
    option_map (λ block. with_block samples s (sum_of block (residual s.log2 qp levels)))
    (predicted_block prediction is_luma planes samples s)

-- ---- a transform unit: luma, Cb and Cr, each from its own component (8.4.4.1)

-- the block of chroma under a block of luma
abbrev pub chroma_of : Square → Square
chroma_of s = square_at (s.x / 2) (s.y / 2) (s.log2 - 1)

abbrev pub all_decoded :
    List Picture → Option Component → Option Component → Option Component → Option Decoded
all_decoded references (Some luma) (Some cb) (Some cr) =
    Some (record { luma = luma; cb = cb; cr = cr; references = references })
all_decoded references _ _ _ = None

-- QpY is qp, and chroma is predicted as luma is. No block of luma is as small as 4x4, so each has
-- the same transform, whatever its prediction (8.6.4.2).
abbrev pub decoded_unit : ℕ → Prediction → Square → TransformUnit → Decoded → Option Decoded
decoded_unit qp prediction s t d =
    all_decoded d.references
    (decoded_block prediction true qp (luma_planes d.references) s t.luma d.luma)
    (decoded_block prediction false (chroma_qp qp) (cb_planes d.references) (chroma_of s) t.cb d.cb)
    (decoded_block prediction false (chroma_qp qp) (cr_planes d.references) (chroma_of s) t.cr d.cr)

-- ---- a coding unit: its transform units in z-scan order

-- the corner of quarter i
abbrev pub quarter : Square → ℕ → Square
quarter s zero = square_at s.x s.y (s.log2 - 1)
quarter s (suc zero) = square_at (s.x + 2 ^ (s.log2 - 1)) s.y (s.log2 - 1)
quarter s (suc (suc zero)) = square_at s.x (s.y + 2 ^ (s.log2 - 1)) (s.log2 - 1)
quarter s (suc (suc (suc i))) =
    square_at (s.x + 2 ^ (s.log2 - 1)) (s.y + 2 ^ (s.log2 - 1)) (s.log2 - 1)

abbrev pub decoded_quarters :
    ℕ → Prediction → Square → ℕ → List TransformUnit → Decoded → Option Decoded
decoded_quarters qp prediction s i [] d = Some d
decoded_quarters qp prediction s i (t ∷ units) d =
    option_and_then (decoded_quarters qp prediction s (suc i) units)
    (decoded_unit qp prediction (quarter s i) t d)

abbrev pub decoded_units : ℕ → Prediction → Square → List TransformUnit → Decoded → Option Decoded
decoded_units qp prediction s [] d = Some d
decoded_units qp prediction s (t ∷ []) d = decoded_unit qp prediction s t d
decoded_units qp prediction s (t ∷ u ∷ units) d =
    decoded_quarters qp prediction s 0 (t ∷ u ∷ units) d

-- ---- a coding quadtree: its units in z-scan order. A node of this size has its corner in column x
-- of row y.

unfoldable pub decoded_tree : ℕ → ℕ → ℕ → ℕ → Tree → Decoded → Option Decoded
decoded_tree qp size x y Outside d = Some d
decoded_tree qp size x y (Leaf prediction units) d =
    decoded_units qp prediction (square_at x y (size + 3)) units d
decoded_tree qp zero x y (Split a b c e) d = Some d
decoded_tree qp (suc size) x y (Split a b c e) d =
    let half = side size in
    option_and_then (decoded_tree qp size (x + half) (y + half) e)
    (option_and_then (decoded_tree qp size x (y + half) c)
    (option_and_then (decoded_tree qp size (x + half) y b)
    (decoded_tree qp size x y a d)))

-- ---- a picture: its coding tree blocks in raster order

unfoldable pub decoded_trees : ℕ → List Site → List Tree → Decoded → Option Decoded
decoded_trees qp [] trees d = Some d
decoded_trees qp (site ∷ sites) [] d = Some d
decoded_trees qp (site ∷ sites) (tree ∷ trees) d =
    option_and_then (decoded_trees qp sites trees)
    (decoded_tree qp greatest_size (ctb_side * ctb_column site) (ctb_side * ctb_row site) tree d)

-- 0 stands for a sample that isn't decoded: valid trees leave none
abbrev pub sample_of : Option ℕ → ℕ
sample_of None = 0
sample_of (Some sample) = sample

abbrev pub plane_of_component : ℕ → ℕ → Component → Plane
plane_of_component width height samples = plane_of width height (λ x y. sample_of (samples x y))

abbrev pub picture_of : ℕ → ℕ → Decoded → Picture
picture_of width height d = record {
  luma = plane_of_component width height d.luma;
  cb = plane_of_component (width / 2) (height / 2) d.cb;
  cr = plane_of_component (width / 2) (height / 2) d.cr;
}

-- the picture of these luma sides, this slice quantiser and these reference pictures; none where a
-- unit names one that isn't there
unfoldable pub unfiltered :
    ℕ → ℕ → ℕ → List Picture → List Site → List Tree → Option Picture
unfiltered width height qp references sites trees =
    option_map (picture_of width height)
    (decoded_trees qp sites trees (nothing_decoded references))
