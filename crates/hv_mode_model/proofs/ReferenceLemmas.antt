-- Behind whatever is decoded the reference pictures are the same.
use Rattle.std.proofs.Common.{◌≡◌, ℕ, zero, suc, ◌+◌, List, [], ◌∷◌, refl, subst}
use Rattle.std.specs.Prelude.{Option, Some, None, option_and_then}
use Rattle.hv_types.specs.declared.picture.Picture.{Picture}
use Rattle.hv_tree_model.specs.Trees.{Prediction, TransformUnit, Tree, Leaf, Split, Outside, side}
use Rattle.hv_tree_model.specs.Sites.{x0, y0}
use Rattle.hv_recon_model.specs.Reconstruction.{Component, Decoded, Square, square_at, quarter, all_decoded, decoded_unit, decoded_quarters, decoded_units, decoded_tree}
use Rattle.hv_mode_model.specs.ModeDecision.{Given, or_else, decoded_behind}

abbrev Has : List Picture → Option Decoded → Type 0
Has pictures None = Unit {0}
Has pictures (Some d) = d.references ≡ pictures

all_has : (pictures : List Picture) (luma cb cr : Option Component) →
    Has pictures (all_decoded pictures luma cb cr)
all_has pictures None cb cr = tt
all_has pictures (Some luma) None cr = tt
all_has pictures (Some luma) (Some cb) None = tt
all_has pictures (Some luma) (Some cb) (Some cr) = refl

module _ (pictures : List Picture) where
  abbrev Keeps : (Decoded → Option Decoded) → Type 0
  Keeps f = (d : Decoded) → d.references ≡ pictures → Has pictures (f d)

  then_has : (f : Decoded → Option Decoded) (r : Option Decoded) → Has pictures r → Keeps f →
      Has pictures (option_and_then f r)
  then_has f None has keeps = tt
  then_has f (Some d) has keeps = keeps d has

  unit_keeps : (qp : ℕ) (p : Prediction) (s : Square) (t : TransformUnit) →
      Keeps (decoded_unit qp p s t)
  unit_keeps qp p s t d has =
      subst (λ list. Has list (decoded_unit qp p s t d)) has (all_has d.references _ _ _)

  quarters_keep : (qp : ℕ) (p : Prediction) (s : Square) (i : ℕ) (units : List TransformUnit) →
      Keeps (decoded_quarters qp p s i units)
  quarters_keep qp p s i [] d has = has
  quarters_keep qp p s i (t ∷ units) d has =
      then_has (decoded_quarters qp p s (suc i) units) (decoded_unit qp p (quarter s i) t d)
      (unit_keeps qp p (quarter s i) t d has) (quarters_keep qp p s (suc i) units)

  units_keep : (qp : ℕ) (p : Prediction) (s : Square) (units : List TransformUnit) →
      Keeps (decoded_units qp p s units)
  units_keep qp p s [] d has = has
  units_keep qp p s (t ∷ []) d has = unit_keeps qp p s t d has
  units_keep qp p s (t ∷ u ∷ units) d has = quarters_keep qp p s 0 (t ∷ u ∷ units) d has

  tree_keeps : (qp size x y : ℕ) (tree : Tree) → Keeps (decoded_tree qp size x y tree)
  unfolding decoded_tree
  tree_keeps qp zero x y Outside d has = has
  tree_keeps qp (suc size) x y Outside d has = has
  tree_keeps qp zero x y (Leaf p units) d has =
      units_keep qp p (square_at x y (zero + 3)) units d has
  tree_keeps qp (suc size) x y (Leaf p units) d has =
      units_keep qp p (square_at x y (suc size + 3)) units d has
  tree_keeps qp zero x y (Split a b c e) d has = has
  tree_keeps qp (suc size) x y (Split a b c e) d has =
      let half : ℕ = side size in
      let first : Decoded → Option Decoded = decoded_tree qp size x y a in
      let second : Decoded → Option Decoded = decoded_tree qp size (x + half) y b in
      let third : Decoded → Option Decoded = decoded_tree qp size x (y + half) c in
      let fourth : Decoded → Option Decoded = decoded_tree qp size (x + half) (y + half) e in
      let two : Option Decoded = option_and_then second (first d) in
      then_has fourth (option_and_then third two)
      (then_has third two
      (then_has second (first d) (tree_keeps qp size x y a d has)
      (tree_keeps qp size (x + half) y b))
      (tree_keeps qp size x (y + half) c))
      (tree_keeps qp size (x + half) (y + half) e)

or_has : (pictures : List Picture) (d : Decoded) (r : Option Decoded) → d.references ≡ pictures →
    Has pictures r → (or_else d r).references ≡ pictures
or_has pictures d None has kept = has
or_has pictures d (Some e) has kept = kept

pub same_references : (g : Given) (size address : ℕ) (tree : Tree) (d : Decoded) →
    (decoded_behind g size address tree d).references ≡ d.references
same_references g size address tree d =
    or_has d.references d _ refl
    (tree_keeps d.references g.qp size (x0 g.surroundings.site address)
    (y0 g.surroundings.site address) tree d refl)
