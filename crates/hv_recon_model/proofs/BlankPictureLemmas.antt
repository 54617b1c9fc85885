-- A picture in which nothing is chosen is grey: what is decoded of it is grey behind each of its
-- blocks, and in the end all of it is decoded.
use Rattle.std.proofs.Common.{◌≡◌, ℕ, zero, suc, ◌+◌, ◌*◌, ◌/◌, ◌<◌, true, false, List, [], ◌∷◌, sym, ap, subst, ◌∙◌, arith}
use Rattle.std.specs.Prelude.{not, nat_eq, ◌&&◌, ◌||◌, is_some, Option, Some, None, option_and_then, option_map}
use Rattle.std.specs.List.{list_all, concat}
use Rattle.std.proofs.lemmas.Bool.{or_parts, and_parts, not-true}
use Rattle.std.proofs.lemmas.Bool.Decides.{nat_tests}
use Rattle.hv_lemmas.proofs.ListLemmas.{tabulate-same}
use Rattle.hv_tables.specs.declared.bins.SliceKind.TheVariants.{I}
use Rattle.hv_types.specs.Samples.{filled_plane, plane_by_rows}
use Rattle.hv_plan.specs.Levels.{any_significant}
use Rattle.hv_tree_model.specs.Trees.{Intra, Inter, TransformUnit, Tree, Leaf, Split, Outside, any_level, side, greatest_size}
use Rattle.hv_tree_model.specs.Sites.{Site, sites, ctb_side, ctb_column, ctb_row}
use Rattle.hv_recon_model.specs.Reconstruction.{Component, Decoded, Square, square_at, chroma_of, quarter, nothing_decoded, decoded_block, decoded_unit, decoded_quarters, decoded_units, decoded_tree, decoded_trees, sample_of, plane_of_component, picture_of, unfiltered}
use Rattle.hv_recon_model.specs.ReconstructionLaws.{IsDecoded}
use Rattle.hv_recon_model.specs.BlankLaws.{is_blank_tree, BlankPicturesAreGrey}
use Rattle.hv_recon_model.proofs.BlankBlockLemmas.{IsGrey, AreGrey, block_grey}
use Rattle.hv_recon_model.proofs.DecodedLemmas.{Step}
use Rattle.hv_recon_model.proofs.PictureLemmas.{every_sample}

-- ---- all three components

record AllGrey (d : Decoded) : Type 0 where
  pub luma : AreGrey d.luma
  pub cb : AreGrey d.cb
  pub cr : AreGrey d.cr

abbrev GreyBehind : Option Decoded → Type 0
GreyBehind None = Unit {0}
GreyBehind (Some d) = AllGrey d

then_grey : (f : Step) (r : Option Decoded) → GreyBehind r →
    ((d : Decoded) → AllGrey d → GreyBehind (f d)) → GreyBehind (option_and_then f r)
then_grey f None first second = tt
then_grey f (Some d) first second = second d first

-- ---- coding units

record NoLevel (t : TransformUnit) (units : List TransformUnit) : Type 0 where
  pub luma : any_significant t.luma ≡ false
  pub cb : any_significant t.cb ≡ false
  pub cr : any_significant t.cr ≡ false
  pub others : any_level units ≡ false

no_level : (t : TransformUnit) (units : List TransformUnit) → any_level (t ∷ units) ≡ false →
    NoLevel t units
no_level t units none =
    let luma = or_parts (any_significant t.luma)
    (any_significant t.cb || (any_significant t.cr || any_level units)) none in
    let cb = or_parts (any_significant t.cb) (any_significant t.cr || any_level units) luma.1 in
    let cr = or_parts (any_significant t.cr) (any_level units) cb.1 in
    record { luma = luma.0; cb = cb.0; cr = cr.0; others = cr.1 }

unit_grey : (qp : ℕ) (s : Square) (t : TransformUnit) (units : List TransformUnit) (d : Decoded) →
    NoLevel t units → AllGrey d → GreyBehind (decoded_unit qp (Intra 1) s t d)
unfolding decoded_block
unit_grey qp s t units d none grey = record {
  luma = block_grey true _ s t.luma d.luma none.luma grey.luma;
  cb = block_grey false _ (chroma_of s) t.cb d.cb none.cb grey.cb;
  cr = block_grey false _ (chroma_of s) t.cr d.cr none.cr grey.cr;
}

quarters_grey : (qp : ℕ) (s : Square) (i : ℕ) (units : List TransformUnit) (d : Decoded) →
    any_level units ≡ false → AllGrey d →
    GreyBehind (decoded_quarters qp (Intra 1) s i units d)
quarters_grey qp s i [] d none grey = grey
quarters_grey qp s i (t ∷ units) d none grey =
    let parts = no_level t units none in
    then_grey (decoded_quarters qp (Intra 1) s (suc i) units)
    (decoded_unit qp (Intra 1) (quarter s i) t d) (unit_grey qp (quarter s i) t units d parts grey)
    (λ e now. quarters_grey qp s (suc i) units e parts.others now)

units_grey : (qp : ℕ) (s : Square) (units : List TransformUnit) (d : Decoded) →
    any_level units ≡ false → AllGrey d → GreyBehind (decoded_units qp (Intra 1) s units d)
units_grey qp s [] d none grey = grey
units_grey qp s (t ∷ []) d none grey = unit_grey qp s t [] d (no_level t [] none) grey
units_grey qp s (t ∷ u ∷ units) d none grey = quarters_grey qp s 0 (t ∷ u ∷ units) d none grey

-- ---- nodes

leaf_grey : (qp mode : ℕ) (s : Square) (units : List TransformUnit) (d : Decoded) →
    nat_eq mode 1 && not (any_level units) ≡ true → AllGrey d →
    GreyBehind (decoded_units qp (Intra mode) s units d)
leaf_grey qp mode s units d blank grey =
    let parts = and_parts (nat_eq mode 1) (not (any_level units)) blank in
    let is_dc : mode ≡ 1 = grind (arith, nat_tests, parts.0) in
    subst (λ m. GreyBehind (decoded_units qp (Intra m) s units d)) (sym is_dc)
    (units_grey qp s units d (not-true (any_level units) parts.1) grey)

tree_grey : (qp size x y : ℕ) (tree : Tree) (d : Decoded) → is_blank_tree tree ≡ true →
    AllGrey d → GreyBehind (decoded_tree qp size x y tree d)
unfolding decoded_tree
tree_grey qp zero x y Outside d blank grey = grey
tree_grey qp (suc size) x y Outside d blank grey = grey
tree_grey qp zero x y (Leaf (Intra mode) units) d blank grey =
    leaf_grey qp mode (square_at x y 3) units d blank grey
tree_grey qp (suc size) x y (Leaf (Intra mode) units) d blank grey =
    leaf_grey qp mode (square_at x y (suc size + 3)) units d blank grey
tree_grey qp zero x y (Leaf (Inter motion) units) d blank grey = absurd cc
tree_grey qp (suc size) x y (Leaf (Inter motion) units) d blank grey = absurd cc
tree_grey qp zero x y (Split a b c e) d blank grey = grey
tree_grey qp (suc size) x y (Split a b c e) d blank grey =
    let half : ℕ = side size in
    let first = and_parts (is_blank_tree a) _ blank in
    let second = and_parts (is_blank_tree b) _ first.1 in
    let third = and_parts (is_blank_tree c) (is_blank_tree e) second.1 in
    then_grey (decoded_tree qp size (x + half) (y + half) e) _
    (then_grey (decoded_tree qp size x (y + half) c) _
    (then_grey (decoded_tree qp size (x + half) y b) (decoded_tree qp size x y a d)
    (tree_grey qp size x y a d first.0 grey)
    (λ f now. tree_grey qp size (x + half) y b f second.0 now))
    (λ f now. tree_grey qp size x (y + half) c f third.0 now))
    (λ f now. tree_grey qp size (x + half) (y + half) e f third.1 now)

-- ---- the picture

trees_grey : (qp : ℕ) (here : List Site) (trees : List Tree) (d : Decoded) →
    list_all is_blank_tree trees ≡ true → AllGrey d → GreyBehind (decoded_trees qp here trees d)
unfolding decoded_trees
trees_grey qp [] trees d blank grey = grey
trees_grey qp (site ∷ here) [] d blank grey = grey
trees_grey qp (site ∷ here) (tree ∷ trees) d blank grey =
    let parts = and_parts (is_blank_tree tree) (list_all is_blank_tree trees) blank in
    then_grey (decoded_trees qp here trees)
    (decoded_tree qp greatest_size (ctb_side * ctb_column site) (ctb_side * ctb_row site) tree d)
    (tree_grey qp greatest_size _ _ tree d parts.0 grey)
    (λ e now. trees_grey qp here trees e parts.1 now)

sample_is : (p : Option ℕ) → is_some p ≡ true → IsGrey p → sample_of p ≡ 128
sample_is None there grey = absurd cc
sample_is (Some sample) there grey = grey

plane_is : (width height : ℕ) (samples : Component) →
    ((x y : ℕ) → x < width → y < height → IsDecoded samples x y) → AreGrey samples →
    plane_of_component width height samples ≡ filled_plane width height 128
plane_is width height samples there grey =
    ap (λ rows. plane_by_rows width height (concat rows))
    (tabulate-same height _ _ (λ y high. tabulate-same width (λ x. sample_of (samples x y)) _
    (λ x wide. sample_is (samples x y) (there x y wide high) (grey x y))))

pub blank_pictures_are_grey : BlankPicturesAreGrey
unfolding unfiltered
blank_pictures_are_grey width height qp count references trees valid blank =
    let all = every_sample I width height qp count references trees tt valid in
    let behind : AllGrey all.0 =
    subst GreyBehind all.1
    (trees_grey qp (sites width height) trees (nothing_decoded references) blank
    (record { luma = λ x y. tt; cb = λ x y. tt; cr = λ x y. tt })) in
    let luma = plane_is width height all.0.luma all.2.luma behind.luma in
    let cb = plane_is (width / 2) (height / 2) all.0.cb all.2.cb behind.cb in
    let cr = plane_is (width / 2) (height / 2) all.0.cr all.2.cr behind.cr in
    ap (option_map (picture_of width height)) all.1 ∙
    (λ i. Some (record { luma = luma i; cb = cb i; cr = cr i }))
