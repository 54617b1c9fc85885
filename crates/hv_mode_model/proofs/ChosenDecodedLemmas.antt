-- What is chosen decodes to the samples that the choice reached: units name reference pictures that
-- are there.
use Rattle.std.proofs.Common.{◌≡◌, ℕ, zero, suc, ◌+◌, ◌*◌, ◌<◌, ◌≤◌, true, false, List, [], ◌∷◌, length, refl, sym, ap, ap₂, subst, ◌∙◌, arith}
use Rattle.std.specs.Prelude.{min, Option, Some, option_and_then}
use Rattle.std.proofs.lemmas.Bool.Decides.{nat_tests}
use Rattle.hv_lemmas.proofs.OptionLemmas.{some_same}
use Rattle.hv_tables.specs.declared.bins.SliceKind.TheVariants.{P}
use Rattle.hv_tables.specs.Quantisers.{chroma_qp}
use Rattle.hv_types.specs.declared.picture.Picture.{Picture}
use Rattle.hv_tree_model.specs.Trees.{Prediction, Intra, Inter, TransformUnit, Tree, Leaf, Split, Outside, side, greatest_size}
use Rattle.hv_tree_model.specs.Sites.{Site, x0, y0, ctb_side, ctb_column, ctb_row, squares, sites, column_of, row_of}
use Rattle.hv_tree_model.specs.EarlierUnits.{after}
use Rattle.hv_tree_model.specs.Validity.{IsPrediction, IsValidNode}
use Rattle.hv_recon_model.specs.Reconstruction.{Decoded, nothing_decoded, Square, square_at, chroma_of, quarter, all_decoded, decoded_unit, decoded_quarters, decoded_units, decoded_tree, decoded_trees}
use Rattle.hv_recon_model.specs.ReconstructionLaws.{AreDecoded}
use Rattle.hv_recon_model.proofs.DecodedLemmas.{IsFound, block_found}
use Rattle.hv_recon_model.proofs.PictureLemmas.{every_sample}
use Rattle.hv_mode_model.specs.ModeDecision.{Given, or_else, given_at, decoded_behind, best, best_tree, best_trees, best_decoded}
use Rattle.hv_mode_model.specs.ModeLaws.{ChosenNodesAreDecoded, ChosenTreesAreDecoded, EveryChosenSampleIsDecoded}
use Rattle.hv_mode_model.proofs.ValidChoiceLemmas.{MayBeNamed, valid_best, valid_trees_in}

-- ---- trees whose units find their reference pictures decode, and keep them

abbrev IsThere : List Picture → Option Decoded → Type 0
IsThere pictures result = (e : Decoded) × (result ≡ Some e) × (e.references ≡ pictures)

unit_decodes : (qp : ℕ) (p : Prediction) (s : Square) (t : TransformUnit) (d : Decoded) →
    IsFound p d.references → IsThere d.references (decoded_unit qp p s t d)
unit_decodes qp p s t d found =
    let under : Square = chroma_of s in
    let luma = block_found p true qp (λ p. p.luma) d.references s t.luma d.luma found in
    let cb = block_found p false (chroma_qp qp) (λ p. p.cb) d.references under t.cb d.cb found in
    let cr = block_found p false (chroma_qp qp) (λ p. p.cr) d.references under t.cr d.cr found in
    (_, (λ i. all_decoded d.references (luma.1 i) (cb.1 i) (cr.1 i)), refl)

quarters_decode : (qp : ℕ) (p : Prediction) (s : Square) (i : ℕ) (units : List TransformUnit)
    (d : Decoded) → IsFound p d.references →
    IsThere d.references (decoded_quarters qp p s i units d)
quarters_decode qp p s i [] d found = (d, refl, refl)
quarters_decode qp p s i (t ∷ units) d found =
    let one = unit_decodes qp p (quarter s i) t d found in
    let rest =
    quarters_decode qp p s (suc i) units one.0 (subst (IsFound p) (sym one.2) found) in (
      rest.0,
      ap (option_and_then (decoded_quarters qp p s (suc i) units)) one.1 ∙ rest.1,
      rest.2 ∙ one.2,
    )

units_decode : (qp : ℕ) (p : Prediction) (s : Square) (units : List TransformUnit) (d : Decoded) →
    IsFound p d.references → IsThere d.references (decoded_units qp p s units d)
units_decode qp p s [] d found = (d, refl, refl)
units_decode qp p s (t ∷ []) d found = unit_decodes qp p s t d found
units_decode qp p s (t ∷ u ∷ units) d found =
    quarters_decode qp p s 0 (t ∷ u ∷ units) d found

its_picture : (count : ℕ) (pictures : List Picture) (p : Prediction) →
    count ≤ length pictures → IsPrediction P count p → IsFound p pictures
its_picture count pictures (Intra mode) there valid = tt
its_picture count pictures (Inter motion) there valid = omega (arith, there, valid.reference)

module _ (qp count : ℕ) (site : Site) where
  tree_decodes : (size address : ℕ) (tree : Tree) → IsValidNode P count site size address tree →
      (x y : ℕ) (d : Decoded) → count ≤ length d.references →
      IsThere d.references (decoded_tree qp size x y tree d)
  unfolding decoded_tree IsValidNode
  tree_decodes zero address Outside valid x y d there = (d, refl, refl)
  tree_decodes (suc size) address Outside valid x y d there = (d, refl, refl)
  tree_decodes zero address (Leaf p units) valid x y d there =
      units_decode qp p (square_at x y (zero + 3)) units d
      (its_picture count d.references p there valid.2)
  tree_decodes (suc size) address (Leaf p units) valid x y d there =
      units_decode qp p (square_at x y (suc size + 3)) units d
      (its_picture count d.references p there valid.2)
  tree_decodes zero address (Split a b c e) valid x y d there = absurd valid
  tree_decodes (suc size) address (Split a b c e) valid x y d there =
      let half = side size in
      let n = squares size in
      let first = tree_decodes size address a valid.1 x y d there in
      let has_1 = ap length first.2 in
      let second =
      tree_decodes size (address + n) b valid.2 (x + half) y first.0 (omega (arith, there, has_1))
      in
      let has_2 = ap length second.2 in
      let third =
      tree_decodes size (address + 2 * n) c valid.3 x (y + half) second.0
      (omega (arith, there, has_1, has_2)) in
      let has_3 = ap length third.2 in
      let fourth =
      tree_decodes size (address + 3 * n) e valid.4 (x + half) (y + half) third.0
      (omega (arith, there, has_1, has_2, has_3)) in (
        fourth.0,
        ap (option_and_then (decoded_tree qp size (x + half) (y + half) e))
            (ap (option_and_then (decoded_tree qp size x (y + half) c))
            (ap (option_and_then (decoded_tree qp size (x + half) y b)) first.1 ∙ second.1) ∙
            third.1) ∙
            fourth.1,
        fourth.2 ∙ third.2 ∙ second.2 ∙ first.2,
      )

-- ---- what is chosen decodes

its_own : (d : Decoded) (pictures : List Picture) (result : Option Decoded) →
    IsThere pictures result → result ≡ Some (or_else d result)
its_own d pictures result there = there.1 ∙ sym (ap (λ r. Some (or_else d r)) there.1)

-- units name the pictures that are there, of the first two
abbrev found_among : List Picture → ℕ
found_among pictures = min 2 (length pictures)

names_found : (g : Given) (pictures : List Picture) →
    MayBeNamed P (found_among pictures) g pictures
names_found g pictures before entry least has named =
    let there : entry < length before.decoded.references = grind (arith, nat_tests, named) in
    let same = ap length has in record {
      kind = refl;
      most = omega arith;
      below = omega (arith, least, there, same);
    }

pub decoded_node : ChosenNodesAreDecoded
decoded_node g size address before few =
    let pictures : List Picture = before.decoded.references in
    its_own before.decoded pictures _
    (tree_decodes g.qp (found_among pictures) g.surroundings.site size address
    (best g size address before)
    (valid_best P (found_among pictures) g pictures (names_found g pictures) size address before few
    refl)
    _ _ before.decoded (omega arith))

pub corner_x : (site : Site) → x0 site 0 ≡ ctb_side * ctb_column site
unfolding column_of
corner_x site = omega arith

pub corner_y : (site : Site) → y0 site 0 ≡ ctb_side * ctb_row site
unfolding row_of
corner_y site = omega arith

pub decoded_all : ChosenTreesAreDecoded
unfolding decoded_trees best_trees best_decoded
decoded_all task [] done d = refl
decoded_all task (site ∷ sites) done d =
    let g : Given = given_at task site done in
    let tree : Tree = best_tree task site done d in
    let e : Decoded = decoded_behind g greatest_size 0 tree d in
    let later : List Tree = best_trees task sites (after greatest_size done tree) e in
    let one : decoded_tree task.qp greatest_size (x0 site 0) (y0 site 0) tree d ≡ Some e =
    decoded_node g greatest_size 0 _ (omega arith) in
    ap (option_and_then (decoded_trees task.qp sites later))
    (ap₂ (λ x y. decoded_tree task.qp greatest_size x y tree d) (sym (corner_x site))
    (sym (corner_y site)) ∙
    one) ∙
    decoded_all task sites (after greatest_size done tree) e

pub every_chosen : EveryChosenSampleIsDecoded
every_chosen task references width height =
    let none : Decoded = nothing_decoded references in
    let trees : List Tree = best_trees task (sites width height) [] none in
    let count : ℕ = found_among references in
    let all = every_sample P width height task.qp count references trees (omega arith)
    (valid_trees_in P count task references
    (λ site done. names_found (given_at task site done) references) (sites width height) [] none
    refl) in
    let reached : Decoded = best_decoded task (sites width height) [] none in
    let same : all.0 ≡ reached =
    some_same all.0 reached (sym all.1 ∙ decoded_all task (sites width height) [] none) in
    subst (AreDecoded width height) same all.2
