-- How many bins the nodes of a quadtree have (7.3.8.4): a number stands for as many bins, so what is
-- put into it counts them.
use Rattle.std.proofs.Common.{◌≡◌, ℕ, ◌+◌, true, false, List, [], length, length-append, map, refl, sym, ap, ◌∙◌, arith}
use Rattle.std.proofs.lemmas.List.{length-map}
use Rattle.std.specs.Prelude.{slice_get, Some}
use Rattle.hv_plan.specs.declared.prediction.Unit.{Unit}
use Rattle.hv_tables.specs.declared.bins.SliceKind.{SliceKind}
use Rattle.hv_tables.specs.declared.bins.SliceKind.TheVariants.{I}
use Rattle.hv_tables.specs.Bins.{Bin}
use Rattle.hv_residual_model.specs.UnitBins.{UnitBin, PutsUnit, slice_bin}
use Rattle.hv_tree_model.specs.Trees.{Prediction, TransformUnit, Tree, Leaf}
use Rattle.hv_tree_model.specs.Sites.{is_outside}
use Rattle.hv_tree_model.specs.EarlierUnits.{Square, Surroundings}
use Rattle.hv_tree_model.specs.Plans.{leaf_of}
use Rattle.hv_unit_model.specs.Bins.{split_bins, pred_mode_bins, predicted_bins, bins_of_node}
use Rattle.hv_syntax.specs.declared.block.Block.{Block}
use Rattle.hv_syntax.specs.Blocks.{plan_of, place_of, node_of, ends}
use Rattle.hv_syntax.proofs.NodeLemmas.{outside_tree, leaf_tree}
use Rattle.hv_syntax.proofs.QuadtreeLemmas.{puts_leaf, no_bins}

abbrev pub counts : ℕ → SliceKind → ℕ → List Bin → Type 0
counts n kind qp bins = n ≡ length bins

pub puts_count : (a n : ℕ) (xs : List UnitBin) → n ≡ length xs → PutsUnit counts a (a + n) xs
puts_count a n xs e = λ kind qp before h.
    omega (arith, h, e, length-append before (map slice_bin xs), length-map xs slice_bin)

pub count_put : (n : ℕ) (xs : List UnitBin) → PutsUnit counts 0 n xs → n ≡ length xs
count_put n xs p = p I 0 [] refl ∙ length-map xs slice_bin

pub count_leaf_bins : (s : Surroundings) (size address : ℕ) (earlier : List Square) (p : Prediction)
    (units levels : List TransformUnit) (kind : SliceKind) (x y z : ℕ) → levels ≡ units →
    s.slice_type ≡ kind → x ≡ length (split_bins s size address earlier false) →
    y ≡ length (pred_mode_bins kind p) →
    z ≡ length (predicted_bins s size address earlier p levels) →
    x + (y + z) ≡ length (bins_of_node s size address earlier (Leaf p units))
count_leaf_bins s size address earlier p units levels kind x y z e f g h k =
    let total : 0 + x + y + z ≡ length (bins_of_node s size address earlier (Leaf p units)) =
    count_put (0 + x + y + z) (bins_of_node s size address earlier (Leaf p units))
    (puts_leaf counts 0 (0 + x) (0 + x + y) (0 + x + y + z) s size address earlier p units levels
    kind e f (puts_count 0 x (split_bins s size address earlier false) g)
    (puts_count (0 + x) y (pred_mode_bins kind p) h)
    (puts_count (0 + x + y) z (predicted_bins s size address earlier p levels) k)) in
    omega (arith, total)

pub count_outside : (b : Block) (s : Surroundings) (size address : ℕ) (earlier : List Square) →
    is_outside (place_of b) address ≡ true →
    0 ≡ length (bins_of_node s size address earlier (node_of b size address))
count_outside b s size address earlier e =
    sym (ap length (ap (bins_of_node s size address earlier)
    (outside_tree (place_of b) (plan_of b) size address e) ∙ no_bins s size address earlier))

pub count_node_of_leaf : (n : ℕ) (b : Block) (s : Surroundings) (size address : ℕ)
    (earlier : List Square) (u : Unit) → is_outside (place_of b) address ≡ false →
    slice_get b.plan.units.now address ≡ Some u → ends size u.depth ≡ true →
    n ≡ length (bins_of_node s size address earlier (leaf_of (plan_of b) size address u.pred)) →
    n ≡ length (bins_of_node s size address earlier (node_of b size address))
count_node_of_leaf n b s size address earlier u h g e p =
    p ∙ ap (λ (t : Tree). length (bins_of_node s size address earlier t))
    (sym (leaf_tree (place_of b) (plan_of b) size address u h g e))
