-- What is put of the nodes of a quadtree (7.3.8.4).
use Rattle.std.proofs.Common.{◌≡◌, ℕ, zero, suc, ◌+◌, ◌-◌, ◌*◌, true, false, List, [], ◌++◌, refl, ap, sym, ◌∙◌, subst, arith}
use Rattle.std.specs.Prelude.{slice_get, Some}
use Rattle.hv_plan.specs.declared.prediction.Unit.{Unit}
use Rattle.hv_tables.specs.declared.bins.SliceKind.{SliceKind}
use Rattle.hv_residual_model.specs.UnitBins.{UnitBin, PutsUnit}
use Rattle.hv_residual.proofs.PuttingLemmas.{Stands, puts_none}
use Rattle.hv_tree_model.specs.Trees.{Prediction, TransformUnit, Tree, Leaf, Split, Outside}
use Rattle.hv_tree_model.specs.Sites.{squares, is_outside}
use Rattle.hv_tree_model.specs.EarlierUnits.{Square, Surroundings, after}
use Rattle.hv_tree_model.specs.Plans.{leaf_of}
use Rattle.hv_unit_model.specs.Bins.{split_bins, pred_mode_bins, predicted_bins, bins_of_node}
use Rattle.hv_syntax.specs.declared.block.Block.{Block}
use Rattle.hv_syntax.specs.Blocks.{plan_of, place_of, node_of, Sees, Reached, ends}
use Rattle.hv_near.specs.Squares.{Shows, NamesNode}
use Rattle.hv_syntax.proofs.ChainLemmas.{puts_3, puts_5}
use Rattle.hv_syntax.proofs.NodeLemmas.{outside_tree, leaf_tree, split_tree, size_of_split, shows_after, names_parts}

pub leaf_parts : (s : Surroundings) (size address : ℕ) (earlier : List Square) (p : Prediction)
    (units : List TransformUnit) →
    split_bins s size address earlier false ++ (pred_mode_bins s.slice_type p ++
    predicted_bins s size address earlier p units) ≡
    bins_of_node s size address earlier (Leaf p units)
unfolding bins_of_node
leaf_parts s zero address earlier p units = refl
leaf_parts s (suc size) address earlier p units = refl

pub puts_leaf : {S : Type 0} (stands : Stands S) (a b c d : S) (s : Surroundings)
    (size address : ℕ) (earlier : List Square) (p : Prediction) (units levels : List TransformUnit)
    (kind : SliceKind) → levels ≡ units → s.slice_type ≡ kind →
    PutsUnit stands a b (split_bins s size address earlier false) →
    PutsUnit stands b c (pred_mode_bins kind p) →
    PutsUnit stands c d (predicted_bins s size address earlier p levels) →
    PutsUnit stands a d (bins_of_node s size address earlier (Leaf p units))
puts_leaf stands a b c d s size address earlier p units levels kind e f p1 p2 p3 =
    subst (λ (l : List UnitBin). PutsUnit stands a d l) (leaf_parts s size address earlier p units)
    (puts_3 stands a b c d (split_bins s size address earlier false) (pred_mode_bins s.slice_type p)
    (predicted_bins s size address earlier p units) p1
    (subst (λ (k : SliceKind). PutsUnit stands b c (pred_mode_bins k p)) (sym f) p2)
    (subst (λ (l : List TransformUnit). PutsUnit stands c d
    (predicted_bins s size address earlier p l)) e p3))

split_parts : (s : Surroundings) (size address : ℕ) (earlier : List Square) (a b c d : Tree) →
    split_bins s (suc size) address earlier true ++
    (bins_of_node s size address earlier a ++
    (bins_of_node s size (address + squares size) (after size earlier a) b ++
    (bins_of_node s size (address + 2 * squares size) (after size (after size earlier a) b) c ++
    bins_of_node s size (address + 3 * squares size)
    (after size (after size (after size earlier a) b) c) d))) ≡
    bins_of_node s (suc size) address earlier (Split a b c d)
unfolding bins_of_node
split_parts s size address earlier a b c d = refl

abbrev PutsSplit : {S : Type 0} → Stands S → (a0 a1 a2 a3 a4 a5 : S) → Block → Surroundings →
    (below step address : ℕ) → List Square → Unit → ℕ → Type 0
PutsSplit stands a0 a1 a2 a3 a4 a5 b s below step address earlier u size =
    step ≡ squares below → is_outside (place_of b) address ≡ false →
    slice_get b.plan.units.now address ≡ Some u → ends size u.depth ≡ false →
    NamesNode (place_of b) (plan_of b) size address → Sees b s → Shows (place_of b) (plan_of b) address earlier →
    (Reached b s address earlier →
    PutsUnit stands a0 a1 (split_bins s size address earlier true)) →
    ((e : List Square) → Shows (place_of b) (plan_of b) address e →
    PutsUnit stands a1 a2 (bins_of_node s below address e (node_of b below address))) →
    ((e : List Square) → Shows (place_of b) (plan_of b) (address + step) e → PutsUnit stands a2 a3
    (bins_of_node s below (address + step) e (node_of b below (address + step)))) →
    ((e : List Square) → Shows (place_of b) (plan_of b) (address + 2 * step) e → PutsUnit stands a3 a4
    (bins_of_node s below (address + 2 * step) e (node_of b below (address + 2 * step)))) →
    ((e : List Square) → Shows (place_of b) (plan_of b) (address + 3 * step) e → PutsUnit stands a4 a5
    (bins_of_node s below (address + 3 * step) e (node_of b below (address + 3 * step)))) →
    PutsUnit stands a0 a5 (bins_of_node s size address earlier (node_of b size address))

puts_split_of : {S : Type 0} (stands : Stands S) (a0 a1 a2 a3 a4 a5 : S) (b : Block)
    (s : Surroundings) (size step address : ℕ) (earlier : List Square) (u : Unit) →
    PutsSplit stands a0 a1 a2 a3 a4 a5 b s size step address earlier u (suc size)
puts_split_of {S} stands a0 a1 a2 a3 a4 a5 b s size step address earlier u is_step inside at split names sees shows
    p0 p1 p2 p3 p4 =
    let n : ℕ = squares size in
    let parts = names_parts (place_of b) (plan_of b) size address u inside at split names in
    let t : ℕ → Tree = node_of b size in
    let e1 : List Square = after size earlier (t address) in
    let e2 : List Square = after size e1 (t (address + n)) in
    let e3 : List Square = after size e2 (t (address + 2 * n)) in
    let s1 : Shows (place_of b) (plan_of b) (address + n) e1 = shows_after b size address earlier shows parts.first in
    let s2 : Shows (place_of b) (plan_of b) (address + n + n) e2 = shows_after b size (address + n) e1 s1 parts.second in
    let two : address + n + n ≡ address + 2 * n = omega arith in
    let s2 : Shows (place_of b) (plan_of b) (address + 2 * n) e2 = subst (λ (a : ℕ). Shows (place_of b) (plan_of b) a e2) two s2 in
    let s3 : Shows (place_of b) (plan_of b) (address + 2 * n + n) e3 =
    shows_after b size (address + 2 * n) e2 s2 parts.third in
    let three : address + 2 * n + n ≡ address + 3 * n = omega arith in
    let s3 : Shows (place_of b) (plan_of b) (address + 3 * n) e3 = subst (λ (a : ℕ). Shows (place_of b) (plan_of b) a e3) three s3 in
    let put : S → S → ℕ → Type 0 = λ x y a. (e : List Square) → Shows (place_of b) (plan_of b) a e →
    PutsUnit stands x y (bins_of_node s size a e (t a)) in
    let q2 : put a2 a3 (address + n) =
    subst (λ (m : ℕ). put a2 a3 (address + m)) is_step p2 in
    let q3 : put a3 a4 (address + 2 * n) =
    subst (λ (m : ℕ). put a3 a4 (address + 2 * m)) is_step p3 in
    let q4 : put a4 a5 (address + 3 * n) =
    subst (λ (m : ℕ). put a4 a5 (address + 3 * m)) is_step p4 in
    let reached : Reached b s address earlier =
    record { sees = sees; shows = shows; inside = inside } in
    let is_tree : Split (t address) (t (address + n)) (t (address + 2 * n)) (t (address + 3 * n)) ≡
    node_of b (suc size) address =
    sym (split_tree (place_of b) (plan_of b) size address u inside at split) in
    subst (λ (x : Tree). PutsUnit stands a0 a5 (bins_of_node s (suc size) address earlier x)) is_tree
    (subst (λ (l : List UnitBin). PutsUnit stands a0 a5 l)
    (split_parts s size address earlier (t address) (t (address + n)) (t (address + 2 * n))
    (t (address + 3 * n)))
    (puts_5 stands a0 a1 a2 a3 a4 a5 (split_bins s (suc size) address earlier true)
    (bins_of_node s size address earlier (t address))
    (bins_of_node s size (address + n) e1 (t (address + n)))
    (bins_of_node s size (address + 2 * n) e2 (t (address + 2 * n)))
    (bins_of_node s size (address + 3 * n) e3 (t (address + 3 * n)))
    (p0 reached) (p1 earlier shows) (q2 e1 s1) (q3 e2 s2) (q4 e3 s3)))

pub puts_split : {S : Type 0} (stands : Stands S) (a0 a1 a2 a3 a4 a5 : S) (b : Block)
    (s : Surroundings) (size step address : ℕ) (earlier : List Square) (u : Unit) →
    PutsSplit stands a0 a1 a2 a3 a4 a5 b s (size - 1) step address earlier u size
puts_split stands a0 a1 a2 a3 a4 a5 b s size step address earlier u is_step inside at split =
    subst (λ (n : ℕ). PutsSplit stands a0 a1 a2 a3 a4 a5 b s (size - 1) step address earlier u n)
    (sym (size_of_split size u.depth split))
    (puts_split_of stands a0 a1 a2 a3 a4 a5 b s (size - 1) step address earlier u) is_step inside
    at split

-- ---- nodes that aren't split
pub no_bins : (s : Surroundings) (size address : ℕ) (earlier : List Square) →
    bins_of_node s size address earlier Outside ≡ []
unfolding bins_of_node
no_bins s zero address earlier = refl
no_bins s (suc size) address earlier = refl

pub puts_outside : {S : Type 0} (stands : Stands S) (a : S) (b : Block) (s : Surroundings)
    (size address : ℕ) (earlier : List Square) → is_outside (place_of b) address ≡ true →
    PutsUnit stands a a (bins_of_node s size address earlier (node_of b size address))
puts_outside stands a b s size address earlier e =
    puts_none stands a _
    (ap (bins_of_node s size address earlier) (outside_tree (place_of b) (plan_of b) size address e) ∙
    no_bins s size address earlier)

pub puts_node_of_leaf : {S : Type 0} (stands : Stands S) (a c : S) (b : Block) (s : Surroundings)
    (size address : ℕ) (earlier : List Square) (u : Unit) →
    is_outside (place_of b) address ≡ false → slice_get b.plan.units.now address ≡ Some u →
    ends size u.depth ≡ true →
    PutsUnit stands a c (bins_of_node s size address earlier (leaf_of (plan_of b) size address u.pred)) →
    PutsUnit stands a c (bins_of_node s size address earlier (node_of b size address))
puts_node_of_leaf stands a c b s size address earlier u h g e p =
    subst (λ (t : Tree). PutsUnit stands a c (bins_of_node s size address earlier t))
    (sym (leaf_tree (place_of b) (plan_of b) size address u h g e)) p
