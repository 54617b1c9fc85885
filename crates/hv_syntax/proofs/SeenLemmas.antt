-- What is seen beside a node (6.4.1), by the units of the blocks.
use Rattle.std.proofs.Common.{◌≡◌, ℕ, ◌+◌, ◌-◌, ◌<◌, ◌≤◌, true, false, cond, nat_eq, List, refl, sym, ◌∙◌, arith}
use Rattle.std.specs.Prelude.{slice_get, Some}
use Rattle.std.proofs.lemmas.Bool.Decides.{nat_tests}
use Rattle.hv_lemmas.proofs.ComparisonLemmas.{lt_below, lt_not_below}
use Rattle.hv_plan.specs.declared.prediction.Unit.{Unit}
use Rattle.hv_tree_model.specs.Trees.{Motion, Intra, Inter, TransformUnit, depth_of}
use Rattle.hv_tree_model.specs.Sites.{address_of, column_of, row_of}
use Rattle.hv_tree_model.specs.EarlierUnits.{Square, Unavailable, Surroundings, lies_deeper, split_ctxInc}
use Rattle.hv_tree_model.specs.MostProbableModes.{candModeList, candidates, candIntraPredMode, dc}
use Rattle.hv_tree_model.specs.Plans.{coded_square}
use Rattle.hv_unit_model.specs.Bins.{predicted_bins}
use Rattle.hv_syntax.specs.Parts.{intra_bins, inter_bins}
use Rattle.hv_syntax.specs.declared.block.Block.{Block}
use Rattle.hv_syntax.specs.Blocks.{side_square, seen_left, seen_above, Reached}

above_none : (n m : ℕ) → n ≡ m → 0 < n → nat_eq m 0 ≡ false
above_none n m e h = grind (arith, nat_tests)

is_none : (n m : ℕ) → n ≡ m → n ≤ 0 → nat_eq m 0 ≡ true
is_none n m e h = grind (arith, nat_tests)

-- ---- at the left
pub own_left : (b : Block) (address column row a : ℕ) (u : Unit) → column ≡ column_of address →
    row ≡ row_of address → 0 < column → a ≡ address_of (column - 1) row →
    slice_get b.plan.units.now a ≡ Some u → coded_square u ≡ seen_left b address
unfolding seen_left
own_left b address column row a u e f h k g =
    rw (above_none column (column_of address) e h) (rw (sym e, sym f, sym k) (rw g refl))

pub side_left : (b : Block) (address column row : ℕ) (x : Square) → column ≡ column_of address →
    row ≡ row_of address → column ≤ 0 → 0 < b.site.column → x ≡ side_square b.beside.left row →
    x ≡ seen_left b address
unfolding seen_left
side_left b address column row x e f h k g =
    rw (is_none column (column_of address) e h) (rw (lt_below 0 b.site.column k) (g ∙ rw f refl))

pub none_left : (b : Block) (address column : ℕ) → column ≡ column_of address → column ≤ 0 →
    b.site.column ≤ 0 → Unavailable ≡ seen_left b address
unfolding seen_left
none_left b address column e h k =
    rw (is_none column (column_of address) e h) (rw (lt_not_below 0 b.site.column k) refl)

-- ---- above
pub own_above : (b : Block) (address column row a : ℕ) (u : Unit) → column ≡ column_of address →
    row ≡ row_of address → 0 < row → a ≡ address_of column (row - 1) →
    slice_get b.plan.units.now a ≡ Some u → coded_square u ≡ seen_above b address
unfolding seen_above
own_above b address column row a u e f h k g =
    rw (above_none row (row_of address) f h) (rw (sym e, sym f, sym k) (rw g refl))

pub side_above : (b : Block) (address column row : ℕ) (x : Square) → column ≡ column_of address →
    row ≡ row_of address → row ≤ 0 → 0 < b.site.row → x ≡ side_square b.beside.above column →
    x ≡ seen_above b address
unfolding seen_above
side_above b address column row x e f h k g =
    rw (is_none row (row_of address) f h) (rw (lt_below 0 b.site.row k) (g ∙ rw e refl))

pub none_above : (b : Block) (address row : ℕ) → row ≡ row_of address → row ≤ 0 →
    b.site.row ≤ 0 → Unavailable ≡ seen_above b address
unfolding seen_above
none_above b address row f h k =
    rw (is_none row (row_of address) f h) (rw (lt_not_below 0 b.site.row k) refl)

-- ---- contexts and candidates
pub context_seen : (b : Block) (s : Surroundings) (size address : ℕ) (earlier : List Square) →
    address < 64 → Reached b s address earlier →
    lies_deeper (depth_of size) (seen_left b address) +
    lies_deeper (depth_of size) (seen_above b address) ≡ split_ctxInc s size address earlier
context_seen b s size address earlier h r =
    rw (r.sees.left address earlier h r.shows r.inside, r.sees.above address earlier h r.shows r.inside)
    refl

pub candidates_seen : (b : Block) (s : Surroundings) (address : ℕ) (earlier : List Square) →
    address < 64 → Reached b s address earlier →
    candModeList (candIntraPredMode (seen_left b address))
    (cond (nat_eq (row_of address) 0) dc (candIntraPredMode (seen_above b address))) ≡
    candidates s address earlier
candidates_seen b s address earlier h r =
    rw (r.sees.left address earlier h r.shows r.inside, r.sees.above address earlier h r.shows r.inside)
    refl

-- ---- what follows pred_mode_flag
pub predicted_intra : (s : Surroundings) (size address : ℕ) (earlier : List Square) (mode : ℕ)
    (units : List TransformUnit) (list : List ℕ) → list ≡ candidates s address earlier →
    intra_bins size list mode units ≡ predicted_bins s size address earlier (Intra mode) units
unfolding intra_bins predicted_bins
predicted_intra s size address earlier mode units list e = rw e refl

pub predicted_inter : (s : Surroundings) (size address : ℕ) (earlier : List Square) (motion : Motion)
    (units : List TransformUnit) (references n : ℕ) → s.references ≡ references → size ≡ n →
    inter_bins references n motion units ≡ predicted_bins s size address earlier (Inter motion) units
unfolding inter_bins predicted_bins
predicted_inter s size address earlier motion units references n e f = rw (e, f) refl
