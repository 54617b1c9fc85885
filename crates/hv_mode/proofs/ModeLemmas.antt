-- The luma mode that is chosen by a block of samples is one of the 35, and it is that of the
-- definition wherever the block may stand.
use Rattle.std.proofs.Common.{◌≡◌, ℕ, zero, suc, ◌+◌, ◌*◌, ◌^◌, ◌<◌, ◌≤◌, Bool, true, false, cond, List, [], ◌∷◌, ◌%◌, sym, ap, subst, ◌∙◌, arith, inl, inr}
use Rattle.std.specs.Prelude.{nat_lt}
use Rattle.std.proofs.lemmas.Bool.{cases_lt}
use Rattle.std.proofs.Math.Dec.{lit≤}
use Rattle.hv_lemmas.specs.Lists.{tabulate}
use Rattle.hv_sample_model.specs.IntraPrediction.{substituted}
use Rattle.hv_block.specs.declared.block.Block.{Block}
use Rattle.hv_tree_model.specs.Trees.{log2TrafoSize}
use Rattle.hv_tree_model.specs.Sites.{Site, squares, column_of, row_of, x0, y0}
use Rattle.hv_tree_model.specs.MostProbableModes.{planar, candidates}
use Rattle.hv_recon_model.specs.Reconstruction.{square_at, neighbours}
use Rattle.hv_recon_model.specs.SeenSamples.{luma_spot, seen_line}
use Rattle.hv_recon_model.proofs.SeenLemmas.{FitsIn, neighbours_seen}
use Rattle.hv_recon.specs.Coding.{input_block}
use Rattle.hv_recon.specs.DecodedNodes.{IsNodeOfBlock}
use Rattle.hv_recon.specs.Leaves.{luma_around}
use Rattle.hv_recon.proofs.UnitLemmas.{unit_ends, UnitInPicture}
use Rattle.hv_recon_model.proofs.SeenNodeLemmas.{power_luma}
use Rattle.hv_filter_model.specs.Costs.{cheaper, first_least}
use Rattle.hv_mode_model.specs.ModeDecision.{Before, further_modes, luma_mode}
use Rattle.hv_mode.specs.declared.task.Task.{Task}
use Rattle.hv_mode.specs.LumaModes.{mode_score, mode_of_block}
use Rattle.hv_mode.specs.Nodes.{given_of, Stands}
use Rattle.hv_mode.proofs.ScoreLemmas.{modes_of_blocks}

-- ---- it is one of the 35

abbrev AreModes : List ℕ → Type 0
AreModes [] = Unit {0}
AreModes (mode ∷ modes) = (mode ≤ 34) × AreModes modes

tabulated : (n : ℕ) (f : ℕ → ℕ) → ((i : ℕ) → i < n → f i ≤ 34) → AreModes (tabulate n f)
unfolding tabulate
tabulated zero f few = tt
tabulated (suc n) f few = (
  few 0 (omega arith),
  tabulated n (λ i. f (suc i)) (λ i below. few (suc i) (omega (arith, below))),
)

one_of : (test : Bool) (a b : ℕ) → a ≤ 34 → b ≤ 34 → cond test a b ≤ 34
one_of true a b few small = few
one_of false a b few small = small

least_of_modes : (f : ℕ → ℕ) (mode : ℕ) (modes : List ℕ) → mode ≤ 34 → AreModes modes →
    first_least f mode modes ≤ 34
least_of_modes f mode [] first rest = first
least_of_modes f mode (next ∷ modes) first rest =
    least_of_modes f (cheaper f mode next) modes
    (one_of (nat_lt (f next) (f mode)) next mode rest.0 first) rest.1

further : (test : Bool) →
    AreModes (cond test (1 ∷ 10 ∷ 26 ∷ []) (tabulate 34 (λ mode. mode + 1)))
further true = (lit≤ tt, (lit≤ tt, (lit≤ tt, tt)))
further false = tabulated 34 (λ mode. mode + 1) (λ i below. omega (arith, below))

pub mode_most : (log2 qp effort : ℕ) (list samples line : List ℕ) →
    mode_of_block log2 qp effort list samples line ≤ 34
mode_most log2 qp effort list samples line =
    least_of_modes (mode_score log2 qp list samples line) planar (further_modes effort) (lit≤ tt)
    (further (nat_lt effort 2))

-- ---- it is that of the definition

pub mode_is : (t : Task) (out : Block) (size address log2 : ℕ) (before : Before) →
    log2 ≡ log2TrafoSize size →
    FitsIn 64 (8 * column_of address) (8 * row_of address) log2 →
    Stands t out address before →
    mode_of_block log2 t.qp t.effort
    (candidates (given_of t).surroundings address before.earlier)
    (input_block t.input.now.luma (x0 t.place address) (y0 t.place address) log2)
    (substituted (seen_line (luma_spot t.place) (luma_around t.near.now) out.samples.luma address
    (8 * column_of address) (8 * row_of address) log2)) ≡
    luma_mode (given_of t) size address before
mode_is t out size address log2 before here fits stands =
    ap (λ line. mode_of_block log2 t.qp t.effort
    (candidates (given_of t).surroundings address before.earlier)
    (input_block t.input.now.luma (x0 t.place address) (y0 t.place address) log2)
    (substituted line))
    (sym (neighbours_seen (luma_spot t.place) (luma_around t.near.now) out.samples.luma address
    before.decoded.luma (8 * column_of address) (8 * row_of address) log2 fits
    stands.decoded.luma)) ∙
    (λ i. mode_of_block (here i) t.qp t.effort
    (candidates (given_of t).surroundings address before.earlier)
    (input_block t.input.now.luma (x0 t.place address) (y0 t.place address) (here i))
    (substituted (neighbours before.decoded.luma
    (square_at (x0 t.place address) (y0 t.place address) (here i))))) ∙
    sym (modes_of_blocks (given_of t) size address before)

-- ---- where the first transform block ends

pub record FirstEnds (place : Site) (address log2 : ℕ) : Type 0 where
  pub across : 8 * column_of address + 2 ^ log2 ≤ 64
  pub down : 8 * row_of address + 2 ^ log2 ≤ 64
  pub right : x0 place address + 2 ^ log2 ≤ place.width
  pub bottom : y0 place address + 2 ^ log2 ≤ place.height

small_ends : (place : Site) (size address : ℕ) → size ≤ 2 → address < 64 →
    address % squares size ≡ 0 → UnitInPicture place size address →
    FirstEnds place address (size + 3)
small_ends place size address few below even inside =
    let e = unit_ends size address few below even in
    let power = power_luma size in
    record {
      across = e.right;
      down = e.bottom;
      right = omega (arith, inside.across, power);
      bottom = omega (arith, inside.down, power);
    }

great_ends : (place : Site) → UnitInPicture place 3 0 → FirstEnds place 0 5
unfolding column_of row_of
great_ends place inside = record {
  across = omega arith;
  down = omega arith;
  right = omega (arith, inside.across);
  bottom = omega (arith, inside.down);
}

pub first_ends : (place : Site) (size address log2 : ℕ) → log2 ≡ log2TrafoSize size →
    IsNodeOfBlock size address → UnitInPicture place size address →
    FirstEnds place address log2
first_ends place size address log2 here node inside = elim (cases_lt size 3) [
  | inl small ↦
      let same : log2 ≡ size + 3 = omega (arith, here, small) in
      subst (FirstEnds place address) (sym same)
      (small_ends place size address (omega (arith, small)) node.inside node.multiple inside)
  | inr great ↦
      let three : size ≡ 3 = omega (arith, great, node.size_at_most) in
      let even : address % 64 ≡ 0 = subst (λ n. address % squares n ≡ 0) three node.multiple in
      let first : address ≡ 0 = omega (arith, even, node.inside) in
      let five : log2 ≡ 5 = omega (arith, here, three) in
      subst (FirstEnds place address) (sym five)
      (subst (λ a. FirstEnds place a 5) (sym first)
      (great_ends place
      (subst (λ n. UnitInPicture place n 0) three
      (subst (λ a. UnitInPicture place size a) first inside))))
]

pub first_fits : (place : Site) (address log2 : ℕ) → 1 ≤ 2 ^ log2 → FirstEnds place address log2 →
    FitsIn 64 (8 * column_of address) (8 * row_of address) log2
first_fits place address log2 some ends =
    record { some = some; across = ends.across; down = ends.down }
