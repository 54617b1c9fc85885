-- The samples of a field are those of inter prediction (8.5.3.3.3), and vectors near to its centre
-- show samples that it has.
use Rattle.std.proofs.Common.{◌≡◌, ℕ, zero, suc, ◌+◌, ◌-◌, ◌*◌, ◌/◌, ◌%◌, ◌<◌, ◌≤◌, true, List, length, take, drop, get_or, arith, sym, subst, ap, ap₂, ◌∙◌, ℤ, pos, negsuc, ◌+ℤ◌, ◌-ℤ◌, ◌*ℤ◌, length-drop}
use mathlib.Core.Logic.{⊎_elim}
use Rattle.std.specs.Int.RustNames.{unsigned_abs}
use Rattle.std.proofs.lemmas.Bool.{cases_lt}
use Rattle.std.proofs.lemmas.Int.{ints}
use Rattle.std.proofs.lemmas.List.{get_or-drop}
use Rattle.hv_lemmas.specs.Lists.{tabulate}
use Rattle.hv_types.specs.Samples.{Plane}
use Rattle.hv_types.specs.Windows.{HoldsBlock}
use Rattle.hv_plan.specs.declared.prediction.Mv.{Mv}
use Rattle.hv_kernel.specs.Differences.{sad_of}
use Rattle.hv_kernel.specs.Blocks.{sum_of_rows}
use Rattle.hv_filter_model.specs.Costs.{first_least}
use Rattle.hv_filter_model.proofs.CostLemmas.{first_least_keeps, each_tabulate}
use Rattle.hv_inter_model.specs.Interpolation.{inter_sample, predSampleLX, weighted_sample, whole_part, fraction}
use Rattle.hv_search_model.specs.MotionSearch.{moved, times, Score, least_around}
use Rattle.hv_search_model.specs.MotionLaws.{IsWithin}
use Rattle.hv_search.specs.declared.field.Field.{Field}
use Rattle.hv_search.specs.declared.part.Part.{Part}
use Rattle.hv_interp.specs.Windows.{Shows}
use Rattle.hv_interp.specs.Fractions.{ShowsFractions}
use Rattle.hv_search.specs.Windows.{nearest_sample}
use Rattle.hv_search.specs.Fraction.{around_place}
use Rattle.hv_search.specs.Field.{IsNear, part_score}
use Rattle.hv_search.specs.Plain.{whole_place}
use Rattle.hv_search.proofs.FractionLemmas.{around_1, around_8, sum_is}

-- ---- whole samples and quarters

quarters_ahead : (a n : ℕ) → (pos 4 *ℤ pos a) +ℤ pos n ≡ pos (4 * a + n)
quarters_ahead a n = omega (arith, ints)

quarters_behind : (a n : ℕ) → n < 4 * a + 4 → (pos 4 *ℤ negsuc a) +ℤ pos n ≡ negsuc (4 * a + 3 - n)
quarters_behind a n h = omega (arith, ints, h)

quarters_past : (a n : ℕ) → 4 * a + 4 ≤ n → (pos 4 *ℤ negsuc a) +ℤ pos n ≡ pos (n - (4 * a + 4))
quarters_past a n h = omega (arith, ints, h)

whole_of : (z : ℤ) (n : ℕ) → whole_part true ((pos 4 *ℤ z) +ℤ pos n) ≡ z +ℤ pos (n / 4)
whole_of (pos a) n =
    let e : (4 * a + n) / 4 ≡ a + n / 4 = omega arith in
    ap (whole_part true) (quarters_ahead a n) ∙ ap pos e
whole_of (negsuc a) n =
    ⊎_elim
    (λ less.
    let e : (4 * a + 3 - n) / 4 ≡ a - n / 4 = omega (arith, less) in
    let f : negsuc (a - n / 4) ≡ negsuc a +ℤ pos (n / 4) = omega (arith, ints, less) in
    ap (whole_part true) (quarters_behind a n less) ∙ ap negsuc e ∙ f)
    (λ more.
    let e : (n - (4 * a + 4)) / 4 ≡ n / 4 - (a + 1) = omega (arith, more) in
    let f : pos (n / 4 - (a + 1)) ≡ negsuc a +ℤ pos (n / 4) = omega (arith, ints, more) in
    ap (whole_part true) (quarters_past a n more) ∙ ap pos e ∙ f)
    (cases_lt n (4 * a + 4))

fraction_of : (z : ℤ) (n : ℕ) → fraction true ((pos 4 *ℤ z) +ℤ pos n) ≡ n % 4
fraction_of (pos a) n =
    let e : (4 * a + n) % 4 ≡ n % 4 = omega arith in ap (fraction true) (quarters_ahead a n) ∙ e
fraction_of (negsuc a) n =
    ⊎_elim
    (λ less.
    let e : 3 - (4 * a + 3 - n) % 4 ≡ n % 4 = omega (arith, less) in
    ap (fraction true) (quarters_behind a n less) ∙ e)
    (λ more.
    let e : (n - (4 * a + 4)) % 4 ≡ n % 4 = omega (arith, more) in
    ap (fraction true) (quarters_past a n more) ∙ e)
    (cases_lt n (4 * a + 4))

-- ---- the score of a node

-- the place in a field to which a component leads
leads_to : (x left i n : ℕ) (z : ℤ) →
    (pos x +ℤ z -ℤ pos 9) +ℤ pos (left + n / 4 + i) ≡ pos (x + left + i) +ℤ ((z -ℤ pos 9) +ℤ pos (n / 4))
leads_to x left i n z = omega (arith, ints)

sample_is : (field : Field) (mv : Mv) (right down left top i j : ℕ) →
    mv.x ≡ (pos 4 *ℤ (field.centre.x -ℤ pos 9)) +ℤ pos right → mv.y ≡ (pos 4 *ℤ (field.centre.y -ℤ pos 9)) +ℤ pos down →
    left + right / 4 + i < 96 → top + down / 4 + j < 81 →
    get_or field.samples.now (31104 * (right % 4) + 7776 * (down % 4) + ((top + down / 4 + j) * 96 + (left + right / 4 + i))) 0 ≡
    inter_sample true field.reference.now mv (field.x + left + i) (field.y + top + j)
sample_is field mv right down left top i j across below inside within =
    let p : Plane = field.reference.now in
    let x : ℤ = field.centre.x -ℤ pos 9 in
    let y : ℤ = field.centre.y -ℤ pos 9 in
    field.shows (right % 4) (down % 4) (left + right / 4 + i) (top + down / 4 + j) (omega arith) (omega arith) inside within ∙
    ap₂ (λ a b. weighted_sample (predSampleLX true p a b (right % 4) (down % 4)))
    (leads_to field.x left i right field.centre.x ∙
    ap (λ w. pos (field.x + left + i) +ℤ w) (sym (ap (whole_part true) across ∙ whole_of x right)))
    (leads_to field.y top j down field.centre.y ∙
    ap (λ w. pos (field.y + top + j) +ℤ w) (sym (ap (whole_part true) below ∙ whole_of y down))) ∙
    ap₂ (λ f g. weighted_sample (predSampleLX true p (pos (field.x + left + i) +ℤ whole_part true mv.x)
    (pos (field.y + top + j) +ℤ whole_part true mv.y) f g))
    (sym (ap (fraction true) across ∙ fraction_of x right)) (sym (ap (fraction true) below ∙ fraction_of y down))

pub part_sum_is : (field : Field) (part : Part) (mv : Mv) (right down : ℕ) (first second : List ℕ) (w columns rows stride columns' : ℕ) →
    mv.x ≡ (pos 4 *ℤ (field.centre.x -ℤ pos 9)) +ℤ pos right → mv.y ≡ (pos 4 *ℤ (field.centre.y -ℤ pos 9)) +ℤ pos down →
    right < 72 → down < 72 →
    w ≡ field.input.now.width → columns ≡ part.side → rows ≡ part.side → stride ≡ 96 → columns' ≡ part.side →
    HoldsBlock first w columns rows →
    first ≡ drop ((field.y + part.top) * field.input.now.width + (field.x + part.left)) field.input.now.samples →
    second ≡ drop (31104 * (right % 4) + 7776 * (down % 4) + ((part.top + down / 4) * 96 + (part.left + right / 4))) field.samples.now →
    sum_of_rows (λ j. sad_of (take columns (drop (j * w) first)) (take columns' (drop (j * stride) second))) rows ≡
    part_score field part mv
part_sum_is field part mv right down first second w columns rows stride columns' across below r d wide e f g e' holds is behind =
    sum_is field.input.now (inter_sample true field.reference.now mv) (field.x + part.left) (field.y + part.top) part.side
    first second w columns rows stride columns' wide e f e' holds room is sample
  where
    start : ℕ
    start = 31104 * (right % 4) + 7776 * (down % 4) + ((part.top + down / 4) * 96 + (part.left + right / 4))

    room : (j : ℕ) → j < part.side → j * stride + part.side ≤ length second
    room j low =
        rw (g, behind)
        (omega (arith, length-drop start field.samples.now, field.count, part.across, part.down, r, d, low))

    sample : (i j : ℕ) → i < part.side → j < part.side →
        get_or second (j * stride + i) 0 ≡ inter_sample true field.reference.now mv (field.x + part.left + i) (field.y + part.top + j)
    sample i j near low =
        ap₂ (λ l s. get_or l (j * s + i) 0) behind g ∙
        get_or-drop start field.samples.now (j * 96 + i) 0 ∙
        ap (λ k. get_or field.samples.now k 0) (omega arith) ∙
        sample_is field mv right down part.left part.top i j across below
        (omega (arith, near, part.across, r)) (omega (arith, low, part.down, d))

-- ---- vectors near to another one

-- one of so many vectors is the first of least score
near_first : (score : Score) (k : ℕ) (centre mv : Mv) (place : ℕ → Mv) (count : ℕ) → IsNear k centre mv →
    ((t : ℕ) → t < count → IsNear k centre (place t)) → IsNear k centre (first_least score mv (tabulate count place))
near_first score k centre mv place count own each =
    first_least_keeps (IsNear k centre) score mv (tabulate count place) own (each_tabulate (IsNear k centre) count place each)

near_step : (z c : ℤ) (k most m n : ℕ) → unsigned_abs (z -ℤ c) ≤ k → m ≤ n + n → k + n ≤ most →
    unsigned_abs ((z +ℤ (pos m -ℤ pos n)) -ℤ c) ≤ most
near_step z c k most m n h g e = omega (arith, ints, h, g, e)

-- a place around it
pub around_near : (k most step t : ℕ) (centre mv : Mv) → step ≤ 2 → t < 9 → k + step ≤ most → IsNear k centre mv →
    IsNear most centre (around_place step mv t)
around_near k most step t centre mv few below enough near =
    record {
      across = near_step mv.x centre.x k most (step * (t % 3)) step near.across (twice step (t % 3) (omega arith)) enough;
      down = near_step mv.y centre.y k most (step * (t / 3)) step near.down (twice step (t / 3) (omega (arith, below))) enough;
    }
  where
    twice : (s n : ℕ) → n ≤ 2 → s * n ≤ s + s
    twice s zero h = omega arith
    twice s (suc zero) h = omega arith
    twice s (suc (suc zero)) h = omega arith
    twice s (suc (suc (suc n))) h = absurd (omega (arith, h))

pub nearer : (k most : ℕ) (centre mv : Mv) → k ≤ most → IsNear k centre mv → IsNear most centre mv
nearer k most centre mv h near =
    record { across = omega (arith, near.across, h); down = omega (arith, near.down, h) }

pub least_near : (score : Score) (k most step : ℕ) (centre mv : Mv) → step ≤ 2 → k + step ≤ most → IsNear k centre mv →
    IsNear most centre (least_around score 1 step mv)
unfolding least_around
least_near score k most step centre mv few enough near =
    let one : step * 1 ≡ step = omega arith in
    subst (λ l. IsNear most centre (first_least score mv l))
    (ap (λ s. tabulate 9 (λ t. moved mv (pos (step * (t % 3)) -ℤ pos s) (pos (step * (t / 3)) -ℤ pos s))) (sym one) ∙ sym (around_1 step mv))
    (near_first score most centre mv (around_place step mv) 9 (nearer k most centre mv (omega (arith, enough)) near)
    (λ t below. around_near k most step t centre mv few below enough near))

-- a vector of the full stage
pub full_near : (score : Score) (centre full : Mv) → full ≡ least_around score 8 1 centre → IsNear 32 (times 4 centre) (times 4 full)
unfolding least_around
full_near score centre full is =
    four centre full
    (subst (IsNear 8 centre) (sym is)
    (subst (λ l. IsNear 8 centre (first_least score centre l)) (sym (around_8 centre))
    (near_first score 8 centre centre (whole_place 8 centre) 289 (record { across = omega (arith, ints); down = omega (arith, ints) })
    (λ t below. record {
      across = step centre.x (t % 17) (omega arith);
      down = step centre.y (t / 17) (omega (arith, below));
    }))))
  where
    step : (z : ℤ) (m : ℕ) → m ≤ 16 → unsigned_abs ((z +ℤ (pos m -ℤ pos 8)) -ℤ z) ≤ 8
    step z m h = omega (arith, ints, h)

    four : (a b : Mv) → IsNear 8 a b → IsNear 32 (times 4 a) (times 4 b)
    four a b near = record { across = omega (arith, ints, near.across); down = omega (arith, ints, near.down) }

-- what is near to four times a short vector is short
pub near_within : (k : ℕ) (centre mv : Mv) → k ≤ 35 → IsWithin 64 centre → IsNear k (times 4 centre) mv → IsWithin 30000 mv
near_within k centre mv h within near =
    record { across = omega (arith, ints, near.across, within.across, h); down = omega (arith, ints, near.down, within.down, h) }

-- ---- the samples of a field

-- a window that begins twelve columns and rows before the place to which a vector leads
pub window_shown : (q p : Plane) (x y : ℤ) (w : List ℕ) → q ≡ p → length w ≡ 10816 →
    ((i j : ℕ) → i < 104 → j < 104 → get_or w (j * 104 + i) 0 ≡ nearest_sample q (x +ℤ pos i) (y +ℤ pos j)) →
    Shows p x y 103 88 w 104
window_shown q p x y w same long shown = record {
  whole = λ j below. omega (arith, long, below);
  each = λ i j across down.
      ap pos (shown i j (omega (arith, across)) (omega (arith, down)) ∙ ap (λ r. nearest_sample r (x +ℤ pos i) (y +ℤ pos j)) same);
}

pub fractions_from : (p : Plane) (x y : ℤ) (samples : List ℕ) → ShowsFractions p (x -ℤ pos 12 +ℤ pos 3) (y -ℤ pos 12 +ℤ pos 3) samples →
    ShowsFractions p (x -ℤ pos 9) (y -ℤ pos 9) samples
fractions_from p x y samples shows =
    subst (λ a. ShowsFractions p a (y -ℤ pos 9) samples) (nearer_by x)
    (subst (λ b. ShowsFractions p (x -ℤ pos 12 +ℤ pos 3) b samples) (nearer_by y) shows)
  where
    nearer_by : (z : ℤ) → z -ℤ pos 12 +ℤ pos 3 ≡ z -ℤ pos 9
    nearer_by z = omega (arith, ints)
