-- The stages of halves and quarters: sums over blocks are scores, and the best of nine vectors.
use Rattle.std.proofs.Common.{◌≡◌, ℕ, ◌+◌, ◌*◌, ◌/◌, ◌%◌, ◌<◌, ◌≤◌, Bool, true, false, cond, nat_lt, List, [], ◌∷◌, ◌++◌, length, take, drop, get_or, refl, arith, sym, ap, ap₂, ◌∙◌, add-one, ℤ, pos, ◌+ℤ◌, ◌-ℤ◌}
use Rattle.std.proofs.lemmas.Int.{ints}
use Rattle.std.specs.Int.{abs_diff}
use Rattle.std.proofs.lemmas.List.{get_or-drop}
use Rattle.std.proofs.Math.Nat.{add-mul, mul-le-mul_right}
use Rattle.hv_lemmas.specs.Lists.{tabulate}
use Rattle.hv_lemmas.proofs.ListLemmas.{tabulate_push}
use Rattle.hv_types.specs.Samples.{Plane, sample_at}
use Rattle.hv_types.specs.Windows.{HoldsBlock}
use Rattle.hv_types.proofs.SampleLemmas.{get_or-rows, length-rows}
use Rattle.hv_plan.specs.declared.prediction.Mv.{Mv}
use Rattle.hv_kernel.specs.Differences.{sad_of}
use Rattle.hv_kernel.specs.Blocks.{sum_of_rows}
use Rattle.hv_sample_model.specs.Blocks.{total_of}
use Rattle.hv_sample_model.proofs.SumLemmas.{total_of_same}
use Rattle.hv_filter_model.specs.Costs.{first_least}
use Rattle.hv_filter_model.proofs.CostLemmas.{first_least_push}
use Rattle.hv_inter_model.specs.Interpolation.{inter_sample, inter_predicted}
use Rattle.hv_search_model.specs.MotionSearch.{vector, moved, around, Score, least_around, absolute_differences, node_area, fractional_score}
use Rattle.hv_search_model.specs.MotionLaws.{IsWithin}
use Rattle.hv_search.specs.declared.scored.Scored.{Scored}
use Rattle.hv_search.specs.Plain.{whole_place}
use Rattle.hv_search.specs.Fraction.{around_place, IsBestOf, IsBestOfNine, IsLeastAround}
use Rattle.hv_search.proofs.FullLemmas.{sad_of_runs, total_of_rows}

-- ---- scores

pub length_predicted : (reference : Plane) (mv : Mv) (x y side : ℕ) →
    length (inter_predicted true reference mv x y side) ≡ side * side
unfolding inter_predicted
length_predicted reference mv x y side =
    length-rows side side (λ i j. inter_sample true reference mv (x + i) (y + j))

pub predicted_at : (reference : Plane) (mv : Mv) (x y side i j : ℕ) → i < side → j < side →
    get_or (inter_predicted true reference mv x y side) (j * side + i) 0 ≡ inter_sample true reference mv (x + i) (y + j)
unfolding inter_predicted
predicted_at reference mv x y side i j across down =
    get_or-rows side side i j (j * side + i) (λ i j. inter_sample true reference mv (x + i) (y + j)) across down refl

pub sum_is : (input : Plane) (predicted : ℕ → ℕ → ℕ) (x y side : ℕ) (first second : List ℕ) (w columns rows stride columns' : ℕ) →
    w ≡ input.width → columns ≡ side → rows ≡ side → columns' ≡ side →
    HoldsBlock first w columns rows → ((j : ℕ) → j < side → j * stride + side ≤ length second) →
    first ≡ drop (y * input.width + x) input.samples →
    ((i j : ℕ) → i < side → j < side → get_or second (j * stride + i) 0 ≡ predicted (x + i) (y + j)) →
    sum_of_rows (λ j. sad_of (take columns (drop (j * w) first)) (take columns' (drop (j * stride) second))) rows ≡
    absolute_differences input (node_area x y side) predicted
sum_is input predicted x y side first second w columns rows stride columns' wide e f h holds room is shown =
    rw (e, f, h)
    (total_of_rows (λ j. sad_of (take side (drop (j * w) first)) (take side (drop (j * stride) second))) side ∙
    total_of_same side (λ j. sad_of (take side (drop (j * w) first)) (take side (drop (j * stride) second)))
    (λ j. total_of side (term j)) row)
  where
    term : ℕ → ℕ → ℕ
    term j i = abs_diff (sample_at input (x + i) (y + j)) (predicted (x + i) (y + j))

    sample : (i j : ℕ) → get_or first (j * w + i) 0 ≡ sample_at input (x + i) (y + j)
    sample i j =
        ap₂ (λ l m. get_or l (j * m + i) 0) is wide ∙
        get_or-drop (y * input.width + x) input.samples (j * input.width + i) 0 ∙
        ap (λ k. get_or input.samples k 0) (omega (arith, add-mul y j input.width))

    row : (j : ℕ) → j < side → sad_of (take side (drop (j * w) first)) (take side (drop (j * stride) second)) ≡ total_of side (term j)
    row j below =
        let inside : j * w + side ≤ length first = omega (arith, holds j (omega (arith, below, f)), e) in
        sad_of_runs first second (j * w) (j * stride) side inside (room j below) ∙
        total_of_same side (λ i. abs_diff (get_or first (j * w + i) 0) (get_or second (j * stride + i) 0)) (term j)
        (λ i few. ap₂ abs_diff (sample i j) (shown i j few below))

pub fractional_sum_is : (input reference : Plane) (mv : Mv) (x y side : ℕ) (first second : List ℕ) (w columns rows stride columns' : ℕ) →
    w ≡ input.width → columns ≡ side → rows ≡ side → stride ≡ side → columns' ≡ side →
    HoldsBlock first w columns rows →
    first ≡ drop (y * input.width + x) input.samples → second ≡ inter_predicted true reference mv x y side →
    sum_of_rows (λ j. sad_of (take columns (drop (j * w) first)) (take columns' (drop (j * stride) second))) rows ≡
    fractional_score input reference x y side mv
fractional_sum_is input reference mv x y side first second w columns rows stride columns' wide e f g h holds is made =
    sum_is input (inter_sample true reference mv) x y side first second w columns rows stride columns' wide e f h holds room is
    (λ i j across down. ap₂ (λ l s. get_or l (j * s + i) 0) made g ∙ predicted_at reference mv x y side i j across down)
  where
    long : length second ≡ side * side
    long = ap (λ l. length l) made ∙ length_predicted reference mv x y side

    room : (j : ℕ) → j < side → j * stride + side ≤ length second
    room j below =
        let next : j + 1 ≤ side = omega (arith, below) in
        rw g (omega (arith, long, mul-le-mul_right side next, add-mul j 1 side))

-- ---- the best of nine

pub around_1 : (step : ℕ) (mv : Mv) → around 1 step mv ≡ tabulate 9 (λ t. moved mv (pos (step * (t % 3)) -ℤ pos (step * 1)) (pos (step * (t / 3)) -ℤ pos (step * 1)))
unfolding tabulate
around_1 step mv = refl

pub around_8 : (mv : Mv) → around 8 1 mv ≡ tabulate 289 (whole_place 8 mv)
unfolding tabulate
around_8 mv = refl

pub best_of_one : (score : Score) (place : ℕ → Mv) (centre : Mv) (best : Scored) → best.mv ≡ centre → best.sum ≡ score centre →
    IsBestOf score centre place 0 best
unfolding tabulate
best_of_one score place centre best e f = record { is = e; sum = f ∙ ap score (sym e) }

picked : (b : Bool) (second first : Scored) → (cond b second first).mv ≡ cond b second.mv first.mv
picked true second first = refl
picked false second first = refl

picked_sum : (score : Score) (b : Bool) (second first : Scored) → second.sum ≡ score second.mv → first.sum ≡ score first.mv →
    (cond b second first).sum ≡ score (cond b second first).mv
picked_sum score true second first e f = e
picked_sum score false second first e f = f

pub best_of_one_more : (score : Score) (place : ℕ → Mv) (centre : Mv) (t : ℕ) (first second : Scored) → IsBestOf score centre place t first →
    second.sum ≡ score second.mv → second.mv ≡ place t →
    IsBestOf score centre place (t + 1) (cond (nat_lt second.sum first.sum) second first)
best_of_one_more score place centre t first second best sum here = record {
  is = picked (nat_lt second.sum first.sum) second first ∙
      ap₂ (λ a b. cond (nat_lt a b) second.mv first.mv) sum best.sum ∙
      ap₂ (λ a b. cond (nat_lt (score a) (score b)) a b) here best.is ∙
      sym (ap (first_least score centre) pushed ∙ first_least_push score centre (tabulate t place) (place t));
  sum = picked_sum score (nat_lt second.sum first.sum) second first sum best.sum;
}
  where
    pushed : tabulate (t + 1) place ≡ tabulate t place ++ place t ∷ []
    pushed = ap (λ n. tabulate n place) (add-one t) ∙ tabulate_push t place

-- the middle place is the vector itself
pub place_4 : (step : ℕ) (mv : Mv) → around_place step mv 4 ≡ mv
place_4 step mv = ap₂ vector (same mv.x) (same mv.y)
  where
    same : (z : ℤ) → z +ℤ (pos (step * 1) -ℤ pos step) ≡ z
    same z = omega (arith, ints)

pub best_of_nine : (score : Score) (step : ℕ) (centre : Mv) (t : ℕ) (best : Scored) → t ≡ 9 → IsBestOfNine score step centre t best →
    IsLeastAround score step centre best
unfolding least_around
best_of_nine score step centre t best all is =
    let one : step * 1 ≡ step = omega arith in record {
      is = is.is ∙ ap (λ n. first_least score centre (tabulate n (around_place step centre))) all ∙
          ap (λ s. first_least score centre (tabulate 9 (λ t. moved centre (pos (step * (t % 3)) -ℤ pos s) (pos (step * (t / 3)) -ℤ pos s)))) (sym one) ∙
          ap (first_least score centre) (sym (around_1 step centre));
      sum = is.sum;
    }

-- what is short enough
pub longer : (a b : ℕ) (mv : Mv) → a ≤ b → IsWithin a mv → IsWithin b mv
longer a b mv h within =
    record { across = omega (arith, within.across, h); down = omega (arith, within.down, h) }
