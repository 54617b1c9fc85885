-- How far a vector leads that motion search finds: each stage adds its steps.
use Rattle.std.proofs.Common.{◌≡◌, ℕ, ◌+◌, ◌*◌, ◌≤◌, Bool, true, false, cond, ◌||◌, nat_eq, nat_lt, List, [], ◌∷◌, map, subst, arith, ℤ, pos, ◌-ℤ◌}
use Rattle.std.specs.Prelude.{flat_map, Some, None}
use Rattle.std.specs.Int.RustNames.{unsigned_abs}
use Rattle.std.proofs.Math.Nat.{mul-le-mul_left}
use Rattle.std.proofs.lemmas.Int.{ints}
use Rattle.std.proofs.lemmas.Option.{none-some}
use Rattle.hv_lemmas.proofs.OptionLemmas.{some_same}
use Rattle.hv_lemmas.proofs.SignedLemmas.{size_of_sum}
use Rattle.hv_plan.specs.declared.prediction.Mv.{Mv}
use Rattle.hv_filter_model.proofs.CostLemmas.{Each, first_least_keeps, each_tabulate, each_append}
use Rattle.hv_search_model.specs.MotionSearch.{vector, moved, times, steps, around, Score, Scores, least_around, coarse_vector, full_vector, whole_vector, half_vector, quarter_vector, best_vector, scores_of, crosses_edge, node_vector}
use Rattle.hv_search_model.specs.MotionLaws.{IsWithin, VectorsAreShort}

each_map : {A B : Type 0} (Q : A → Type 0) (P : B → Type 0) (f : A → B) (xs : List A) →
    ((x : A) → Q x → P (f x)) → Each Q xs → Each P (map f xs)
each_map Q P f [] h each = tt
each_map Q P f (x ∷ xs) h each = (h x each.0, each_map Q P f xs h each.1)

each_flat_map : {A B : Type 0} (Q : A → Type 0) (P : B → Type 0) (f : A → List B) (xs : List A) →
    ((x : A) → Q x → Each P (f x)) → Each Q xs → Each P (flat_map f xs)
each_flat_map Q P f [] h each = tt
each_flat_map Q P f (x ∷ xs) h each =
    each_append P (f x) (flat_map f xs) (h x each.0) (each_flat_map Q P f xs h each.1)

-- a step leads no further than the last one
abbrev IsStep : ℕ → ℤ → Type 0
IsStep most z = unsigned_abs z ≤ most

difference_most : (a b most : ℕ) → a ≤ most + b → b ≤ most + a →
    unsigned_abs (pos a -ℤ pos b) ≤ most
difference_most a b most h k = omega (arith, ints)

each_step : (reach step : ℕ) → Each (IsStep (step * reach)) (steps reach step)
each_step reach step =
    each_tabulate (IsStep (step * reach)) (2 * reach + 1)
    (λ i. pos (step * i) -ℤ pos (step * reach))
    (λ i below.
    let within : i ≤ reach + reach = omega (arith, below) in
    difference_most (step * i) (step * reach) (step * reach)
    (omega (arith, mul-le-mul_left step within)) (omega arith))

moved_within : (most more : ℕ) (mv : Mv) (right down : ℤ) → IsWithin most mv → IsStep more right →
    IsStep more down → IsWithin (most + more) (moved mv right down)
moved_within most more mv right down h k l = record {
  across = omega (arith, size_of_sum mv.x right, h.across, k);
  down = omega (arith, size_of_sum mv.y down, h.down, l);
}

each_around : (most reach step : ℕ) (mv : Mv) → IsWithin most mv →
    Each (IsWithin (most + step * reach)) (around reach step mv)
each_around most reach step mv h =
    each_flat_map (IsStep (step * reach)) (IsWithin (most + step * reach))
    (λ down. map (λ right. moved mv right down) (steps reach step)) (steps reach step)
    (λ down is_down.
    each_map (IsStep (step * reach)) (IsWithin (most + step * reach)) (λ right. moved mv right down)
    (steps reach step)
    (λ right is_right. moved_within most (step * reach) mv right down h is_right is_down)
    (each_step reach step))
    (each_step reach step)

within_more : (most more : ℕ) (mv : Mv) → IsWithin most mv → IsWithin (most + more) mv
within_more most more mv h =
    record { across = omega (arith, h.across); down = omega (arith, h.down) }

pub least_around_within : (score : Score) (most reach step : ℕ) (mv : Mv) → IsWithin most mv →
    IsWithin (most + step * reach) (least_around score reach step mv)
unfolding least_around
least_around_within score most reach step mv h =
    first_least_keeps (IsWithin (most + step * reach)) score mv (around reach step mv)
    (within_more most (step * reach) mv h) (each_around most reach step mv h)

times_4_within : (most : ℕ) (mv : Mv) → IsWithin most mv → IsWithin (4 * most) (times 4 mv)
times_4_within most mv h =
    record { across = omega (arith, ints, h.across); down = omega (arith, ints, h.down) }

zero_within : IsWithin 0 (vector (pos 0) (pos 0))
zero_within = record { across = omega arith; down = omega arith }

-- 4 * (4 * 16 + 8), and 1 half and 1 quarter
whole_within : (scores : Scores) → IsWithin 288 (whole_vector scores)
whole_within scores =
    let coarse = least_around_within scores.coarse 0 16 1 (vector (pos 0) (pos 0)) zero_within in
    let in_samples = times_4_within 16 (coarse_vector scores) coarse in
    let full = least_around_within scores.full 64 8 1 (times 4 (coarse_vector scores)) in_samples in
    times_4_within 72 (full_vector scores) full

quarter_within : (scores : Scores) → IsWithin 291 (quarter_vector scores)
quarter_within scores =
    let half =
    least_around_within scores.fractional 288 1 2 (whole_vector scores) (whole_within scores) in
    least_around_within scores.fractional 290 1 1 (half_vector scores) half

best_within : (effort : ℕ) (scores : Scores) → IsWithin 291 (best_vector effort scores)
unfolding best_vector
best_within effort scores = by_effort (nat_lt effort 2)
  where
    by_effort : (b : Bool) → IsWithin 291 (cond b (whole_vector scores) (quarter_vector scores))
    by_effort true = within_more 288 3 (whole_vector scores) (whole_within scores)
    by_effort false = quarter_within scores

pub vectors_are_short : VectorsAreShort
unfolding node_vector
vectors_are_short effort input reference x y side mv found =
    by_place (nat_eq effort 0 || crosses_edge input x y side) found
  where
    found_of : Scores
    found_of = scores_of input reference x y side

    by_place : (b : Bool) → cond b None (Some (best_vector effort found_of)) ≡ Some mv →
        IsWithin 291 mv
    by_place true e = absurd (none-some mv e)
    by_place false e =
        subst (IsWithin 291) (some_same (best_vector effort found_of) mv e)
        (best_within effort found_of)
