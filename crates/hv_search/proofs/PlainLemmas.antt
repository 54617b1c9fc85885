-- The search without any shortcut: vectors around another one, by rows.
use Rattle.std.proofs.Common.{◌≡◌, ℕ, ◌+◌, ◌*◌, ◌-◌, ◌<◌, ◌/◌, min, refl, subst, ap, ◌∙◌, sym, ℤ, pos, ◌+ℤ◌, ◌-ℤ◌, w64, to_z, of_z, ◌≤◌, arith}
use Rattle.std.specs.Prelude.{Some, None}
use mathlib.Core.Logic.{◌⊎◌, inl, inr}
use Rattle.std.specs.Int.RustNames.{unsigned_abs}
use Rattle.std.proofs.lemmas.Int.{ints}
use Rattle.hv_lemmas.specs.Lists.{tabulate}
use Rattle.hv_plan.specs.declared.prediction.Mv.{Mv}
use Rattle.hv_filter_model.specs.Costs.{first_least}
use Rattle.hv_search_model.specs.MotionSearch.{vector, times, around, Score, Scores, least_around, coarse_score, full_score, quarter_size, whole_vector, quarter_vector, best_vector, scores_of, node_vector}
use Rattle.hv_search_model.specs.MotionLaws.{IsWithin}
use Rattle.hv_search_model.proofs.ReachLemmas.{least_around_within}
use Rattle.hv_types.specs.Samples.{Plane}
use Rattle.hv_lemmas.proofs.ComparisonLemmas.{lt_below, lt_not_below, other_than_0}
use Rattle.hv_search.specs.declared.scored.Scored.{Scored}
use Rattle.hv_search.specs.Fraction.{IsBestOf}
use Rattle.hv_search.specs.Plain.{area_score, whole_place}
use Rattle.hv_search.proofs.FractionLemmas.{around_8}
use Rattle.hv_search.proofs.WindowLemmas.{came}

-- a coordinate to which a component leads
pub led_to : (corner : ℤ) (place : ℕ) (component : ℤ) → unsigned_abs corner ≤ 8589934592 →
    corner ≡ pos place +ℤ component -ℤ pos 0 → to_z w64 (of_z w64 corner) +ℤ pos 0 ≡ pos place +ℤ component
led_to corner place component near is = ap (λ z. z +ℤ pos 0) (came corner _ near is) ∙ plain (pos place +ℤ component)
  where
    plain : (z : ℤ) → (z -ℤ pos 0) +ℤ pos 0 ≡ z
    plain z = omega (arith, ints)

around_16 : (mv : Mv) → around 16 1 mv ≡ tabulate 1089 (whole_place 16 mv)
unfolding tabulate
around_16 mv = refl

around_whole : (reach : ℕ) (mv : Mv) → (reach ≡ 8) ⊎ (reach ≡ 16) →
    tabulate ((2 * reach + 1) * (2 * reach + 1)) (whole_place reach mv) ≡ around reach 1 mv
around_whole reach mv (inl e) = rw e (sym (around_8 mv))
around_whole reach mv (inr e) = rw e (sym (around_16 mv))

pub best_of_whole : (score : Score) (reach : ℕ) (mv : Mv) (t : ℕ) (best : Scored) → (reach ≡ 8) ⊎ (reach ≡ 16) →
    t ≡ (2 * reach + 1) * (2 * reach + 1) → IsBestOf score mv (whole_place reach mv) t best →
    best.mv ≡ least_around score reach 1 mv
unfolding least_around
best_of_whole score reach mv t best sized all is =
    is.is ∙ ap (λ n. first_least score mv (tabulate n (whole_place reach mv))) all ∙
    ap (first_least score mv) (around_whole reach mv sized)

-- ---- the stages

-- a vector of the full stage
pub shown_within : (score : Score) (centre full : Mv) → IsWithin 64 centre → full ≡ least_around score 8 1 centre → IsWithin 72 full
shown_within score centre full h is = subst (IsWithin 72) (sym is) (least_around_within score 64 8 1 centre h)

pub coarse_is : (input reference P Q : Plane) (x y columns rows : ℕ) → P ≡ quarter_size input → Q ≡ quarter_size reference →
    columns ≡ min 16 (P.width - 16 * (x / 64)) → rows ≡ min 16 (P.height - 16 * (y / 64)) →
    least_around (area_score P Q (16 * (x / 64)) (16 * (y / 64)) columns rows) 16 1 (vector (pos 0) (pos 0)) ≡
    least_around (coarse_score input reference x y) 16 1 (vector (pos 0) (pos 0))
coarse_is input reference P Q x y columns rows p q across down = rw (across, down, p, q) refl

pub full_is : (input reference P Q : Plane) (x y side columns : ℕ) (centre v : Mv) → P ≡ input → Q ≡ reference → columns ≡ side → v ≡ centre →
    least_around (area_score P Q x y columns columns) 8 1 v ≡ least_around (full_score input reference x y side) 8 1 centre
full_is input reference P Q x y side columns centre v p q e f = rw (p, q, e, f) refl

pub whole_within : (mv whole : Mv) → IsWithin 72 mv → whole ≡ times 4 mv → IsWithin 288 whole
whole_within mv whole h is =
    subst (IsWithin 288) (sym is) (record { across = omega (arith, ints, h.across); down = omega (arith, ints, h.down) })

pub best_low : (effort : ℕ) (scores : Scores) (mv : Mv) → effort < 2 → mv ≡ whole_vector scores → mv ≡ best_vector effort scores
unfolding best_vector
best_low effort scores mv low is = rw (lt_below effort 2 low) is

pub best_high : (effort : ℕ) (scores : Scores) (mv : Mv) → 2 ≤ effort → mv ≡ quarter_vector scores → mv ≡ best_vector effort scores
unfolding best_vector
best_high effort scores mv high is = rw (lt_not_below effort 2 high) is

-- ---- a node

module _ (effort : ℕ) (input reference : Plane) (x y side : ℕ) where
  pub none_at_0 : effort ≡ 0 → None ≡ node_vector effort input reference x y side
  unfolding node_vector
  none_at_0 e = rw e refl

  pub none_across : 0 < effort → input.width < x + side → None ≡ node_vector effort input reference x y side
  unfolding node_vector
  none_across some over = rw (other_than_0 effort some, lt_below input.width (x + side) over) refl

  pub none_below : 0 < effort → x + side ≤ input.width → input.height < y + side → None ≡ node_vector effort input reference x y side
  unfolding node_vector
  none_below some inside over =
      rw (other_than_0 effort some, lt_not_below input.width (x + side) inside, lt_below input.height (y + side) over) refl

  pub some_inside : (mv : Mv) → 0 < effort → x + side ≤ input.width → y + side ≤ input.height →
      mv ≡ best_vector effort (scores_of input reference x y side) → Some mv ≡ node_vector effort input reference x y side
  unfolding node_vector
  some_inside mv some across down is =
      rw (other_than_0 effort some, lt_not_below input.width (x + side) across, lt_not_below input.height (y + side) down) (ap Some is)
