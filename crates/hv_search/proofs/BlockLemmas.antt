-- The vectors of a block: those of the full stage, and that they are the definition's.
use Rattle.std.proofs.Common.{◌≡◌, ℕ, ◌+◌, ◌*◌, ◌/◌, ◌%◌, ◌<◌, ◌≤◌, cond, List, get_or, arith, sym, subst, ap, ap₂, ◌∙◌, pos}
use Rattle.std.proofs.lemmas.Int.{ints}
use Rattle.hv_lemmas.proofs.ComparisonLemmas.{lt_below, lt_not_below}
use Rattle.hv_types.specs.Samples.{Plane}
use Rattle.hv_plan.specs.declared.prediction.Mv.{Mv}
use Rattle.hv_search_model.specs.MotionSearch.{vector, times, Score, least_around, full_score, fractional_score, quarter_size, coarse_vector, best_vector, scores_of}
use Rattle.hv_search_model.specs.MotionLaws.{IsWithin}
use Rattle.hv_search.specs.declared.field.Field.{Field}
use Rattle.hv_search.specs.declared.part.Part.{Part}
use Rattle.hv_search.specs.Coarse.{block_score}
use Rattle.hv_search.specs.Field.{IsNear, part_score, node_score}
use Rattle.hv_search.specs.Numbers.{side_of, left_of, top_of, IsInside, full_candidate, ShowFull, found_vector, node_found}
use Rattle.hv_search.proofs.FieldLemmas.{full_near}

pub times_4_within : (mv : Mv) → IsWithin 16 mv → IsWithin 64 (times 4 mv)
times_4_within mv h =
    record { across = omega (arith, ints, h.across); down = omega (arith, ints, h.down) }

-- the vector of the full stage of a node that lies inside, in quarters of a sample
pub whole_shown : (input reference : Plane) (x y : ℕ) (centre : Mv) (keys : List ℕ) (n : ℕ) (mv : Mv) →
    ShowFull input reference x y centre keys → n < 85 → IsInside input x y n →
    mv ≡ times 4 (full_candidate centre (get_or keys n 0 % 512)) →
    mv ≡ times 4 (least_around (full_score input reference (x + left_of n) (y + top_of n) (side_of n)) 8 1 centre)
whole_shown input reference x y centre keys n mv shows below inside is =
    is ∙ ap (times 4) (sym (shows n below inside))

-- it is the node's where halves aren't tried
pub whole_found : (effort : ℕ) (input reference : Plane) (x y : ℕ) (centre : Mv) (n : ℕ) (mv : Mv) → effort < 2 →
    mv ≡ times 4 (least_around (full_score input reference (x + left_of n) (y + top_of n) (side_of n)) 8 1 centre) →
    mv ≡ node_found effort input reference centre x y n
whole_found effort input reference x y centre n mv less is =
    let f : Score = fractional_score input reference (x + left_of n) (y + top_of n) (side_of n) in
    let whole : Mv = times 4 (least_around (full_score input reference (x + left_of n) (y + top_of n) (side_of n)) 8 1 centre) in
    is ∙ sym (ap (λ b. cond b whole (least_around f 1 1 (least_around f 1 2 whole))) (lt_below effort 2 less))

-- and else what the stages of halves and quarters find around it
pub fraction_found : (effort : ℕ) (input reference : Plane) (x y : ℕ) (centre : Mv) (n : ℕ) (mv full : Mv) → 2 ≤ effort →
    full ≡ times 4 (least_around (full_score input reference (x + left_of n) (y + top_of n) (side_of n)) 8 1 centre) →
    mv ≡ least_around (fractional_score input reference (x + left_of n) (y + top_of n) (side_of n)) 1 1
    (least_around (fractional_score input reference (x + left_of n) (y + top_of n) (side_of n)) 1 2 full) →
    mv ≡ node_found effort input reference centre x y n
fraction_found effort input reference x y centre n mv full more shown is =
    let f : Score = fractional_score input reference (x + left_of n) (y + top_of n) (side_of n) in
    let whole : Mv = times 4 (least_around (full_score input reference (x + left_of n) (y + top_of n) (side_of n)) 8 1 centre) in
    is ∙ ap (λ v. least_around f 1 1 (least_around f 1 2 v)) shown ∙
    sym (ap (λ b. cond b whole (least_around f 1 1 (least_around f 1 2 whole))) (lt_not_below effort 2 more))

-- near to the vector of the coarse stage
pub whole_near : (input reference : Plane) (x y : ℕ) (centre : Mv) (keys : List ℕ) (n : ℕ) (mv : Mv) →
    ShowFull input reference x y centre keys → n < 85 → IsInside input x y n →
    mv ≡ times 4 (full_candidate centre (get_or keys n 0 % 512)) → IsNear 32 (times 4 centre) mv
whole_near input reference x y centre keys n mv shows below inside is =
    subst (IsNear 32 (times 4 centre)) (sym is)
    (full_near (full_score input reference (x + left_of n) (y + top_of n) (side_of n)) centre
    (full_candidate centre (get_or keys n 0 % 512)) (sym (shows n below inside)))

-- ---- a node by its number

pub part_is : (field : Field) (part : Part) (n : ℕ) → part.side ≡ side_of n → part.left ≡ left_of n → part.top ≡ top_of n →
    part_score field part ≡ node_score field n
part_is field part n side left top =
    ap₂ (λ a b. fractional_score field.input.now field.reference.now (field.x + a) (field.y + b) part.side) left top ∙
    ap (fractional_score field.input.now field.reference.now (field.x + left_of n) (field.y + top_of n)) side

-- ---- the coarse stage of a node is that of its block

block_of : (b at : ℕ) → at < 64 → (64 * b + at) / 64 ≡ b
block_of b at below = omega (arith, below)

left_below : (n : ℕ) → n < 85 → left_of n < 64
left_below n below = grind (arith, below)

top_below : (n : ℕ) → n < 85 → top_of n < 64
top_below n below = grind (arith, below)

pub node_found_is : (effort : ℕ) (input reference : Plane) (a b n : ℕ) (coarse : Mv) → n < 85 →
    coarse ≡ least_around (block_score (quarter_size input) (quarter_size reference) (64 * a / 4) (64 * b / 4)) 16 1 (vector (pos 0) (pos 0)) →
    node_found effort input reference (times 4 coarse) (64 * a) (64 * b) n ≡
    best_vector effort (scores_of input reference (64 * a + left_of n) (64 * b + top_of n) (side_of n))
unfolding best_vector
node_found_is effort input reference a b n coarse below is =
    let X : ℕ = 64 * a + left_of n in
    let Y : ℕ = 64 * b + top_of n in
    let left : 64 * a / 4 ≡ 16 * (X / 64) = omega (arith, block_of a (left_of n) (left_below n below)) in
    let top : 64 * b / 4 ≡ 16 * (Y / 64) = omega (arith, block_of b (top_of n) (top_below n below)) in
    let coarse_is : coarse ≡ coarse_vector (scores_of input reference X Y (side_of n)) =
    is ∙ ap₂ (λ l t. least_around (block_score (quarter_size input) (quarter_size reference) l t) 16 1 (vector (pos 0) (pos 0))) left top in
    ap (λ v. found_vector effort input reference (times 4 v) X Y (side_of n)) coarse_is
