-- Worked motion search: which vectors are tried in which order, and which of them is taken.
use Rattle.std.proofs.Common.{◌≡◌, refl, cond, ◌||◌, List, [], ◌∷◌, ◌+◌, map, length, pos, negsuc, ◌-ℤ◌}
use Rattle.std.specs.Prelude.{nat_eq}
use Rattle.std.specs.Int.RustNames.{unsigned_abs}
use Rattle.hv_lemmas.specs.Lists.{tabulate}
use Rattle.hv_plan.specs.declared.prediction.Mv.{Mv}
use Rattle.hv_search_model.specs.MotionSearch.{vector, around, least_around, Score, Scores, best_vector}

-- ---- the vectors around one

halves : around 1 2 (vector (pos 5) (negsuc 6)) ≡
    vector (pos 3) (negsuc 8) ∷ vector (pos 5) (negsuc 8) ∷ vector (pos 7) (negsuc 8) ∷
    vector (pos 3) (negsuc 6) ∷ vector (pos 5) (negsuc 6) ∷ vector (pos 7) (negsuc 6) ∷
    vector (pos 3) (negsuc 4) ∷ vector (pos 5) (negsuc 4) ∷ vector (pos 7) (negsuc 4) ∷ []
unfolding tabulate
halves = refl

how_many : map (λ reach. length (around reach 1 (vector (pos 0) (pos 0)))) (16 ∷ 8 ∷ 1 ∷ []) ≡
    1089 ∷ 289 ∷ 9 ∷ []
unfolding tabulate
how_many = refl

-- ---- the first of least score

-- how far a vector is from another one
abbrev apart : Mv → Score
apart to mv = unsigned_abs (mv.x -ℤ to.x) + unsigned_abs (mv.y -ℤ to.y)

-- 0 at two vectors alone
abbrev least_at : Mv → Mv → Score
least_at a b mv = cond (nat_eq (apart a mv) 0 || nat_eq (apart b mv) 0) 0 1

abbrev from_zero : Score → Mv
from_zero score = least_around score 16 1 (vector (pos 0) (pos 0))

one_alone :
    map (λ to. from_zero (apart to))
    (vector (pos 5) (negsuc 2) ∷ vector (pos 100) (pos 100) ∷ vector (negsuc 99) (negsuc 99) ∷ []) ≡
    vector (pos 5) (negsuc 2) ∷ vector (pos 16) (pos 16) ∷ vector (negsuc 15) (negsuc 15) ∷ []
unfolding tabulate least_around
one_alone = refl

-- an upper row before a left column, a left column before a right one, and the vector itself first
the_earlier_of_two :
    from_zero (least_at (vector (negsuc 0) (pos 0)) (vector (pos 16) (negsuc 0))) ∷
    from_zero (least_at (vector (pos 3) (pos 2)) (vector (pos 2) (pos 2))) ∷
    from_zero (least_at (vector (negsuc 15) (negsuc 15)) (vector (pos 0) (pos 0))) ∷
    from_zero (λ _. 7) ∷ [] ≡
    vector (pos 16) (negsuc 0) ∷ vector (pos 2) (pos 2) ∷ vector (pos 0) (pos 0) ∷
    vector (pos 0) (pos 0) ∷ []
unfolding tabulate least_around
the_earlier_of_two = refl

-- ---- the stages

-- each stage draws to a vector of its own
abbrev drawn : Mv → Mv → Mv → Scores
drawn coarse full fractional =
    record { coarse = apart coarse; full = apart full; fractional = apart fractional }

abbrev at_efforts : Scores → List Mv
at_efforts scores = best_vector 1 scores ∷ best_vector 2 scores ∷ []

-- To the furthest right and up: 16, 4 * 16 + 8, 4 times that, 2 more and 1 more. A vector of 74
-- whole samples isn't reached.
furthest :
    at_efforts
    (drawn (vector (pos 99) (negsuc 99)) (vector (pos 74) (negsuc 999))
    (vector (pos 999) (negsuc 999))) ≡
    vector (pos 288) (negsuc 287) ∷ vector (pos 291) (negsuc 290) ∷ []
unfolding tabulate least_around best_vector
furthest = refl

-- Coarsely 1 left of 2 down, that is 4 left and 8 down, of which 1 right and 3 up are 3 left and 5
-- down. In quarters these are 12 and 20, a half is 2 more, and a quarter 1 less.
steps_of_each_stage :
    at_efforts
    (drawn (vector (negsuc 0) (pos 2)) (vector (negsuc 2) (pos 5)) (vector (negsuc 10) (pos 21))) ≡
    vector (negsuc 11) (pos 20) ∷ vector (negsuc 10) (pos 21) ∷ []
unfolding tabulate least_around best_vector
steps_of_each_stage = refl

-- where all vectors do equally well
flat : at_efforts (record { coarse = λ _. 3; full = λ _. 2; fractional = λ _. 1 }) ≡
    vector (pos 0) (pos 0) ∷ vector (pos 0) (pos 0) ∷ []
unfolding tabulate least_around best_vector
flat = refl
