-- Luma motion vector prediction: the two candidates for the vector of a unit, from five squares
-- around it (8.5.3.2.6, 8.5.3.2.7). Every reference is a short-term one, there is no temporal
-- candidate, and a unit is one prediction unit.
use Rattle.std.specs.Prelude.{ℕ, ◌+◌, ◌/◌, Bool, cond, nat_eq, int_le, ◌&&◌, ◌||◌, List, [], ◌∷◌, ◌++◌, map, take, slice_index_or, Option, Some, None, is_some, option_map, unsigned_abs, int_div, ℤ, pos, neg_ℤ, ◌+ℤ◌, ◌*ℤ◌}
use Rattle.std.specs.Option.{option_or}
use Rattle.std.specs.Int.{int_shr, int_signum}
use Rattle.hv_lemmas.specs.Clipping.{clip3, clip16}
use Rattle.hv_plan.specs.declared.prediction.Mv.{Mv}
use Rattle.hv_vector_model.specs.declared.motion.Moving.{Moving}
use Rattle.hv_vector_model.specs.declared.motion.Neighbourhood.{Neighbourhood}

-- ---- distances

-- DiffPicOrderCnt of the current picture and each entry of list 0: its count less the entry's
abbrev pub Distances : Type 0
Distances = List ℤ

unfoldable pub distance : Distances → ℕ → ℤ
distance distances RefIdx = slice_index_or distances RefIdx (pos 0)

-- ---- scaling

-- td and tb
abbrev pub cut : ℤ → ℤ
cut distance = clip3 (neg_ℤ (pos 128)) (pos 127) distance

-- 0 where td is, which no picture of list 0 has
abbrev pub tx : ℤ → ℤ
tx td = int_div (pos (16384 + unsigned_abs td / 2)) td

abbrev pub distScaleFactor : ℤ → ℤ → ℤ
distScaleFactor tb td =
    clip3 (neg_ℤ (pos 4096)) (pos 4095) (int_shr ((tb *ℤ tx td) +ℤ pos 32) 6)

abbrev pub scaled_component : ℤ → ℤ → ℤ
scaled_component factor mv =
    clip16 (int_signum (factor *ℤ mv) *ℤ pos ((unsigned_abs (factor *ℤ mv) + 127) / 256))

-- a vector over one distance, drawn out or in to another
unfoldable pub scaled : ℤ → ℤ → Mv → Mv
scaled from to mv = record {
  x = scaled_component (distScaleFactor (cut to) (cut from)) mv.x;
  y = scaled_component (distScaleFactor (cut to) (cut from)) mv.y;
}

-- the vector of a square for a unit of this reference
abbrev pub scaled_for : Distances → ℕ → Moving → Mv
scaled_for distances refIdxL0 m =
    cond (nat_eq m.reference refIdxL0) m.mv
    (scaled (distance distances m.reference) (distance distances refIdxL0) m.mv)

-- ---- squares in turn

abbrev pub first_of : List (Option Moving) → Option Moving
first_of [] = None
first_of (m ∷ list) = option_or m (first_of list)

abbrev pub of_reference : ℕ → Option Moving → Option Moving
of_reference refIdxL0 None = None
of_reference refIdxL0 (Some m) = cond (nat_eq m.reference refIdxL0) (Some m) None

-- the vector of the first that has this reference
abbrev pub same_reference : ℕ → List (Option Moving) → Option Mv
same_reference refIdxL0 squares =
    option_map (λ m. m.mv) (first_of (map (of_reference refIdxL0) squares))

-- that of the first that moves, scaled
abbrev pub any_reference : Distances → ℕ → List (Option Moving) → Option Mv
any_reference distances refIdxL0 squares =
    option_map (scaled_for distances refIdxL0) (first_of squares)

-- ---- the candidates

abbrev pub left_squares : Neighbourhood → List (Option Moving)
left_squares n = n.a0 ∷ n.a1 ∷ []

abbrev pub squares_above : Neighbourhood → List (Option Moving)
squares_above n = n.b0 ∷ n.b1 ∷ n.b2 ∷ []

abbrev pub isScaledFlagL0 : Neighbourhood → Bool
isScaledFlagL0 n = is_some n.a0 || is_some n.a1

-- none stands for availableFlagL0A and availableFlagL0B of 0. Where nothing at the left moves, A
-- takes what B was, and B is found anew.
abbrev pub mvL0A : Distances → ℕ → Neighbourhood → Option Mv
mvL0A distances refIdxL0 n =
    cond (isScaledFlagL0 n)
    (option_or (same_reference refIdxL0 (left_squares n))
    (any_reference distances refIdxL0 (left_squares n)))
    (same_reference refIdxL0 (squares_above n))

abbrev pub mvL0B : Distances → ℕ → Neighbourhood → Option Mv
mvL0B distances refIdxL0 n =
    cond (isScaledFlagL0 n)
    (same_reference refIdxL0 (squares_above n))
    (any_reference distances refIdxL0 (squares_above n))

abbrev pub no_vector : Mv
no_vector = record { x = pos 0; y = pos 0 }

abbrev pub int_same : ℤ → ℤ → Bool
int_same a b = int_le a b && int_le b a

abbrev pub is_same : Mv → Mv → Bool
is_same a b = int_same a.x b.x && int_same a.y b.y

-- B isn't there where it equals A
abbrev pub those_found : Option Mv → Option Mv → List Mv
those_found None None = []
those_found None (Some b) = b ∷ []
those_found (Some a) None = a ∷ []
those_found (Some a) (Some b) = cond (is_same a b) (a ∷ []) (a ∷ b ∷ [])

-- with zeros up to two
abbrev pub mvpListL0 : Distances → ℕ → Neighbourhood → List Mv
mvpListL0 distances refIdxL0 n =
    take 2 (those_found (mvL0A distances refIdxL0 n) (mvL0B distances refIdxL0 n) ++
    (no_vector ∷ no_vector ∷ []))
