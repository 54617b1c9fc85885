-- The angles of intra prediction (8.4.4.2.6).
use Rattle.std.specs.Prelude.{ℕ, ◌-◌, List, [], ◌∷◌, slice_index_or, ℤ, pos, neg_ℤ}

abbrev pub minus : ℕ → ℤ
minus n = neg_ℤ (pos n)

-- intraPredAngle of the modes 2 to 34, in 32nds of a sample for each row
abbrev pub angles : List ℤ
angles =
    -- 2 to 9
    pos 32 ∷ pos 26 ∷ pos 21 ∷ pos 17 ∷ pos 13 ∷ pos 9 ∷ pos 5 ∷ pos 2 ∷
    -- 10 to 17, of which the first is horizontal
    pos 0 ∷ minus 2 ∷ minus 5 ∷ minus 9 ∷ minus 13 ∷ minus 17 ∷ minus 21 ∷ minus 26 ∷
    -- 18, the diagonal, to 25
    minus 32 ∷ minus 26 ∷ minus 21 ∷ minus 17 ∷ minus 13 ∷ minus 9 ∷ minus 5 ∷ minus 2 ∷
    -- 26, vertical, to 34
    pos 0 ∷ pos 2 ∷ pos 5 ∷ pos 9 ∷ pos 13 ∷ pos 17 ∷ pos 21 ∷ pos 26 ∷ pos 32 ∷ []

abbrev pub intraPredAngle : ℕ → ℤ
intraPredAngle mode = slice_index_or angles (mode - 2) (pos 0)

-- invAngle of the modes 11 to 25, whose angle is negative: about -8192 by the angle's size
abbrev pub inverse_angles : List ℤ
inverse_angles =
    -- 11 to 18
    minus 4096 ∷ minus 1638 ∷ minus 910 ∷ minus 630 ∷ minus 482 ∷ minus 390 ∷ minus 315 ∷
    minus 256 ∷
    -- 19 to 25
    minus 315 ∷ minus 390 ∷ minus 482 ∷ minus 630 ∷ minus 910 ∷ minus 1638 ∷ minus 4096 ∷ []

abbrev pub invAngle : ℕ → ℤ
invAngle mode = slice_index_or inverse_angles (mode - 11) (pos 0)
