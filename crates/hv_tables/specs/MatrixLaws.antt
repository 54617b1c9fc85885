-- The second rows of the transform matrices, and the third of the smallest, as the standard has
-- them (8.6.4.2). All entries but those of the first rows are numbers of these rows, with a sign.
use Rattle.std.specs.Prelude.{◌≡◌, ℕ, List, [], ◌∷◌, ◌++◌, map, reverse, ℤ, pos, neg_ℤ}
use Rattle.hv_lemmas.specs.Lists.{tabulate}
use Rattle.hv_tables.specs.TransformMatrix.{transMatrix}

-- so many entries of a row
abbrev pub row_of_matrix : ℕ → ℕ → ℕ → List ℤ
row_of_matrix log2 k count = tabulate count (transMatrix log2 k)

-- the numbers, and then the same backwards with the other sign
abbrev pub and_falling : List ℤ → List ℤ
and_falling row = row ++ map neg_ℤ (reverse row)

abbrev pub SecondRowOf32 : Type 0
SecondRowOf32 =
    row_of_matrix 5 1 32 ≡
    and_falling (pos 90 ∷ pos 90 ∷ pos 88 ∷ pos 85 ∷ pos 82 ∷ pos 78 ∷ pos 73 ∷ pos 67 ∷
    pos 61 ∷ pos 54 ∷ pos 46 ∷ pos 38 ∷ pos 31 ∷ pos 22 ∷ pos 13 ∷ pos 4 ∷ [])

abbrev pub SecondRowOf16 : Type 0
SecondRowOf16 =
    row_of_matrix 4 1 16 ≡
    and_falling (pos 90 ∷ pos 87 ∷ pos 80 ∷ pos 70 ∷ pos 57 ∷ pos 43 ∷ pos 25 ∷ pos 9 ∷ [])

abbrev pub SecondRowOf8 : Type 0
SecondRowOf8 = row_of_matrix 3 1 8 ≡ and_falling (pos 89 ∷ pos 75 ∷ pos 50 ∷ pos 18 ∷ [])

abbrev pub SecondRowOf4 : Type 0
SecondRowOf4 = row_of_matrix 2 1 4 ≡ and_falling (pos 83 ∷ pos 36 ∷ [])

abbrev pub ThirdRowOf4 : Type 0
ThirdRowOf4 =
    row_of_matrix 2 2 4 ≡ pos 64 ∷ neg_ℤ (pos 64) ∷ neg_ℤ (pos 64) ∷ pos 64 ∷ []
