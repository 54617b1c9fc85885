-- The quantisers of chroma (8.6.1), the factors of scaling (8.6.3), and the encoder's own factors
-- of quantisation.
use Rattle.std.specs.Prelude.{ℕ, ◌-◌, ◌%◌, cond, nat_le, nat_lt, List, [], ◌∷◌, slice_index_or}

-- QpC for qPi from 30 to 43
abbrev pub middle_quantisers : List ℕ
middle_quantisers =
    29 ∷ 30 ∷ 31 ∷ 32 ∷ 33 ∷ 33 ∷ 34 ∷ 34 ∷ 35 ∷ 35 ∷ 36 ∷ 36 ∷ 37 ∷ 37 ∷ []

-- the quantiser of chroma, by that of luma
abbrev pub chroma_qp : ℕ → ℕ
chroma_qp qp =
    cond (nat_lt qp 30) qp (cond (nat_le qp 43) (slice_index_or middle_quantisers (qp - 30) 0)
    (qp - 6))

-- levelScale, by QP % 6
abbrev pub scales : List ℕ
scales = 40 ∷ 45 ∷ 51 ∷ 57 ∷ 64 ∷ 72 ∷ []

abbrev pub levelScale : ℕ → ℕ
levelScale qp = slice_index_or scales (qp % 6) 0

-- what a coefficient is multiplied by, by QP % 6: about 2^20 by levelScale
abbrev pub factors : List ℕ
factors = 26214 ∷ 23302 ∷ 20560 ∷ 18396 ∷ 16384 ∷ 14564 ∷ []

abbrev pub quantisation_factor : ℕ → ℕ
quantisation_factor qp = slice_index_or factors (qp % 6) 0
