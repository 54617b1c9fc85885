-- The residual samples of a transform block, from its levels (8.6.3, 8.6.4): functions over places,
-- column and row, and the lists by rows that are made from them.
use Rattle.std.specs.Prelude.{ℕ, ◌+◌, ◌-◌, ◌*◌, ◌/◌, ◌^◌, List, map, ℤ, pos, ◌+ℤ◌, ◌*ℤ◌}
use Rattle.std.specs.Int.{int_shr}
use Rattle.hv_tables.specs.TransformMatrix.{transMatrix}
use Rattle.hv_tables.specs.Quantisers.{levelScale}
use Rattle.hv_lemmas.specs.Clipping.{clip16}
use Rattle.hv_sample_model.specs.Blocks.{square, at_place, sum_of}

-- bdShift of scaling (8.6.2), for samples of 8 bits
abbrev pub bdShift : ℕ → ℕ
bdShift log2 = log2 + 3

-- a scaled transform coefficient, from its level: the scaling factor m is 16 everywhere (8.6.3)
abbrev pub scaled : ℕ → ℕ → ℤ → ℤ
scaled log2 qp level =
    clip16 (int_shr
    (level *ℤ pos (16 * levelScale qp * 2 ^ (qp / 6)) +ℤ pos (2 ^ (bdShift log2 - 1)))
    (bdShift log2))

-- The columns first: row y of column x, from the coefficients of the column (8.6.4.2). The
-- coefficient in column u of row v is `coefficient u v`.
abbrev pub column_sample : ℕ → (ℕ → ℕ → ℤ) → ℕ → ℕ → ℤ
column_sample log2 coefficient x y =
    clip16 (int_shr
    (sum_of (2 ^ log2) (λ v. transMatrix log2 v y *ℤ coefficient x v) +ℤ pos 64)
    7)

-- Then the rows: the residual sample in column x of row y.
abbrev pub inverse_sample : ℕ → (ℕ → ℕ → ℤ) → ℕ → ℕ → ℤ
inverse_sample log2 coefficient x y =
    int_shr
    (sum_of (2 ^ log2) (λ u. transMatrix log2 u x *ℤ column_sample log2 coefficient u y) +ℤ
    pos 2048)
    12

-- the residual of a block of coefficients
abbrev pub inverse_transformed : ℕ → List ℤ → List ℤ
inverse_transformed log2 coefficients =
    square log2 (inverse_sample log2 (at_place log2 coefficients))

-- the residual of a block of levels
unfoldable pub residual : ℕ → ℕ → List ℤ → List ℤ
residual log2 qp levels = inverse_transformed log2 (map (scaled log2 qp) levels)
