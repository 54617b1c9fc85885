-- The levels that the encoder gives the residual of a transform block: a forward transform, and
-- quantisation. H.265 leaves both free. Functions over places, column and row, and the lists by
-- rows that are made from them.
use Rattle.std.specs.Prelude.{ℕ, ◌+◌, ◌-◌, ◌*◌, ◌/◌, ◌^◌, Bool, cond, List, map, ℤ, pos, neg_ℤ, ◌+ℤ◌, ◌*ℤ◌}
use Rattle.std.specs.Int.{int_shr, is_negative}
use Rattle.std.specs.Int.RustNames.{unsigned_abs}
use Rattle.hv_tables.specs.TransformMatrix.{transMatrix}
use Rattle.hv_tables.specs.Quantisers.{quantisation_factor}
use Rattle.hv_lemmas.specs.Clipping.{clip16}
use Rattle.hv_sample_model.specs.Blocks.{square, at_place, sum_of}

-- z / 2^shift, rounded to the nearest, a half upwards
abbrev pub rounded : ℤ → ℕ → ℤ
rounded z shift = int_shr (z +ℤ pos (2 ^ (shift - 1))) shift

-- The rows first: frequency u of row y. The residual sample in column x of row y is `sample x y`.
abbrev pub row_coefficient : ℕ → (ℕ → ℕ → ℤ) → ℕ → ℕ → ℤ
row_coefficient log2 sample u y =
    rounded
    (sum_of (2 ^ log2) (λ x. transMatrix log2 u x *ℤ sample x y))
    (log2 - 1)

-- Then the columns: the coefficient in column u of row v.
abbrev pub coefficient : ℕ → (ℕ → ℕ → ℤ) → ℕ → ℕ → ℤ
coefficient log2 sample u v =
    rounded
    (sum_of (2 ^ log2) (λ y. transMatrix log2 v y *ℤ row_coefficient log2 sample u y))
    (log2 + 6)

abbrev pub transformed : ℕ → List ℤ → List ℤ
transformed log2 residuals = square log2 (coefficient log2 (at_place log2 residuals))

-- what is added before the last division, in 512ths of a level: a third in intra units, a sixth in
-- inter units
abbrev pub offset_of_kind : Bool → ℕ
offset_of_kind is_intra = cond is_intra 171 85

abbrev pub with_sign_of : ℤ → ℕ → ℤ
with_sign_of z n = cond (is_negative z) (neg_ℤ (pos n)) (pos n)

abbrev pub quantisation_shift : ℕ → ℕ → ℕ
quantisation_shift log2 qp = 21 + qp / 6 - log2

-- the level of a coefficient
abbrev pub quantised : ℕ → ℕ → Bool → ℤ → ℤ
quantised log2 qp is_intra c =
    let shift = quantisation_shift log2 qp in
    clip16 (with_sign_of c
    ((unsigned_abs c * quantisation_factor qp + offset_of_kind is_intra * 2 ^
    (shift - 9)) / 2 ^ shift))

-- the levels of a block of residuals
unfoldable pub levels : ℕ → ℕ → Bool → List ℤ → List ℤ
levels log2 qp is_intra residuals = map (quantised log2 qp is_intra) (transformed log2 residuals)
