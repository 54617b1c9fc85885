-- Inter prediction of a block of samples from one reference picture: fractional sample
-- interpolation (8.5.3.3.3), and the default weighted sample prediction of one reference
-- (8.5.3.3.4.2). Samples have 8 bits, and a sample of chroma stands for 2x2 of luma.
use Rattle.std.specs.Prelude.{ℕ, suc, ◌+◌, ◌-◌, ◌^◌, Bool, cond, nat_eq, List, [], ◌∷◌, slice_index_or, ℤ, pos, neg_ℤ, ◌+ℤ◌, ◌-ℤ◌, ◌*ℤ◌}
use Rattle.std.specs.Int.{int_shr, int_rem_euclid}
use Rattle.std.specs.Int.RustNames.{unsigned_abs}
use Rattle.hv_lemmas.specs.Clipping.{clip1, clip3}
use Rattle.hv_types.specs.Samples.{Plane, plane_of, sample_at}
use Rattle.hv_plan.specs.declared.prediction.Mv.{Mv}

-- ---- filters

abbrev pub minus : ℕ → ℤ
minus n = neg_ℤ (pos n)

-- The taps of luma (8.5.3.3.3.2): a row for each fraction, in quarters of a sample, and a column
-- for each of the places -3, -2, -1, 0, 1, 2, 3 and 4 behind the whole one.
abbrev pub luma_taps : List (List ℤ)
luma_taps =
    -- 0
    (pos 0 ∷ pos 0 ∷ pos 0 ∷ pos 64 ∷ pos 0 ∷ pos 0 ∷ pos 0 ∷ pos 0 ∷ []) ∷
    -- 1
    (minus 1 ∷ pos 4 ∷ minus 10 ∷ pos 58 ∷ pos 17 ∷ minus 5 ∷ pos 1 ∷ pos 0 ∷ []) ∷
    -- 2
    (minus 1 ∷ pos 4 ∷ minus 11 ∷ pos 40 ∷ pos 40 ∷ minus 11 ∷ pos 4 ∷ minus 1 ∷ []) ∷
    -- 3
    (pos 0 ∷ pos 1 ∷ minus 5 ∷ pos 17 ∷ pos 58 ∷ minus 10 ∷ pos 4 ∷ minus 1 ∷ []) ∷ []

-- The taps of chroma (8.5.3.3.3.3): a row for each fraction, in eighths of a sample, and a column
-- for each of the places -1, 0, 1 and 2 behind the whole one.
abbrev pub chroma_taps : List (List ℤ)
chroma_taps =
    -- 0 to 3
    (pos 0 ∷ pos 64 ∷ pos 0 ∷ pos 0 ∷ []) ∷
    (minus 2 ∷ pos 58 ∷ pos 10 ∷ minus 2 ∷ []) ∷
    (minus 4 ∷ pos 54 ∷ pos 16 ∷ minus 2 ∷ []) ∷
    (minus 6 ∷ pos 46 ∷ pos 28 ∷ minus 4 ∷ []) ∷
    -- 4 to 7
    (minus 4 ∷ pos 36 ∷ pos 36 ∷ minus 4 ∷ []) ∷
    (minus 4 ∷ pos 28 ∷ pos 46 ∷ minus 6 ∷ []) ∷
    (minus 2 ∷ pos 16 ∷ pos 54 ∷ minus 4 ∷ []) ∷
    (minus 2 ∷ pos 10 ∷ pos 58 ∷ minus 2 ∷ []) ∷ []

abbrev pub fL : ℕ → List ℤ
fL xFracL = slice_index_or luma_taps xFracL []

abbrev pub fC : ℕ → List ℤ
fC xFracC = slice_index_or chroma_taps xFracC []

-- the taps of a fraction
abbrev pub taps_of : Bool → ℕ → List ℤ
taps_of is_luma fraction = cond is_luma (fL fraction) (fC fraction)

-- how many samples before the whole place have a tap
abbrev pub taps_before : Bool → ℕ
taps_before is_luma = cond is_luma 3 1

-- of how many bits of a component of a vector the fraction is
abbrev pub fraction_bits : Bool → ℕ
fraction_bits is_luma = cond is_luma 2 3

-- the sum of a tap times value 0, of the next times value 1, and so on
abbrev pub weighted : List ℤ → (ℕ → ℤ) → ℤ
weighted [] value = pos 0
weighted (tap ∷ taps) value = (tap *ℤ value 0) +ℤ weighted taps (λ i. value (suc i))

-- ---- samples

-- The sample of the reference in column xInt of row yInt, or the nearest one where this lies
-- outside (8.5.3.3.3.2, 8.5.3.3.3.3).
abbrev pub reference_sample : Plane → ℤ → ℤ → ℤ
reference_sample reference xInt yInt =
    pos (sample_at reference
    (unsigned_abs (clip3 (pos 0) (pos (reference.width - 1)) xInt))
    (unsigned_abs (clip3 (pos 0) (pos (reference.height - 1)) yInt)))

-- BitDepth - 8
abbrev pub shift1 : ℕ
shift1 = 0

abbrev pub shift2 : ℕ
shift2 = 6

-- 14 - BitDepth
abbrev pub shift3 : ℕ
shift3 = 6

-- The sample of 14 bits that lies xFrac right of column xInt and yFrac below row yInt. With two
-- fractions the rows are filtered first.
abbrev pub predSampleLX : Bool → Plane → ℤ → ℤ → ℕ → ℕ → ℤ
predSampleLX is_luma reference xInt yInt xFrac yFrac =
    let column : ℕ → ℤ = λ i. xInt -ℤ pos (taps_before is_luma) +ℤ pos i in
    let row : ℕ → ℤ = λ i. yInt -ℤ pos (taps_before is_luma) +ℤ pos i in
    let A : ℤ → ℤ → ℤ = reference_sample reference in
    let along : ℤ → ℤ =
    λ y. int_shr (weighted (taps_of is_luma xFrac) (λ i. A (column i) y)) shift1 in
    cond (nat_eq xFrac 0)
    (cond (nat_eq yFrac 0)
    (A xInt yInt *ℤ pos (2 ^ shift3))
    (int_shr (weighted (taps_of is_luma yFrac) (λ i. A xInt (row i))) shift1))
    (cond (nat_eq yFrac 0)
    (along yInt)
    (int_shr (weighted (taps_of is_luma yFrac) (λ i. along (row i))) shift2))

-- a sample of 14 bits, rounded to 8 (8.5.3.3.4.2)
abbrev pub weighted_sample : ℤ → ℕ
weighted_sample predSample = clip1 (int_shr (predSample +ℤ pos 32) 6)

-- a component of a vector: the whole samples, and the fraction behind them (8.5.3.3.3.1)
abbrev pub whole_part : Bool → ℤ → ℤ
whole_part is_luma mv = int_shr mv (fraction_bits is_luma)

abbrev pub fraction : Bool → ℤ → ℕ
fraction is_luma mv = unsigned_abs (int_rem_euclid mv (pos (2 ^ fraction_bits is_luma)))

-- the predicted sample in column x of row y of the picture
abbrev pub inter_sample : Bool → Plane → Mv → ℕ → ℕ → ℕ
inter_sample is_luma reference mv x y =
    weighted_sample (predSampleLX is_luma reference
    (pos x +ℤ whole_part is_luma mv.x) (pos y +ℤ whole_part is_luma mv.y)
    (fraction is_luma mv.x) (fraction is_luma mv.y))

-- the predicted block of so many columns and rows, by rows, from column x of row y on
unfoldable pub inter_predicted : Bool → Plane → Mv → ℕ → ℕ → ℕ → List ℕ
inter_predicted is_luma reference mv x y size =
    (plane_of size size (λ i j. inter_sample is_luma reference mv (x + i) (y + j))).samples
