-- The transform matrix (8.6.4.2). Its entries are those of cosines: one for each step of a turn of
-- 128 steps, of which the first quarter is listed.
use Rattle.std.specs.Prelude.{ℕ, zero, suc, ◌+◌, ◌-◌, ◌*◌, ◌%◌, ◌^◌, cond, nat_le, nat_lt, List, [], ◌∷◌, slice_index_or, ℤ, pos, neg_ℤ}

-- the entries at the steps 1 to 32
abbrev pub quarter_turn : List ℕ
quarter_turn =
    90 ∷ 90 ∷ 90 ∷ 89 ∷ 88 ∷ 87 ∷ 85 ∷ 83 ∷ 82 ∷ 80 ∷ 78 ∷ 75 ∷ 73 ∷ 70 ∷ 67 ∷ 64 ∷
    61 ∷ 57 ∷ 54 ∷ 50 ∷ 46 ∷ 43 ∷ 38 ∷ 36 ∷ 31 ∷ 25 ∷ 22 ∷ 18 ∷ 13 ∷ 9 ∷ 4 ∷ 0 ∷ []

abbrev pub in_quarter : ℕ → ℕ
in_quarter step = slice_index_or quarter_turn (step - 1) 0

-- of a step from 1 to 63: falling in the first quarter, and mirrored with the other sign in the
-- second
abbrev pub in_half : ℕ → ℤ
in_half step = cond (nat_le step 32) (pos (in_quarter step)) (neg_ℤ (pos (in_quarter (64 - step))))

-- of any step that is no multiple of 64: the second half mirrors the first
abbrev pub in_turn : ℕ → ℤ
in_turn step = in_half (cond (nat_lt 64 step) (128 - step) step)

-- row k, column n of the matrix of 32x32
abbrev pub entry : ℕ → ℕ → ℤ
entry zero n = pos 64
entry (suc k) n = in_turn ((2 * n + 1) * suc k % 128)

-- transMatrix of 2^log2 rows: every so many rows of the greatest one
abbrev pub transMatrix : ℕ → ℕ → ℕ → ℤ
transMatrix log2 k n = entry (k * 2 ^ (5 - log2)) n
