-- The tables of the arithmetic decoder (9.3.4.3.2), and the state after a bin.
use Rattle.std.specs.Prelude.{◌≡◌, ℕ, ◌+◌, ◌-◌, ◌*◌, ◌/◌, ◌%◌, ◌<◌, Bool, cond, nat_eq, nat_lt, min, List, [], ◌∷◌, slice_index_or}
use Rattle.hv_lemmas.specs.Booleans.{same}

-- rangeTabLps (9.3.4.3.2.1): the width of the less probable part of a range. A row for each
-- pStateIdx, which stands before it, and a column for each qRangeIdx, which is the quarter of the
-- range.
abbrev pub rangeTabLps : List (List ℕ)
rangeTabLps =
    -- 0, 1, 2, 3
    -- 0 to 7
    (128 ∷ 176 ∷ 208 ∷ 240 ∷ []) ∷
    (128 ∷ 167 ∷ 197 ∷ 227 ∷ []) ∷
    (128 ∷ 158 ∷ 187 ∷ 216 ∷ []) ∷
    (123 ∷ 150 ∷ 178 ∷ 205 ∷ []) ∷
    (116 ∷ 142 ∷ 169 ∷ 195 ∷ []) ∷
    (111 ∷ 135 ∷ 160 ∷ 185 ∷ []) ∷
    (105 ∷ 128 ∷ 152 ∷ 175 ∷ []) ∷
    (100 ∷ 122 ∷ 144 ∷ 166 ∷ []) ∷
    -- 8 to 15
    (95 ∷ 116 ∷ 137 ∷ 158 ∷ []) ∷
    (90 ∷ 110 ∷ 130 ∷ 150 ∷ []) ∷
    (85 ∷ 104 ∷ 123 ∷ 142 ∷ []) ∷
    (81 ∷ 99 ∷ 117 ∷ 135 ∷ []) ∷
    (77 ∷ 94 ∷ 111 ∷ 128 ∷ []) ∷
    (73 ∷ 89 ∷ 105 ∷ 122 ∷ []) ∷
    (69 ∷ 85 ∷ 100 ∷ 116 ∷ []) ∷
    (66 ∷ 80 ∷ 95 ∷ 110 ∷ []) ∷
    -- 16 to 23
    (62 ∷ 76 ∷ 90 ∷ 104 ∷ []) ∷
    (59 ∷ 72 ∷ 86 ∷ 99 ∷ []) ∷
    (56 ∷ 69 ∷ 81 ∷ 94 ∷ []) ∷
    (53 ∷ 65 ∷ 77 ∷ 89 ∷ []) ∷
    (51 ∷ 62 ∷ 73 ∷ 85 ∷ []) ∷
    (48 ∷ 59 ∷ 69 ∷ 80 ∷ []) ∷
    (46 ∷ 56 ∷ 66 ∷ 76 ∷ []) ∷
    (43 ∷ 53 ∷ 63 ∷ 72 ∷ []) ∷
    -- 24 to 31
    (41 ∷ 50 ∷ 59 ∷ 69 ∷ []) ∷
    (39 ∷ 48 ∷ 56 ∷ 65 ∷ []) ∷
    (37 ∷ 45 ∷ 54 ∷ 62 ∷ []) ∷
    (35 ∷ 43 ∷ 51 ∷ 59 ∷ []) ∷
    (33 ∷ 41 ∷ 48 ∷ 56 ∷ []) ∷
    (32 ∷ 39 ∷ 46 ∷ 53 ∷ []) ∷
    (30 ∷ 37 ∷ 43 ∷ 50 ∷ []) ∷
    (29 ∷ 35 ∷ 41 ∷ 48 ∷ []) ∷
    -- 32 to 39
    (27 ∷ 33 ∷ 39 ∷ 45 ∷ []) ∷
    (26 ∷ 31 ∷ 37 ∷ 43 ∷ []) ∷
    (24 ∷ 30 ∷ 35 ∷ 41 ∷ []) ∷
    (23 ∷ 28 ∷ 33 ∷ 39 ∷ []) ∷
    (22 ∷ 27 ∷ 32 ∷ 37 ∷ []) ∷
    (21 ∷ 26 ∷ 30 ∷ 35 ∷ []) ∷
    (20 ∷ 24 ∷ 29 ∷ 33 ∷ []) ∷
    (19 ∷ 23 ∷ 27 ∷ 31 ∷ []) ∷
    -- 40 to 47
    (18 ∷ 22 ∷ 26 ∷ 30 ∷ []) ∷
    (17 ∷ 21 ∷ 25 ∷ 28 ∷ []) ∷
    (16 ∷ 20 ∷ 23 ∷ 27 ∷ []) ∷
    (15 ∷ 19 ∷ 22 ∷ 25 ∷ []) ∷
    (14 ∷ 18 ∷ 21 ∷ 24 ∷ []) ∷
    (14 ∷ 17 ∷ 20 ∷ 23 ∷ []) ∷
    (13 ∷ 16 ∷ 19 ∷ 22 ∷ []) ∷
    (12 ∷ 15 ∷ 18 ∷ 21 ∷ []) ∷
    -- 48 to 55
    (12 ∷ 14 ∷ 17 ∷ 20 ∷ []) ∷
    (11 ∷ 14 ∷ 16 ∷ 19 ∷ []) ∷
    (11 ∷ 13 ∷ 15 ∷ 18 ∷ []) ∷
    (10 ∷ 12 ∷ 15 ∷ 17 ∷ []) ∷
    (10 ∷ 12 ∷ 14 ∷ 16 ∷ []) ∷
    (9 ∷ 11 ∷ 13 ∷ 15 ∷ []) ∷
    (9 ∷ 11 ∷ 12 ∷ 14 ∷ []) ∷
    (8 ∷ 10 ∷ 12 ∷ 14 ∷ []) ∷
    -- 56 to 63
    (8 ∷ 9 ∷ 11 ∷ 13 ∷ []) ∷
    (7 ∷ 9 ∷ 11 ∷ 12 ∷ []) ∷
    (7 ∷ 9 ∷ 10 ∷ 12 ∷ []) ∷
    (7 ∷ 8 ∷ 10 ∷ 11 ∷ []) ∷
    (6 ∷ 8 ∷ 9 ∷ 11 ∷ []) ∷
    (6 ∷ 7 ∷ 9 ∷ 10 ∷ []) ∷
    (6 ∷ 7 ∷ 8 ∷ 9 ∷ []) ∷
    (2 ∷ 2 ∷ 2 ∷ 2 ∷ []) ∷
    []

-- transIdxLps (9.3.4.3.2.2): the pStateIdx after the less probable value, for each pStateIdx
abbrev pub transIdxLps : List ℕ
transIdxLps =
    -- 0 to 7
    0 ∷ 0 ∷ 1 ∷ 2 ∷ 2 ∷ 4 ∷ 4 ∷ 5 ∷
    -- 8 to 15
    6 ∷ 7 ∷ 8 ∷ 9 ∷ 9 ∷ 11 ∷ 11 ∷ 12 ∷
    -- 16 to 23
    13 ∷ 13 ∷ 15 ∷ 15 ∷ 16 ∷ 16 ∷ 18 ∷ 18 ∷
    -- 24 to 31
    19 ∷ 19 ∷ 21 ∷ 21 ∷ 22 ∷ 22 ∷ 23 ∷ 24 ∷
    -- 32 to 39
    24 ∷ 25 ∷ 26 ∷ 26 ∷ 27 ∷ 27 ∷ 28 ∷ 29 ∷
    -- 40 to 47
    29 ∷ 30 ∷ 30 ∷ 30 ∷ 31 ∷ 32 ∷ 32 ∷ 33 ∷
    -- 48 to 55
    33 ∷ 33 ∷ 34 ∷ 34 ∷ 35 ∷ 35 ∷ 35 ∷ 36 ∷
    -- 56 to 63
    36 ∷ 36 ∷ 37 ∷ 37 ∷ 37 ∷ 38 ∷ 38 ∷ 63 ∷
    []

-- A context variable as one number, its state: 2 * pStateIdx + valMps. The state after the more
-- probable value, after the less probable one, and after a bin of this value (9.3.4.3.2.2).
abbrev pub state_after_mps : ℕ → ℕ
state_after_mps state = 2 * min 62 (state / 2 + 1) + state % 2

abbrev pub state_after_lps : ℕ → ℕ
state_after_lps state =
    2 * slice_index_or transIdxLps (state / 2) 63 + cond (nat_lt state 2) (1 - state) (state % 2)

abbrev pub state_after : ℕ → Bool → ℕ
state_after state value =
    cond (same value (nat_eq (state % 2) 1)) (state_after_mps state) (state_after_lps state)

-- a table has for each state the one after a bin of 0, and the one after a bin of 1
pub record HasNextStates (table : List ℕ) : Type 0 where
  pub each : (state : ℕ) (value : Bool) → state < 128 →
      slice_index_or table (state * 2 + cond value 1 0) 0 ≡ state_after state value
