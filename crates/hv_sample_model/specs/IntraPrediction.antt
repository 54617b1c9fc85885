-- Intra prediction of a transform block from its neighbouring samples (8.4.4.2). The neighbours
-- stand in a line: from the lowest at the left upwards to the corner, and then from above the
-- block to the right. For a block of N columns and rows the line has 4 * N + 1 of them, and the
-- corner is the one at 2 * N.
use Rattle.std.specs.Prelude.{ℕ, ◌+◌, ◌-◌, ◌*◌, ◌/◌, ◌^◌, Bool, cond, not, nat_eq, nat_lt, nat_le, ◌&&◌, ◌||◌, min, List, [], ◌∷◌, slice_index_or, Option, Some, None, ℤ, pos, negsuc, ◌+ℤ◌, ◌-ℤ◌, ◌*ℤ◌}
use Rattle.std.specs.Int.{abs_diff, int_shr, int_rem_euclid}
use Rattle.std.specs.Int.RustNames.{unsigned_abs}
use Rattle.hv_tables.specs.Angles.{intraPredAngle, invAngle}
use Rattle.hv_lemmas.specs.Clipping.{clip1}
use Rattle.hv_sample_model.specs.Blocks.{square, total_of}

-- ---- substitution of the neighbours that aren't available (8.4.4.2.2)

-- the first that is available, or 128
abbrev pub first_available : List (Option ℕ) → ℕ
first_available [] = 128
first_available (None ∷ line) = first_available line
first_available (Some p ∷ line) = p

-- each that is missing takes the one before it
abbrev pub filled_from : ℕ → List (Option ℕ) → List ℕ
filled_from before [] = []
filled_from before (None ∷ line) = before ∷ filled_from before line
filled_from before (Some p ∷ line) = p ∷ filled_from p line

abbrev pub substituted : List (Option ℕ) → List ℕ
substituted line = filled_from (first_available line) line

-- ---- filtering of the neighbours (8.4.4.2.3)

-- each but the last, behind one before it
abbrev pub smoothed_behind : ℕ → List ℕ → List ℕ
smoothed_behind before [] = []
smoothed_behind before (p ∷ []) = p ∷ []
smoothed_behind before (p ∷ next ∷ line) =
    (before + 2 * p + next + 2) / 4 ∷ smoothed_behind p (next ∷ line)

-- each but the first and the last
abbrev pub smoothed : List ℕ → List ℕ
smoothed [] = []
smoothed (first ∷ line) = first ∷ smoothed_behind first line

-- intraHorVerDistThres, of blocks of 8, 16 and 32
abbrev pub intraHorVerDistThres : ℕ → ℕ
intraHorVerDistThres log2 = slice_index_or (7 ∷ 1 ∷ 0 ∷ []) (log2 - 3) 0

-- minDistVerHor
abbrev pub minDistVerHor : ℕ → ℕ
minDistVerHor mode = min (abs_diff mode 26) (abs_diff mode 10)

abbrev pub is_smoothed : ℕ → ℕ → Bool → Bool
is_smoothed log2 mode is_luma =
    is_luma && nat_le 3 log2 && not (nat_eq mode 1) &&
    nat_lt (intraHorVerDistThres log2) (minDistVerHor mode)

-- the neighbours that a mode predicts from
abbrev pub filtered : ℕ → ℕ → Bool → List ℕ → List ℕ
filtered log2 mode is_luma line = cond (is_smoothed log2 mode is_luma) (smoothed line) line

-- ---- samples. The corner is number 0 of either side.

-- p[-1][i - 1]
abbrev pub left : ℕ → List ℕ → ℕ → ℕ
left log2 line i = slice_index_or line (2 * 2 ^ log2 - i) 0

-- p[i - 1][-1]
abbrev pub above : ℕ → List ℕ → ℕ → ℕ
above log2 line i = slice_index_or line (2 * 2 ^ log2 + i) 0

-- Intra_Planar (8.4.4.2.4)
abbrev pub planar : ℕ → List ℕ → ℕ → ℕ → ℕ
planar log2 line x y =
    let n = 2 ^ log2 in
    ((n - 1 - x) * left log2 line (y + 1) + (x + 1) * above log2 line (n + 1) +
    (n - 1 - y) * above log2 line (x + 1) + (y + 1) * left log2 line (n + 1) + n) /
    2 ^ (log2 + 1)

-- Intra_DC (8.4.4.2.5)
abbrev pub dcVal : ℕ → List ℕ → ℕ
dcVal log2 line =
    let n = 2 ^ log2 in
    (total_of n (λ i. above log2 line (i + 1) + left log2 line (i + 1)) + n) /
    2 ^ (log2 + 1)

-- a value whose block is smoothed at its upper and left edge
abbrev pub edged : ℕ → ℕ → List ℕ → ℕ → ℕ → ℕ
edged value log2 line x y =
    cond (nat_eq x 0 && nat_eq y 0) ((left log2 line 1 + 2 * value + above log2 line 1 + 2) / 4)
    (cond (nat_eq y 0) ((above log2 line (x + 1) + 3 * value + 2) / 4)
    (cond (nat_eq x 0) ((left log2 line (y + 1) + 3 * value + 2) / 4) value))

-- the edges of the smaller luma blocks are smoothed
abbrev pub dc : ℕ → Bool → List ℕ → ℕ → ℕ → ℕ
dc log2 is_luma line x y =
    cond (is_luma && nat_lt log2 5) (edged (dcVal log2 line) log2 line x y) (dcVal log2 line)

-- The angular modes (8.4.4.2.6). The modes from 18 on predict from above, the others from the left
-- in the same way, with columns and rows exchanged: `main` is the side that a mode predicts from,
-- `other` the other one.

-- the reference samples: those of the main side, and before the corner those of the other side,
-- projected
abbrev pub ref : (ℕ → ℕ) → (ℕ → ℕ) → ℕ → ℤ → ℕ
ref main other mode (pos i) = main i
ref main other mode (negsuc i) =
    other (unsigned_abs (int_shr (negsuc i *ℤ invAngle mode +ℤ pos 128) 8))

-- the sample between the two reference samples that its line meets: iIdx and iFact
abbrev pub interpolated : (ℕ → ℕ) → (ℕ → ℕ) → ℕ → ℕ → ℕ → ℕ
interpolated main other mode along across =
    let way = pos (across + 1) *ℤ intraPredAngle mode in
    let index = pos (along + 1) +ℤ int_shr way 5 in
    let part = unsigned_abs (int_rem_euclid way (pos 32)) in
    cond (nat_eq part 0) (ref main other mode index)
    (((32 - part) * ref main other mode index +
    part * ref main other mode (index +ℤ pos 1) + 16) / 32)

-- the straight modes follow the other side at the block's edge, in the smaller luma blocks
abbrev pub is_edge : ℕ → ℕ → Bool → ℕ → Bool
is_edge log2 mode is_luma along =
    (nat_eq mode 10 || nat_eq mode 26) && is_luma && nat_lt log2 5 && nat_eq along 0

abbrev pub along_edge : (ℕ → ℕ) → (ℕ → ℕ) → ℕ → ℕ
along_edge main other across =
    clip1 (pos (main 1) +ℤ int_shr (pos (other (across + 1)) -ℤ pos (main 0)) 1)

abbrev pub directed : ℕ → ℕ → Bool → (ℕ → ℕ) → (ℕ → ℕ) → ℕ → ℕ → ℕ
directed log2 mode is_luma main other along across =
    cond (is_edge log2 mode is_luma along) (along_edge main other across)
    (interpolated main other mode along across)

abbrev pub angular : ℕ → ℕ → Bool → List ℕ → ℕ → ℕ → ℕ
angular log2 mode is_luma line x y =
    cond (nat_lt mode 18)
    (directed log2 mode is_luma (left log2 line) (above log2 line) y x)
    (directed log2 mode is_luma (above log2 line) (left log2 line) x y)

-- the predicted sample in column x of row y, from the filtered neighbours
abbrev pub by_mode : ℕ → ℕ → Bool → List ℕ → ℕ → ℕ → ℕ
by_mode log2 mode is_luma line x y =
    cond (nat_eq mode 0) (planar log2 line x y)
    (cond (nat_eq mode 1) (dc log2 is_luma line x y) (angular log2 mode is_luma line x y))

-- the predicted block by rows, from the substituted neighbours
unfoldable pub predicted : ℕ → ℕ → Bool → List ℕ → List ℕ
predicted log2 mode is_luma line =
    square log2 (by_mode log2 mode is_luma (filtered log2 mode is_luma line))
