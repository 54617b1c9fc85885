-- The nodes of a block of 64x64 by their numbers: 64 of 8x8, 16 of 16x16, 4 of 32x32 and the block
-- itself, and the vectors of the full stage by theirs.
use Rattle.std.specs.Prelude.{◌≡◌, ℕ, ◌+◌, ◌-◌, ◌*◌, ◌/◌, ◌%◌, ◌<◌, ◌≤◌, cond, nat_lt, List, slice_index, slice_index_or, pos, ◌-ℤ◌}
use Rattle.hv_plan.specs.declared.prediction.Mv.{Mv}
use Rattle.hv_types.specs.Samples.{Plane}
use Rattle.hv_search_model.specs.MotionSearch.{vector, moved, times, least_around, full_score, fractional_score, Score}
use Rattle.hv_search.specs.Nodes.{column_at, row_at, place_of}

abbrev pub node_count : ℕ
node_count = 85

abbrev pub side_of : ℕ → ℕ
side_of n = cond (nat_lt n 64) 8 (cond (nat_lt n 80) 16 (cond (nat_lt n 84) 32 64))

-- its place among those of its size
abbrev pub place_among : ℕ → ℕ
place_among n =
    cond (nat_lt n 64) n (cond (nat_lt n 80) (n - 64) (cond (nat_lt n 84) (n - 80) 0))

-- where it begins in the block
abbrev pub left_of : ℕ → ℕ
left_of n = 8 * column_at (place_among n)

abbrev pub top_of : ℕ → ℕ
top_of n = 8 * row_at (place_among n)

-- it lies wholly inside of a plane, where the block begins in column x of row y
pub record IsInside (plane : Plane) (x y n : ℕ) : Type 0 where
  pub across : x + left_of n + side_of n ≤ plane.width
  pub down : y + top_of n + side_of n ≤ plane.height

-- the vector of this number of those around another one: 0 is that one, and then they go by rows
abbrev pub full_candidate : Mv → ℕ → Mv
full_candidate mv i = moved mv (pos (place_of i % 17) -ℤ pos 8) (pos (place_of i / 17) -ℤ pos 8)

-- the keys of nodes show the vectors of the full stage around a vector
abbrev pub ShowFull : Plane → Plane → ℕ → ℕ → Mv → List ℕ → Type 0
ShowFull input reference x y mv keys =
    (n : ℕ) → n < node_count → IsInside input x y n →
    least_around (full_score input reference (x + left_of n) (y + top_of n) (side_of n)) 8 1 mv ≡
    full_candidate mv (slice_index keys n % 512)

-- the vector of a node of this side at column X of row Y, from that of the coarse stage in samples
abbrev pub found_vector : ℕ → Plane → Plane → Mv → ℕ → ℕ → ℕ → Mv
found_vector effort input reference centre X Y side =
    let fractional : Score = fractional_score input reference X Y side in
    let whole : Mv = times 4 (least_around (full_score input reference X Y side) 8 1 centre) in
    cond (nat_lt effort 2) whole (least_around fractional 1 1 (least_around fractional 1 2 whole))

-- so with node n of the block that begins in column x of row y
abbrev pub node_found : ℕ → Plane → Plane → Mv → ℕ → ℕ → ℕ → Mv
node_found effort input reference centre x y n =
    found_vector effort input reference centre (x + left_of n) (y + top_of n) (side_of n)

abbrev pub no_vector : Mv
no_vector = vector (pos 0) (pos 0)

-- the first so many vectors of a block
abbrev pub AreFound : ℕ → Plane → Plane → Mv → ℕ → ℕ → ℕ → List Mv → Type 0
AreFound effort input reference centre x y count vectors =
    (n : ℕ) → n < count → IsInside input x y n →
    slice_index_or vectors n no_vector ≡ node_found effort input reference centre x y n
