-- The search over displacements of a block.
use Rattle.std.specs.Prelude.{◌≡◌, ℕ, ◌+◌, ◌-◌, ◌*◌, ◌/◌, ◌%◌, ◌<◌, ◌≤◌, zero, suc, ◌==◌, cond, min, List, [], ◌∷◌, take, drop, length, slice_index}
use Rattle.hv_kernel.specs.Differences.{sad_of}
use Rattle.hv_kernel.specs.Blocks.{sum_of_rows}

-- the members of two lists in turn
abbrev pub weave : List ℕ → List ℕ → List ℕ
weave [] ys = []
weave (x ∷ xs) [] = []
weave (x ∷ xs) (y ∷ ys) = x ∷ y ∷ weave xs ys

-- `n` samples of row `y` from column `x` on
abbrev pub piece : List ℕ → ℕ → ℕ → ℕ → ℕ → List ℕ
piece samples stride x y n = take n (drop (y * stride + x) samples)

-- the plain sum over a square of the block at (x, y), where the other picture's is (dx, dy) further
abbrev pub node_sad : List ℕ → List ℕ → ℕ → ℕ → ℕ → ℕ → ℕ → ℕ → ℕ
node_sad s r stride x y side dx dy =
    sum_of_rows (λ i. sad_of (piece s stride x (y + i) side)
    (piece r stride (x + dx) (y + dy + i) side)) side

-- where the square of 8x8 at a place of the sums lies, in squares
abbrev pub column_at : ℕ → ℕ
column_at p = p / 16 % 2 + 2 * (p / 4 % 2) + 4 * (p % 2)

abbrev pub row_at : ℕ → ℕ
row_at p = p / 32 % 2 + 2 * (p / 8 % 2) + 4 * (p / 2 % 2)

-- `n` rows of `n` samples are there
abbrev pub Holds : List ℕ → ℕ → ℕ → Type 0
Holds samples stride n = (y : ℕ) → y < n → y * stride + n ≤ length samples

-- the window, row by row, each woven with the next
abbrev pub IsWovenWindow : List ℕ → ℕ → List ℕ → Type 0
IsWovenWindow r stride window =
    (y x : ℕ) → y < 79 → x + 8 ≤ 80 → take 16 (drop (160 * y + 2 * x) window) ≡
    weave (piece r stride x y 8) (piece r stride x (y + 1) 8)

-- two rows of the square of 8x8 at a place
abbrev pub woven_rows : List ℕ → ℕ → ℕ → ℕ → List ℕ
woven_rows s stride p q =
    weave (piece s stride (8 * column_at p) (8 * row_at p + 2 * q) 8)
    (piece s stride (8 * column_at p) (8 * row_at p + (2 * q + 1)) 8)

-- the block, square by square, each two rows woven
abbrev pub IsWovenBlock : List ℕ → ℕ → List ℕ → Type 0
IsWovenBlock s stride packed =
    (p q : ℕ) → p < 64 → q < 4 → take 16 (drop (64 * p + 16 * q) packed) ≡ woven_rows s stride p q

-- the score of the square of 8x8 at a place
abbrev pub square_sad : List ℕ → List ℕ → ℕ → ℕ → ℕ → ℕ → ℕ
square_sad s r stride dx dy p = node_sad s r stride (8 * column_at p) (8 * row_at p) 8 dx dy

-- candidate `i` of `n` has the least score, and none before it has that
abbrev pub IsFirstLeast : (ℕ → ℕ) → ℕ → ℕ → Type 0
IsFirstLeast score n i =
    (i < n) × ((j : ℕ) → j < n → score i ≤ score j) × ((j : ℕ) → j < i → score i < score j)

-- two squares of 8x8 that are woven, at `at` in one list and at `there` in the window
abbrev pub woven_sad : List ℕ → ℕ → List ℕ → ℕ → ℕ
woven_sad packed at window there =
    (sad_of (take 16 (drop at packed)) (take 16 (drop there window)) +
    sad_of (take 16 (drop (at + 16) packed)) (take 16 (drop (there + 320) window))) +
    (sad_of (take 16 (drop (at + 32) packed)) (take 16 (drop (there + 640) window)) +
    sad_of (take 16 (drop (at + 48) packed)) (take 16 (drop (there + 960) window)))

-- where the square at place p lies in the window, dx columns and dy rows further on
abbrev pub there_of : ℕ → ℕ → ℕ → ℕ
there_of p dx dy = 160 * (8 * row_at p + dy) + 16 * column_at p + 2 * dx

-- the number of the candidate that stands at place t of the rows: the middle one has come first
abbrev pub number_at : ℕ → ℕ
number_at t = cond (t == 144) 0 (t + 1)

-- a candidate's place in the rows
abbrev pub place_of : ℕ → ℕ
place_of i = cond (i == 0) 144 (i - 1)

-- the sums of nodes of 16, 32 and 64 from 64 sums that begin at `at`
abbrev pub sum_16 : List ℕ → ℕ → ℕ → ℕ
sum_16 sums at j =
    (slice_index sums (at + j) + slice_index sums (at + (16 + j))) +
    (slice_index sums (at + (32 + j)) + slice_index sums (at + (48 + j)))

abbrev pub sum_32 : List ℕ → ℕ → ℕ → ℕ
sum_32 sums at k =
    (sum_16 sums at k + sum_16 sums at (4 + k)) + (sum_16 sums at (8 + k) + sum_16 sums at (12 + k))

abbrev pub sum_64 : List ℕ → ℕ → ℕ
sum_64 sums at = ((sum_32 sums at 0 + sum_32 sums at 1) + sum_32 sums at 2) + sum_32 sums at 3

-- the least of `start` and f 0, .., f (n - 1)
unfoldable pub least_of : ℕ → (ℕ → ℕ) → ℕ → ℕ
least_of start f zero = start
least_of start f (suc n) = min (least_of start f n) (f n)

-- a score of 64x64 samples at most
abbrev pub IsScore : (ℕ → ℕ) → Type 0
IsScore score = score 0 ≤ 1044480

abbrev pub key_at : (ℕ → ℕ) → ℕ → ℕ
key_at score t = score t * 512 + number_at t

-- the least of all keys shows the first least of the candidates 0 to 289, and its score
abbrev pub LeastKeyShows : Type 0
LeastKeyShows = (score : ℕ → ℕ) → IsScore score → (k : ℕ) →
    k ≡ least_of 4294967295 (key_at score) 289 →
    IsFirstLeast (λ i. score (place_of i)) 290 (k % 512) × (k / 512 ≡ score (place_of (k % 512)))

-- the score of the node at place p when the other block lies where t says
abbrev pub score_at : List ℕ → List ℕ → ℕ → ℕ → ℕ → ℕ → ℕ
score_at s r stride p side t =
    node_sad s r stride (8 * column_at p) (8 * row_at p) side (t % 17) (t / 17)

-- a key shows the first candidate of the least score, and the score
abbrev pub ShowsBest : List ℕ → List ℕ → ℕ → ℕ → ℕ → ℕ → Type 0
ShowsBest s r stride p side key =
    IsFirstLeast (λ i. score_at s r stride p side (place_of i)) 290 (key % 512) ×
    (key / 512 ≡ score_at s r stride p side (place_of (key % 512)))
