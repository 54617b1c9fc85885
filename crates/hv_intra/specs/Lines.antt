-- Lines of neighbouring samples.
use Rattle.std.specs.Prelude.{ℕ, ◌+◌, ◌-◌, ◌*◌, ◌/◌, Bool, nat_eq, ◌||◌, List, [], ◌∷◌, slice_index}

-- 4 * N + 1, for the N of a transform block
abbrev pub is_length_of_line : ℕ → Bool
is_length_of_line n = nat_eq n 17 || nat_eq n 33 || nat_eq n 65 || nat_eq n 129

-- three neighbours weighted 1, 2 and 1 (8.4.4.2.3)
abbrev pub weighted : ℕ → ℕ → ℕ → ℕ
weighted before sample next = (before + 2 * sample + next + 2) / 4

-- a neighbour with those beside it
abbrev pub weighted_at : List ℕ → ℕ → ℕ
weighted_at line i =
    weighted (slice_index line (i - 1)) (slice_index line i) (slice_index line (i + 1))

-- each of one list with those of two others
abbrev pub all_weighted : List ℕ → List ℕ → List ℕ → List ℕ
all_weighted [] samples nexts = []
all_weighted (before ∷ befores) [] nexts = []
all_weighted (before ∷ befores) (sample ∷ samples) [] = []
all_weighted (before ∷ befores) (sample ∷ samples) (next ∷ nexts) =
    weighted before sample next ∷ all_weighted befores samples nexts

-- ---- edges of Intra_DC

-- a sample of an edge, from its neighbour and what is added before the division by 4 (8.4.4.2.5)
abbrev pub edge_of : ℕ → ℕ → ℕ
edge_of more neighbour = (neighbour + more) / 4
