-- The structure of a group of pictures: their coding order, and each picture's depth and
-- references.
-- Pictures are numbered in output order from 0: the number is the picture order count (8.3.1).
-- Which pictures are anchors, how the ranges between them are halved, the depths, the quantiser of
-- a depth, and which pictures are kept are this project's own rules, which H.265 leaves to the
-- encoder. What list 0 and a reference picture set are is H.265's (8.3.2, 8.3.4).
use Rattle.std.specs.Prelude.{ℕ, zero, suc, ◌+◌, ◌-◌, ◌/◌, ◌^◌, min, Bool, cond, nat_eq, nat_lt, ◌&&◌, List, [], ◌∷◌, ◌++◌, length, flat_map, take, drop, slice_index_or}
use Rattle.std.specs.Int.{abs_diff}
use Rattle.std.specs.List.{list_any}

pub record Coded : Type 0 where
  pub picture : ℕ
  pub depth : ℕ
  -- list 0 (8.3.4): those before the picture, the nearest first, and then those after it, the
  -- nearest first
  pub references : List ℕ

abbrev pub coded : ℕ → ℕ → List ℕ → Coded
coded picture depth references =
    record { picture = picture; depth = depth; references = references }

-- Own rule. The pictures between two that are coded: the middle one, then those before it, then
-- those behind it. A range of at most 2^levels pictures is halved `levels` times at most.
abbrev pub halves : ℕ → ℕ → ℕ → ℕ → List Coded
halves zero low high depth = []
halves (suc levels) low high depth =
    let middle = (low + high) / 2 in
    cond (nat_lt (high - low) 2) []
    (coded middle depth (low ∷ high ∷ []) ∷
    (halves levels low middle (depth + 1) ++ halves levels middle high (depth + 1)))

-- own rule: a block from the anchor before it: the anchor at its end, and what lies between
abbrev pub blocks : ℕ → ℕ → List ℕ → List Coded
blocks levels low [] = []
blocks levels low (high ∷ anchors) =
    coded high 1 (low ∷ []) ∷ (halves levels low high 2 ++ blocks levels high anchors)

abbrev pub multiples : ℕ → ℕ → ℕ → List ℕ
multiples zero from step = []
multiples (suc count) from step = from ∷ multiples count (from + step) step

-- own rule: the multiples of 2^levels below the last picture, and the last picture
abbrev pub anchors : ℕ → ℕ → List ℕ
anchors count levels =
    cond (nat_lt count 2) []
    (multiples ((count - 2) / 2 ^ levels) (2 ^ levels) (2 ^ levels) ++ (count - 1) ∷ [])

-- the pictures of a group in coding order, the first one an IDR
abbrev pub coding : ℕ → ℕ → List Coded
coding count levels = coded 0 0 [] ∷ blocks levels 0 (anchors count levels)

-- own rule: the quantiser of a picture of this depth, one more for each depth (slice_qp_delta)
abbrev pub qp_at : ℕ → ℕ → ℕ
qp_at base depth = min 51 (base + depth)

-- ---- reference picture sets (8.3.2)

-- the place of a picture in coding order
abbrev pub place_in : List Coded → ℕ → ℕ
place_in [] picture = 0
place_in (first ∷ rest) picture =
    cond (nat_eq first.picture picture) 0 (suc (place_in rest picture))

-- one of these pictures is this one
abbrev pub is_among : List Coded → ℕ → Bool
is_among order picture = list_any (λ c. nat_eq c.picture picture) order

-- one of these pictures refers to this one
abbrev pub is_referred : List Coded → ℕ → Bool
is_referred order picture = list_any (λ c. list_any (nat_eq picture) c.references) order

-- Own rule. The picture at this place keeps another one: that was coded before it, and the picture
-- itself or one that is coded after it refers to it.
abbrev pub is_kept : List Coded → ℕ → ℕ → Bool
is_kept order place other =
    is_among (take place order) other && is_referred (drop place order) other

-- the references of the picture at this place
abbrev pub references_at : List Coded → ℕ → List ℕ
references_at order place = (slice_index_or order place (coded 0 0 [])).references

-- the numbers below n from the greatest, and those from n on, so many of them
abbrev pub falling : ℕ → List ℕ
falling zero = []
falling (suc n) = n ∷ falling n

abbrev pub rising : ℕ → ℕ → List ℕ
rising zero n = []
rising (suc count) n = n ∷ rising count (n + 1)

-- a picture of a reference set, by how far it is from the picture that keeps it; it is used where
-- that picture itself refers to it (used_by_curr_pic_s0_flag, used_by_curr_pic_s1_flag)
pub record Kept : Type 0 where
  pub distance : ℕ
  pub is_used : Bool

abbrev pub kept : List Coded → ℕ → ℕ → ℕ → Kept
kept order place picture other = record {
  distance = abs_diff picture other;
  is_used = list_any (nat_eq other) (references_at order place);
}

-- the kept ones among these pictures
abbrev pub kept_among : List Coded → ℕ → ℕ → List ℕ → List Kept
kept_among order place picture others =
    flat_map
    (λ other. cond (is_kept order place other) (kept order place picture other ∷ []) []) others

-- those before the picture in output order, the nearest first, and those after it, the nearest
-- first
pub record ReferenceSet : Type 0 where
  pub before : List Kept
  pub after : List Kept

abbrev pub set_in : List Coded → ℕ → ℕ → ReferenceSet
set_in order count picture =
    let place = place_in order picture in record {
      before = kept_among order place picture (falling picture);
      after = kept_among order place picture (rising (count - 1 - picture) (picture + 1));
    }

-- the reference set of a picture of a group of so many pictures
abbrev pub reference_set : ℕ → ℕ → ℕ → ReferenceSet
reference_set count levels picture = set_in (coding count levels) count picture

-- how many pictures are kept
abbrev pub set_size : ReferenceSet → ℕ
set_size s = length s.before + length s.after

-- ---- by picture

-- what is coded for a picture of a group
abbrev pub coded_of : ℕ → ℕ → ℕ → Coded
coded_of count levels picture =
    let order = coding count levels in slice_index_or order (place_in order picture) (coded 0 0 [])

-- the picture at a place in coding order
abbrev pub picture_at : ℕ → ℕ → ℕ → ℕ
picture_at count levels place = (slice_index_or (coding count levels) place (coded 0 0 [])).picture
