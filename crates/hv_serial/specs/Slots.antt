-- Which frame of a group holds which of its pictures. A frame is written anew when no picture that
-- is coded later refers to the one that it holds.
use Rattle.std.specs.Prelude.{◌≡◌, ℕ, zero, suc, ◌+◌, ◌-◌, ◌/◌, ◌%◌, ◌^◌, ◌<◌, ◌≤◌, min, cond, nat_eq, nat_lt, List, [], slice_index_or, All, Option, Some, None}
use Rattle.hv_types.specs.Configuration.{most_levels}
use Rattle.hv_group_model.specs.Structure.{Coded, coded, coding, place_in, coded_of}

-- Own rule. Anchors have two frames in turn, since each one refers to the one before it. Below them
-- each depth has one, since a picture's range is coded before the next picture of its depth.
abbrev pub slot_in : ℕ → List Coded → ℕ → ℕ
slot_in levels order picture =
    let depth = (slice_index_or order (place_in order picture) (coded 0 0 [])).depth in
    cond (nat_lt depth 2) ((picture + (2 ^ levels - 1)) / 2 ^ levels % 2) depth

-- the number of the frame of a picture, in a group of so many
abbrev pub slot_of : ℕ → ℕ → ℕ → ℕ
slot_of count levels picture = slot_in levels (coding count levels) picture

-- how many frames serve so many pictures
abbrev pub frames_for : ℕ → ℕ → ℕ
frames_for count levels = min count (levels + 2)

-- the picture that a frame holds where so many places of the coding order are coded: the last one
-- that is its
unfoldable pub held_in : ℕ → List Coded → ℕ → ℕ → Option ℕ
held_in levels order zero slot = None
held_in levels order (suc place) slot =
    let picture = (slice_index_or order place (coded 0 0 [])).picture in
    cond (nat_eq (slot_in levels order picture) slot) (Some picture)
    (held_in levels order place slot)

-- ---- so many are enough

-- each picture has a frame, and where it is coded each of its references is held by its own
pub record IsServed (count levels : ℕ) : Type 0 where
  pub slots :
      (picture : ℕ) → picture < count → slot_of count levels picture < frames_for count levels
  pub held :
      (picture : ℕ) → picture < count →
      All (λ r. held_in levels (coding count levels) (place_in (coding count levels) picture)
      (slot_of count levels r) ≡ Some r)
      (coded_of count levels picture).references

-- .. for each count and each number of levels
abbrev pub FramesServe : Type 0
FramesServe =
    (count levels : ℕ) → 1 ≤ count → count ≤ 64 → levels ≤ most_levels → IsServed count levels
