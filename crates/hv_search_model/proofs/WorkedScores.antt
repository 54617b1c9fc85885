-- Worked scores of motion search, and the vectors of nodes that they give.
use Rattle.std.proofs.Common.{◌≡◌, refl, ℕ, [], ◌∷◌, ◌++◌, ◌+◌, ◌*◌, map, replicate, pos, negsuc}
use Rattle.std.specs.Prelude.{Some, None, ◌/◌, ◌-◌, min}
use Rattle.hv_lemmas.specs.Lists.{tabulate}
use Rattle.hv_types.specs.declared.settings.Settings.{Settings}
use Rattle.hv_types.specs.declared.settings.Emit.TheVariants.{Stream}
use Rattle.hv_types.specs.declared.picture.Picture.{Picture}
use Rattle.hv_types.specs.GroupInput.{GroupInput}
use Rattle.hv_types.specs.Samples.{Plane, plane_of, plane_by_rows, filled_plane}
use Rattle.hv_sample_model.specs.Blocks.{total_of}
use Rattle.hv_filter_model.specs.Blocks.{Area}
use Rattle.hv_search_model.specs.MotionSearch.{vector, least_around, best_vector, moved_sample, quarter_size, block_area, coarse_score, full_score, fractional_score, node_vector, motion}

-- ---- the picture of quarter size

-- squares of 4x4 that sum to 7, to 8 and to 16 * 255
quarters :
    quarter_size (plane_by_rows 12 4
    (0 ∷ 0 ∷ 0 ∷ 0 ∷ 8 ∷ 0 ∷ 0 ∷ 0 ∷ 255 ∷ 255 ∷ 255 ∷ 255 ∷
    0 ∷ 0 ∷ 0 ∷ 0 ∷ 0 ∷ 0 ∷ 0 ∷ 0 ∷ 255 ∷ 255 ∷ 255 ∷ 255 ∷
    0 ∷ 0 ∷ 0 ∷ 0 ∷ 0 ∷ 0 ∷ 0 ∷ 0 ∷ 255 ∷ 255 ∷ 255 ∷ 255 ∷
    0 ∷ 0 ∷ 0 ∷ 7 ∷ 0 ∷ 0 ∷ 0 ∷ 0 ∷ 255 ∷ 255 ∷ 255 ∷ 255 ∷ [])) ≡
    plane_by_rows 3 1 (0 ∷ 1 ∷ 255 ∷ [])
unfolding quarter_size tabulate total_of
quarters = refl

-- squares of 0, 1, .. and 5 in two rows
six_squares :
    quarter_size (plane_of 12 8 (λ x y. x / 4 + 3 * (y / 4))) ≡
    plane_by_rows 3 2 (0 ∷ 1 ∷ 2 ∷ 3 ∷ 4 ∷ 5 ∷ [])
unfolding quarter_size tabulate total_of
six_squares = refl

abbrev area : ℕ → ℕ → ℕ → ℕ → Area
area left top columns rows = record { left = left; top = top; columns = columns; rows = rows }

-- of a picture of 200x120
blocks :
    let plane = filled_plane 50 30 0 in
    block_area plane 0 0 ∷ block_area plane 63 63 ∷ block_area plane 64 0 ∷
    block_area plane 0 64 ∷ block_area plane 199 119 ∷ [] ≡
    area 0 0 16 16 ∷ area 0 0 16 16 ∷ area 16 0 16 16 ∷ area 0 16 16 14 ∷ area 48 16 2 14 ∷ []
blocks = refl

-- ---- where vectors lead

abbrev six : Plane
six = plane_by_rows 3 2 (10 ∷ 20 ∷ 30 ∷ 40 ∷ 50 ∷ 60 ∷ [])

from_the_middle : map (λ mv. moved_sample six mv 1 0)
    (vector (pos 0) (pos 0) ∷ vector (pos 1) (pos 1) ∷ vector (negsuc 0) (pos 1) ∷
    vector (pos 2) (pos 2) ∷ vector (negsuc 1) (negsuc 0) ∷ vector (negsuc 71) (pos 72) ∷ []) ≡
    20 ∷ 60 ∷ 40 ∷ 60 ∷ 10 ∷ 40 ∷ []
from_the_middle = refl

-- ---- scores

-- 6, 7, 10 and 11 of the input, and 20, 30, 21 and 31 of the reference, or 32 alone
full_scores : map
    (full_score (plane_of 4 3 (λ x y. 1 + x + 4 * y)) (plane_of 4 3 (λ x y. 10 * x + y)) 1 1 2)
    (vector (pos 1) (negsuc 0) ∷ vector (pos 3) (pos 1) ∷ []) ≡
    68 ∷ 94 ∷ []
unfolding tabulate total_of
full_scores = refl

-- Both are 0, 40, 80, 120 and 10, 50, 90, 130 in squares of 4x4.
coarse_scores :
    let picture = plane_of 16 8 (λ x y. 40 * (x / 4) + 10 * (y / 4)) in
    map (coarse_score picture picture 8 0)
    (vector (pos 0) (pos 0) ∷ vector (pos 1) (pos 0) ∷ vector (negsuc 0) (pos 0) ∷
    vector (pos 0) (pos 1) ∷ vector (pos 0) (negsuc 0) ∷ []) ≡
    0 ∷ 240 ∷ 240 ∷ 40 ∷ 40 ∷ []
unfolding quarter_size tabulate total_of
coarse_scores = refl

-- a block of 16x2 in a picture of quarter size, and the 2x2 behind it: each sample differs by 2
coarse_scores_of_parts :
    map (λ x. coarse_score (filled_plane 72 8 5) (filled_plane 72 8 3) x 0 (vector (pos 3) (pos 4)))
    (0 ∷ 63 ∷ 64 ∷ []) ≡
    64 ∷ 64 ∷ 8 ∷ []
unfolding quarter_size tabulate total_of
coarse_scores_of_parts = refl

-- one sample of 192 among others of 128, by the taps of quarters and halves at its left
fractional_scores :
    let reference = plane_by_rows 16 1 (replicate 8 128 ++ 192 ∷ replicate 7 128) in
    map (fractional_score (filled_plane 16 1 128) reference 5 0 1)
    (vector (pos 1) (pos 0) ∷ vector (pos 2) (pos 0) ∷ vector (pos 12) (pos 0) ∷
    vector (pos 12) (pos 1) ∷ vector (pos 13) (pos 0) ∷ vector (negsuc 0) (pos 0) ∷ []) ≡
    1 ∷ 4 ∷ 64 ∷ 64 ∷ 58 ∷ 1 ∷ []
unfolding tabulate total_of
fractional_scores = refl

-- ---- vectors of nodes. An input shows what its reference shows so many samples to the right of it
-- and below, the nearest sample where that lies outside.

-- 5 to the right and 3 up
moved_a_little :
    node_vector 1
    (plane_of 16 16 (λ x y. min (x + 5) 15 * min (x + 5) 15 / 2 + (y - 3) * (y - 3) / 2))
    (plane_of 16 16 (λ x y. x * x / 2 + y * y / 2)) 0 8 8 ≡
    Some (vector (pos 20) (negsuc 11))
unfolding node_vector best_vector least_around quarter_size tabulate total_of
moved_a_little = refl

-- 64 to the left, in a picture of one row of blocks
moved_left :
    node_vector 1 (plane_of 72 8 (λ x y. 2 * (x - 64) + 9 * y))
    (plane_of 72 8 (λ x y. 2 * x + 9 * y))
    64 0 8 ≡
    Some (vector (negsuc 255) (pos 0))
unfolding node_vector best_vector least_around quarter_size tabulate total_of
moved_left = refl

-- 64 down, in a picture of one column of them
moved_down :
    node_vector 1 (plane_of 8 72 (λ x y. 9 * x + 2 * min (y + 64) 71))
    (plane_of 8 72 (λ x y. 9 * x + 2 * y)) 0 0 8 ≡
    Some (vector (pos 0) (pos 256))
unfolding node_vector best_vector least_around quarter_size tabulate total_of
moved_down = refl

-- 67 to the right: 16 in quarter size, and 3
moved_right :
    node_vector 1 (plane_of 80 8 (λ x y. 2 * min (x + 67) 79 + 9 * y))
    (plane_of 80 8 (λ x y. 2 * x + 9 * y)) 0 0 8 ≡
    Some (vector (pos 268) (pos 0))
unfolding node_vector best_vector least_around quarter_size tabulate total_of
moved_right = refl

-- at effort 2 too
not_moved :
    let picture = plane_of 8 8 (λ x y. x * x + 3 * y * y) in
    node_vector 2 picture picture 0 0 8 ≡ Some (vector (pos 0) (pos 0))
unfolding node_vector best_vector least_around quarter_size tabulate total_of
not_moved = refl

-- nodes that cross an edge of 24x16, and effort 0
not_searched :
    let picture = filled_plane 24 16 0 in
    node_vector 1 picture picture 0 16 8 ∷ node_vector 1 picture picture 24 0 8 ∷
    node_vector 2 picture picture 16 0 16 ∷ node_vector 2 picture picture 0 0 32 ∷
    node_vector 0 picture picture 0 0 8 ∷ [] ≡
    None ∷ None ∷ None ∷ None ∷ None ∷ []
unfolding node_vector
not_searched = refl

-- one that ends at both edges
flat : node_vector 1 (filled_plane 16 8 9) (filled_plane 16 8 7) 8 0 8 ≡
    Some (vector (pos 0) (pos 0))
unfolding node_vector best_vector least_around quarter_size tabulate total_of
flat = refl

-- ---- in a group: three pictures, of which the second refers to the first and to the third

abbrev settings : Settings
settings = record {
  width = 16;
  height = 8;
  qp = 32;
  levels = 1;
  group = 3;
  workers = 1;
  effort = 1;
  segment = 1;
  emit = Stream;
  synth = None;
}

-- a picture that shows what the first one shows so many samples to the right
abbrev picture_ahead : ℕ → Picture
picture_ahead n = record {
  luma = plane_of 16 8 (λ x y. 4 * min (x + n) 15 + 20 * y);
  cb = filled_plane 8 4 128;
  cr = filled_plane 8 4 128;
}

abbrev group_of_three : GroupInput
group_of_three = record {
  config = settings;
  pictures = picture_ahead 0 ∷ picture_ahead 1 ∷ picture_ahead 3 ∷ [];
}

-- 1 to the right in the first, 2 to the left in the third
of_the_second : motion group_of_three 1 0 8 0 8 ∷ motion group_of_three 1 1 8 0 8 ∷ [] ≡
    Some (vector (pos 4) (pos 0)) ∷ Some (vector (negsuc 7) (pos 0)) ∷ []
unfolding motion node_vector best_vector least_around quarter_size tabulate total_of
of_the_second = refl

-- the third refers to the first alone, the first to none, and there is no fourth
no_reference :
    motion group_of_three 1 2 8 0 8 ∷ motion group_of_three 2 1 8 0 8 ∷
    motion group_of_three 0 0 8 0 8 ∷ motion group_of_three 3 0 8 0 8 ∷ [] ≡
    None ∷ None ∷ None ∷ None ∷ []
unfolding motion
no_reference = refl
