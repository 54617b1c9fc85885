-- Motion search: the vector that the encoder tries for a node of a picture and a picture to which
-- it refers. H.265 leaves it free. It is found on padded input pictures alone, in four stages, each
-- of which takes the first of least score of a vector and of those around it: in samples of a
-- picture of quarter size, in samples, in halves and in quarters of a sample.
use Rattle.std.specs.Prelude.{ℕ, ◌+◌, ◌-◌, ◌*◌, ◌/◌, ◌^◌, min, Bool, cond, nat_eq, nat_lt, ◌||◌, List, length, map, flat_map, slice_get, Option, Some, None, option_map, true, ℤ, pos, ◌+ℤ◌, ◌-ℤ◌, ◌*ℤ◌}
use Rattle.std.specs.Option.{option_and_then}
use Rattle.std.specs.Int.{abs_diff}
use Rattle.std.specs.Int.RustNames.{unsigned_abs}
use Rattle.hv_lemmas.specs.Clipping.{clip3}
use Rattle.hv_lemmas.specs.Lists.{tabulate}
use Rattle.hv_types.specs.GroupInput.{GroupInput}
use Rattle.hv_types.specs.Samples.{Plane, plane_of, sample_at}
use Rattle.hv_plan.specs.declared.prediction.Mv.{Mv}
use Rattle.hv_sample_model.specs.Blocks.{total_of}
use Rattle.hv_filter_model.specs.Blocks.{luma_side, Area}
use Rattle.hv_filter_model.specs.Costs.{first_least}
use Rattle.hv_inter_model.specs.Interpolation.{inter_sample}
use Rattle.hv_group_model.specs.Structure.{coded_of}

-- ---- vectors

abbrev pub vector : ℤ → ℤ → Mv
vector x y = record { x = x; y = y }

-- the vector that leads so much further right and down
abbrev pub moved : Mv → ℤ → ℤ → Mv
moved mv right down = vector (mv.x +ℤ right) (mv.y +ℤ down)

-- the vector that is so many times as long
abbrev pub times : ℕ → Mv → Mv
times n mv = vector (pos n *ℤ mv.x) (pos n *ℤ mv.y)

-- so many steps back, each this long, then one less, and so on up to so many steps ahead
abbrev pub steps : ℕ → ℕ → List ℤ
steps reach step = tabulate (2 * reach + 1) (λ i. pos (step * i) -ℤ pos (step * reach))

-- the vectors up to so many steps around one: rows from top to bottom, each from left to right
abbrev pub around : ℕ → ℕ → Mv → List Mv
around reach step mv =
    flat_map (λ down. map (λ right. moved mv right down) (steps reach step)) (steps reach step)

-- ---- the stages

-- how well a vector does, the less the better
abbrev pub Score : Type 0
Score = Mv → ℕ

-- a vector or one around it: the first of those of least score, where the vector itself comes first
unfoldable pub least_around : Score → ℕ → ℕ → Mv → Mv
least_around score reach step mv = first_least score mv (around reach step mv)

-- the scores of a node: of vectors in whole samples of the pictures of quarter size, in whole
-- samples, and in quarters of a sample
pub record Scores : Type 0 where
  pub coarse : Score
  pub full : Score
  pub fractional : Score

-- in samples of the pictures of quarter size
abbrev pub coarse_vector : Scores → Mv
coarse_vector scores = least_around scores.coarse 16 1 (vector (pos 0) (pos 0))

-- in samples
abbrev pub full_vector : Scores → Mv
full_vector scores = least_around scores.full 8 1 (times 4 (coarse_vector scores))

-- in quarters of a sample, as all that follow
abbrev pub whole_vector : Scores → Mv
whole_vector scores = times 4 (full_vector scores)

abbrev pub half_vector : Scores → Mv
half_vector scores = least_around scores.fractional 1 2 (whole_vector scores)

abbrev pub quarter_vector : Scores → Mv
quarter_vector scores = least_around scores.fractional 1 1 (half_vector scores)

-- halves and quarters of a sample are tried from effort 2 on
unfoldable pub best_vector : ℕ → Scores → Mv
best_vector effort scores =
    cond (nat_lt effort 2) (whole_vector scores) (quarter_vector scores)

-- ---- scores

-- the sum of absolute differences of an area of a plane and of what is predicted for it, which is
-- given by the columns and rows of the plane
abbrev pub absolute_differences : Plane → Area → (ℕ → ℕ → ℕ) → ℕ
absolute_differences input area predicted =
    total_of area.rows (λ j. total_of area.columns (λ i.
    abs_diff (sample_at input (area.left + i) (area.top + j))
    (predicted (area.left + i) (area.top + j))))

-- the place on a side that is nearest to a coordinate
abbrev pub nearest : ℕ → ℤ → ℕ
nearest side coordinate = unsigned_abs (clip3 (pos 0) (pos (side - 1)) coordinate)

-- the sample of a plane to which a vector in whole samples leads from column x of row y, or the
-- nearest one where it leads outside
abbrev pub moved_sample : Plane → Mv → ℕ → ℕ → ℕ
moved_sample reference mv x y =
    sample_at reference (nearest reference.width (pos x +ℤ mv.x))
    (nearest reference.height (pos y +ℤ mv.y))

-- The picture of quarter size has a sample for each square of 4x4: its mean, a half rounded up.
abbrev pub mean_of_square : Plane → ℕ → ℕ → ℕ
mean_of_square luma x y =
    (total_of 4 (λ j. total_of 4 (λ i. sample_at luma (4 * x + i) (4 * y + j))) + 8) / 2 ^ 4

unfoldable pub quarter_size : Plane → Plane
quarter_size luma = plane_of (luma.width / 4) (luma.height / 4) (mean_of_square luma)

-- the side of a coding tree block there
abbrev pub quarter_side : ℕ
quarter_side = luma_side / 4

-- what a plane of quarter size has of the coding tree block in which column x of row y lies, in
-- luma samples
abbrev pub block_area : Plane → ℕ → ℕ → Area
block_area plane x y =
    let left = quarter_side * (x / luma_side) in
    let top = quarter_side * (y / luma_side) in record {
      left = left;
      top = top;
      columns = min quarter_side (plane.width - left);
      rows = min quarter_side (plane.height - top);
    }

-- the node of this side that begins in column x of row y
abbrev pub node_area : ℕ → ℕ → ℕ → Area
node_area x y side = record { left = x; top = y; columns = side; rows = side }

abbrev pub coarse_score : Plane → Plane → ℕ → ℕ → Score
coarse_score input reference x y mv =
    let plane = quarter_size input in
    absolute_differences plane (block_area plane x y) (moved_sample (quarter_size reference) mv)

abbrev pub full_score : Plane → Plane → ℕ → ℕ → ℕ → Score
full_score input reference x y side mv =
    absolute_differences input (node_area x y side) (moved_sample reference mv)

-- of what inter prediction from the padded input picture gives (8.5.3.3.3)
abbrev pub fractional_score : Plane → Plane → ℕ → ℕ → ℕ → Score
fractional_score input reference x y side mv =
    absolute_differences input (node_area x y side) (inter_sample true reference mv)

abbrev pub scores_of : Plane → Plane → ℕ → ℕ → ℕ → Scores
scores_of input reference x y side = record {
  coarse = coarse_score input reference x y;
  full = full_score input reference x y side;
  fractional = fractional_score input reference x y side;
}

-- ---- the vector of a node

-- it crosses the right or the bottom edge
abbrev pub crosses_edge : Plane → ℕ → ℕ → ℕ → Bool
crosses_edge plane x y side = nat_lt plane.width (x + side) || nat_lt plane.height (y + side)

-- The vector, in quarters of a sample, from the luma of an input picture to that of its reference,
-- for the node of this side that begins in column x of row y. None where nothing is searched.
unfoldable pub node_vector : ℕ → Plane → Plane → ℕ → ℕ → ℕ → Option Mv
node_vector effort input reference x y side =
    cond (nat_eq effort 0 || crosses_edge input x y side) None
    (Some (best_vector effort (scores_of input reference x y side)))

-- ---- in a group

abbrev pub luma_of : GroupInput → ℕ → Option Plane
luma_of group k = option_map (λ picture. picture.luma) (slice_get group.pictures k)

-- the number of the picture at this entry of list 0 of picture k (8.3.4)
abbrev pub reference_of : GroupInput → ℕ → ℕ → Option ℕ
reference_of group k entry =
    slice_get (coded_of (length group.pictures) group.config.levels k).references entry

abbrev pub vector_between : ℕ → Option Plane → Option Plane → ℕ → ℕ → ℕ → Option Mv
vector_between effort None reference x y side = None
vector_between effort (Some input) None x y side = None
vector_between effort (Some input) (Some reference) x y side =
    node_vector effort input reference x y side

-- the vector of a node of picture k and of this entry of its list 0
unfoldable pub motion : GroupInput → ℕ → ℕ → ℕ → ℕ → ℕ → Option Mv
motion group k entry x y side =
    vector_between group.config.effort (luma_of group k)
    (option_and_then (luma_of group) (reference_of group k entry)) x y side
