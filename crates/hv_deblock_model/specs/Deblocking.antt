-- Deblocking (8.7.2): the picture behind the filter, in two passes of formulas. All vertical edges
-- of the picture are filtered first, and then all horizontal ones, with what the first pass gave as
-- input. No sample is of two edges of one pass: edges lie 8 samples apart, and a filter reads and
-- changes 4 at each side at most.
use Rattle.std.specs.Prelude.{ℕ, zero, suc, ◌+◌, ◌-◌, ◌*◌, ◌/◌, ◌%◌, cond, nat_lt, ◌&&◌}
use Rattle.hv_types.specs.declared.picture.Picture.{Picture}
use Rattle.hv_types.specs.Samples.{Plane, plane_of, sample_at}
use Rattle.hv_deblock_model.specs.declared.line.Side.{Side}
use Rattle.hv_deblock_model.specs.declared.line.Line.{Line}
use Rattle.hv_deblock_model.specs.EdgeStrength.{Squares, edge_strength}
use Rattle.hv_deblock_model.specs.EdgeFilters.{luma_edge, chroma_edge}

-- ---- lines across edges

-- the samples of a component by column and row
abbrev pub Samples : Type 0
Samples = ℕ → ℕ → ℕ

-- with columns for rows
abbrev pub turned : {A : Type 0} → (ℕ → ℕ → A) → ℕ → ℕ → A
turned f x y = f y x

-- row y across the vertical edge number k, which is at the left of column 8k
abbrev pub line_at : Samples → ℕ → ℕ → Line
line_at samples k y = record {
  p = record {
    s0 = samples (8 * k - 1) y;
    s1 = samples (8 * k - 2) y;
    s2 = samples (8 * k - 3) y;
    s3 = samples (8 * k - 4) y;
  };
  q = record {
    s0 = samples (8 * k) y;
    s1 = samples (8 * k + 1) y;
    s2 = samples (8 * k + 2) y;
    s3 = samples (8 * k + 3) y;
  };
}

-- sample i of a side, from the edge away
abbrev pub side_sample : Side → ℕ → ℕ
side_sample s zero = s.s0
side_sample s (suc zero) = s.s1
side_sample s (suc (suc zero)) = s.s2
side_sample s (suc (suc (suc i))) = s.s3

-- sample i of a line, from the left
abbrev pub line_sample : Line → ℕ → ℕ
line_sample line i = cond (nat_lt i 4) (side_sample line.p (3 - i)) (side_sample line.q (i - 4))

-- ---- a pass over a component: all vertical edges

-- The filter of an edge: the new samples in a row, from those in the first and in the last of the
-- four rows that are decided on together, and in this one.
abbrev pub EdgeFilter : Type 0
EdgeFilter = ℕ → ℕ → Line → Line → Line → Line

-- the number of the edge that a column is nearest to
abbrev pub nearest_edge : ℕ → ℕ
nearest_edge x = (x + 4) / 8

-- the first of four rows
abbrev pub first_of_four : ℕ → ℕ
first_of_four y = 4 * (y / 4)

-- row y across edge k, filtered
abbrev pub filtered_line : EdgeFilter → Samples → ℕ → ℕ → Line
filtered_line edge samples k y =
    edge k y
    (line_at samples k (first_of_four y))
    (line_at samples k (first_of_four y + 3))
    (line_at samples k y)

-- the sample in column x of row y, in so many columns: the picture's borders are no edges
abbrev pub pass : ℕ → EdgeFilter → Samples → Samples
pass columns edge samples x y =
    cond (nat_lt 0 (nearest_edge x) && nat_lt (8 * nearest_edge x) columns)
    (line_sample (filtered_line edge samples (nearest_edge x) y) ((x + 4) % 8))
    (samples x y)

-- bS is that of a square of 8x8 luma samples
abbrev pub luma_filter : ℕ → Squares → EdgeFilter
luma_filter qp squares k y first last line =
    luma_edge qp (edge_strength squares k (y / 8)) first last line

-- edges of chroma lie 16 luma samples apart, and a square has 4 rows
abbrev pub chroma_filter : ℕ → Squares → EdgeFilter
chroma_filter qp squares k y first last line =
    chroma_edge qp (edge_strength squares (2 * k) (y / 4)) line

-- ---- both passes

abbrev pub both_passes : ℕ → ℕ → (Squares → EdgeFilter) → Squares → Samples → Samples
both_passes columns rows filter squares samples =
    turned
    (pass rows (filter (turned squares)) (turned (pass columns (filter squares) samples)))

abbrev pub deblocked_plane : (Squares → EdgeFilter) → Squares → Plane → Plane
deblocked_plane filter squares plane =
    plane_of plane.width plane.height
    (both_passes plane.width plane.height filter squares (sample_at plane))

-- a picture of this quantiser, whose squares are coded so
abbrev pub deblocked_picture : ℕ → Squares → Picture → Picture
deblocked_picture qp squares picture = record {
  luma = deblocked_plane (luma_filter qp) squares picture.luma;
  cb = deblocked_plane (chroma_filter qp) squares picture.cb;
  cr = deblocked_plane (chroma_filter qp) squares picture.cr;
}
