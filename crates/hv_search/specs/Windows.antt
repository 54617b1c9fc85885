-- Windows onto planes.
use Rattle.std.specs.Prelude.{◌≡◌, ℕ, ◌+◌, ◌*◌, ◌<◌, List, slice_index_or, ℤ, pos, ◌+ℤ◌}
use Rattle.hv_types.specs.Samples.{Plane, plane_by_rows, sample_at}
use Rattle.hv_search_model.specs.MotionSearch.{nearest}
use Rattle.hv_search.specs.declared.grid.Grid.{Grid}

abbrev pub plane_of_grid : Grid → Plane
plane_of_grid grid = plane_by_rows grid.width grid.height grid.samples.now

-- the sample of a plane that is nearest to a column and a row
abbrev pub nearest_sample : Plane → ℤ → ℤ → ℕ
nearest_sample plane x y = sample_at plane (nearest plane.width x) (nearest plane.height y)

-- a square of this side by rows shows a plane from column x of row y on
abbrev pub Shows : Plane → ℤ → ℤ → ℕ → List ℕ → Type 0
Shows plane x y side samples =
    (i j : ℕ) → i < side → j < side →
    slice_index_or samples (j * side + i) 0 ≡ nearest_sample plane (x +ℤ pos i) (y +ℤ pos j)
