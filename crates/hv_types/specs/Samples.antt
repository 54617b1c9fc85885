-- Planes of samples, and the lists that they are made of.
use Rattle.std.specs.Prelude.{◌≡◌, ℕ, ◌+◌, ◌-◌, ◌*◌, ◌<◌, List, ◌++◌, length, replicate, All, min, slice_index, slice_index_or, slice_range, slice_set, take, drop}
use Rattle.std.specs.List.{concat}
use Rattle.hv_lemmas.specs.Lists.{tabulate}

-- a row, and then its last sample until there are n
abbrev pub lengthened_row : List ℕ → ℕ → List ℕ
lengthened_row row n = row ++ replicate (n - length row) (slice_index row (length row - 1))

-- a plane: its samples by rows, each row from left to right
pub record Plane : Type 0 where
  pub width : ℕ
  pub height : ℕ
  pub samples : List ℕ

-- the plane of these sides that has these samples by rows
abbrev pub plane_by_rows : ℕ → ℕ → List ℕ → Plane
plane_by_rows w h samples = record { width = w; height = h; samples = samples }

-- it has a sample at each place, and a place at least
pub record IsWhole (p : Plane) : Type 0 where
  pub count : length p.samples ≡ p.width * p.height
  pub wide : 0 < p.width
  pub high : 0 < p.height

-- it is whole, and has these sides
pub record IsPlane (width height : ℕ) (p : Plane) : Type 0 where
  pub wide : p.width ≡ width
  pub high : p.height ≡ height
  pub whole : IsWhole p

-- each sample is a byte
abbrev pub HasByteSamples : Plane → Type 0
HasByteSamples p = All (λ s. s < 256) p.samples

-- the sample in column x of row y, or 0 behind the last sample
abbrev pub sample_at : Plane → ℕ → ℕ → ℕ
sample_at p x y = slice_index_or p.samples (y * p.width + x) 0

-- the samples of row y
abbrev pub row_of : Plane → ℕ → List ℕ
row_of p y = slice_range p.samples (y * p.width) (y * p.width + p.width)

-- the plane whose sample in column x of row y is f x y
abbrev pub plane_of : ℕ → ℕ → (ℕ → ℕ → ℕ) → Plane
plane_of w h f = plane_by_rows w h (concat (tabulate h (λ y. tabulate w (λ x. f x y))))

-- the plane whose every sample is v
abbrev pub filled_plane : ℕ → ℕ → ℕ → Plane
filled_plane w h v = plane_of w h (λ _ _. v)

-- p with v in column x of row y
abbrev pub with_sample : Plane → ℕ → ℕ → ℕ → Plane
with_sample p x y v = record p { samples = slice_set p.samples (y * p.width + x) v }

-- p with these values in row y, from column x on
abbrev pub with_run : Plane → ℕ → ℕ → List ℕ → Plane
with_run p x y values =
    let first : ℕ = y * p.width + x in
    record p {
      samples = take first p.samples ++ values ++ drop (first + length values) p.samples;
    }

-- p made w wide and h high: its last column is repeated, and then its last row
abbrev pub pad_plane : Plane → ℕ → ℕ → Plane
pad_plane p w h = plane_of w h (λ x y. sample_at p (min x (p.width - 1)) (min y (p.height - 1)))

-- the upper left part of p that is w wide and h high
abbrev pub crop_plane : Plane → ℕ → ℕ → Plane
crop_plane p w h = plane_of w h (λ x y. sample_at p x y)
