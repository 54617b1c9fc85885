-- Planes seen from the edges of a pass, with columns across the edges and rows along them, and what
-- a step of a pass leaves.
use Rattle.std.specs.Prelude.{◌≡◌, ℕ, ◌+◌, ◌-◌, ◌<◌, ◌≤◌}
use Rattle.hv_types.specs.Samples.{Plane, IsWhole, sample_at, with_sample}
use Rattle.hv_deblock_model.specs.declared.line.Side.{Side}
use Rattle.hv_deblock_model.specs.Deblocking.{Samples, turned}

-- the direction of the edges of a pass
pub data Direction : Type 0 where
  Vertical : Direction
  Horizontal : Direction

abbrev pub columns_of : Direction → Plane → ℕ
columns_of Vertical plane = plane.width
columns_of Horizontal plane = plane.height

abbrev pub rows_of : Direction → Plane → ℕ
rows_of Vertical plane = plane.height
rows_of Horizontal plane = plane.width

-- of two numbers, that across the edges and that along them
abbrev pub first_of : Direction → ℕ → ℕ → ℕ
first_of Vertical columns rows = columns
first_of Horizontal columns rows = rows

abbrev pub second_of : Direction → ℕ → ℕ → ℕ
second_of Vertical columns rows = rows
second_of Horizontal columns rows = columns

abbrev pub seen : {A : Type 0} → Direction → (ℕ → ℕ → A) → ℕ → ℕ → A
seen Vertical f = f
seen Horizontal f = turned f

abbrev pub samples_of : Direction → Plane → Samples
samples_of direction plane = seen direction (sample_at plane)

abbrev pub with_sample_of : Direction → Plane → ℕ → ℕ → ℕ → Plane
with_sample_of Vertical plane x y v = with_sample plane x y v
with_sample_of Horizontal plane x y v = with_sample plane y x v

-- the four samples before a column, and from it on, from the edge away
abbrev pub side_before : Samples → ℕ → ℕ → Side
side_before samples x y = record {
  s0 = samples (x - 1) y;
  s1 = samples (x - 2) y;
  s2 = samples (x - 3) y;
  s3 = samples (x - 4) y;
}

abbrev pub side_behind : Samples → ℕ → ℕ → Side
side_behind samples x y = record {
  s0 = samples x y;
  s1 = samples (x + 1) y;
  s2 = samples (x + 2) y;
  s3 = samples (x + 3) y;
}

-- A plane of the same sides: the samples of a rectangle are f x y, and every other one is as
-- before.
pub record IsFilled
    (direction : Direction) (left right top bottom : ℕ) (f : Samples)
    (old new : Plane) : Type 0 where
  pub wide : new.width ≡ old.width
  pub high : new.height ≡ old.height
  pub whole : IsWhole new
  pub inside : (x y : ℕ) → left ≤ x → x < right → top ≤ y → y < bottom →
      x < columns_of direction old → y < rows_of direction old →
      samples_of direction new x y ≡ f x y
  pub before : (x y : ℕ) → x < left → x < columns_of direction old → y < rows_of direction old →
      samples_of direction new x y ≡ samples_of direction old x y
  pub behind : (x y : ℕ) → right ≤ x → x < columns_of direction old → y < rows_of direction old →
      samples_of direction new x y ≡ samples_of direction old x y
  pub above : (x y : ℕ) → y < top → x < columns_of direction old → y < rows_of direction old →
      samples_of direction new x y ≡ samples_of direction old x y
  pub below : (x y : ℕ) → bottom ≤ y → x < columns_of direction old → y < rows_of direction old →
      samples_of direction new x y ≡ samples_of direction old x y

-- a plane of the same sides, whose samples are f x y
pub record IsTurnedInto (direction : Direction) (f : Samples) (old new : Plane) : Type 0 where
  pub wide : new.width ≡ old.width
  pub high : new.height ≡ old.height
  pub whole : IsWhole new
  pub samples : (x y : ℕ) → x < columns_of direction old → y < rows_of direction old →
      samples_of direction new x y ≡ f x y
