-- What the bands of a row's samples raise and lower them by.
use Rattle.std.specs.Prelude.{◌≡◌, ℕ, ◌+◌, ◌-◌, ◌/◌, ◌%◌, ◌<◌, List, slice_index_or, min, ℤ, pos, negsuc}

-- by how much an offset raises samples
abbrev pub raise : ℤ → ℕ
raise (pos n) = n
raise (negsuc n) = 0

-- by how much it lowers them
abbrev pub lower : ℤ → ℕ
lower (pos n) = 0
lower (negsuc n) = n + 1

-- how many bands a sample's lies behind the first of the four; 4 for all that lie behind these
abbrev pub band_place : ℕ → ℕ → ℕ
band_place position sample = min ((sample / 8 + 32 - position) % 32) 4

-- a sample that is raised, then lowered, each cut to a byte
abbrev pub raised_lowered : ℕ → ℕ → ℕ → ℕ
raised_lowered sample up down = min (sample + up) 255 - down

-- what f makes of four offsets, and nothing behind them
pub record AreMade (f : ℤ → ℕ) (offsets : List ℤ) (made : List ℕ) : Type 0 where
  pub four : (k : ℕ) → k < 4 → slice_index_or made k 0 ≡ f (slice_index_or offsets k (pos 0))
  pub none : slice_index_or made 4 0 ≡ 0
