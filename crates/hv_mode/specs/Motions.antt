-- What motion search found for a picture, as the choice asks for it: by the column and the row in
-- which a node begins, and its side.
use Rattle.std.specs.Prelude.{◌≡◌, ℕ, ◌+◌, ◌*◌, ◌/◌, ◌%◌, cond, nat_le, Option, Some, None}
use Rattle.std.specs.Option.{ForSome}
use Rattle.hv_plan.specs.declared.place.Node.{Node}
use Rattle.hv_filter_model.specs.Blocks.{luma_side, blocks_over}
use Rattle.hv_mode_model.specs.ModeDecision.{FoundVectors, nothing_found}
use Rattle.hv_search.specs.Motion.{Motion, vector_of}

-- the node of this side in luma samples that begins there, in its coding tree block
abbrev pub depth_of_side : ℕ → ℕ
depth_of_side side = cond (nat_le 64 side) 0 (cond (nat_le 32 side) 1 (cond (nat_le 16 side) 2 3))

abbrev pub node_at : ℕ → ℕ → ℕ → Node
node_at x y side =
    record { depth = depth_of_side side; x = x % luma_side / 8; y = y % luma_side / 8 }

-- the number of the coding tree block, in raster order
abbrev pub block_at : ℕ → ℕ → ℕ → ℕ
block_at width x y = blocks_over luma_side width * (y / luma_side) + x / luma_side

abbrev pub found_in : Motion → FoundVectors
found_in m entry x y side = vector_of m entry (block_at m.width x y) (node_at x y side)

-- nothing, where nothing was searched
abbrev pub found_of : Option Motion → FoundVectors
found_of None = nothing_found
found_of (Some m) = found_in m

-- what was found is of a picture of these sides
pub record IsOfSides (width height : ℕ) (m : Motion) : Type 0 where
  pub wide : m.width ≡ width
  pub high : m.height ≡ height

-- if anything was searched
abbrev pub IsMotionFor : ℕ → ℕ → Option Motion → Type 0
IsMotionFor width height motion = ForSome motion (λ m. IsOfSides width height m)
