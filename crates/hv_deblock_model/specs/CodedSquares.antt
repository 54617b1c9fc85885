-- How the squares of a picture are coded, from the plans of its coding tree blocks.
use Rattle.std.specs.Prelude.{ℕ, ◌+◌, ◌*◌, ◌/◌, ◌%◌, Bool, false, List, slice_get, Option, Some, None}
use Rattle.hv_plan.specs.declared.prediction.Pred.TheVariants.{Intra}
use Rattle.hv_plan.specs.declared.prediction.Unit.{Unit}
use Rattle.hv_plan.specs.Levels.{any_significant}
use Rattle.hv_tree_model.specs.Sites.{blocks_over, address_of, squares}
use Rattle.hv_tree_model.specs.Plans.{Plan, part}
use Rattle.hv_deblock_model.specs.declared.coding.SquareCoding.{SquareCoding}
use Rattle.hv_deblock_model.specs.EdgeStrength.{Squares, log2_transform_squares}

-- whether the luma transform block that has the square at an address has a level that isn't 0, in a
-- unit of this depth
abbrev pub has_luma_levels : Plan → ℕ → ℕ → Bool
has_luma_levels plan depth address =
    let count = squares (log2_transform_squares depth) in
    any_significant (part plan.luma (64 * (address / count * count)) (64 * count))

-- what stands for a square that isn't there
abbrev pub no_square : SquareCoding
no_square = record {
  unit = record { depth = 0; pred = Intra 1 };
  has_levels = false;
}

abbrev pub coding_of : Plan → ℕ → Option Unit → SquareCoding
coding_of plan address None = no_square
coding_of plan address (Some unit) =
    record { unit = unit; has_levels = has_luma_levels plan unit.depth address }

abbrev pub square_of_plan : Option Plan → ℕ → SquareCoding
square_of_plan None address = no_square
square_of_plan (Some plan) address = coding_of plan address (slice_get plan.units address)

-- the squares of a picture of so many luma columns, from one plan a block in raster order
abbrev pub squares_of_plans : ℕ → List Plan → Squares
squares_of_plans width plans column row =
    square_of_plan (slice_get plans (row / 8 * blocks_over width + column / 8))
    (address_of (column % 8) (row % 8))
