-- The squares of a block that come before a node, by the units of its plan.
use Rattle.std.specs.Prelude.{ℕ, List, map, take}
use Rattle.hv_plan.specs.declared.prediction.Unit.{Unit}
use Rattle.hv_tree_model.specs.EarlierUnits.{Square}
use Rattle.hv_tree_model.specs.Plans.{coded_square}
use Rattle.hv_inter_model.specs.UnitVectors.{unit_with_vector}

abbrev pub square_with_vector : Unit → Square
square_with_vector unit = coded_square (unit_with_vector unit)

-- so many of them
abbrev pub own_squares : List Unit → ℕ → List Square
own_squares units address = take address (map square_with_vector units)
