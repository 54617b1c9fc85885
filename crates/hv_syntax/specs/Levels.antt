-- The levels of coding units as the definitions have them.
use Rattle.std.specs.Prelude.{ℕ, ◌-◌, List, [], ◌∷◌}
use Rattle.hv_tree_model.specs.Trees.{TransformUnit, greatest_size}
use Rattle.hv_syntax.specs.declared.levels.TransformUnit.{TransformUnit as CodeUnit}
use Rattle.hv_syntax.specs.declared.levels.UnitLevels.{UnitLevels}
use Rattle.hv_syntax.specs.declared.levels.UnitLevels.TheVariants.{One, Four}

abbrev pub unit_of : CodeUnit → TransformUnit
unit_of t = record { luma = t.luma.now; cb = t.cb.now; cr = t.cr.now }

abbrev pub units_of : UnitLevels → List TransformUnit
units_of (One t) = unit_of t ∷ []
units_of (Four q) = unit_of q.first ∷ unit_of q.second ∷ unit_of q.third ∷ unit_of q.fourth ∷ []

-- the size of the coding unit
abbrev pub size_of : UnitLevels → ℕ
size_of (One t) = t.log2 - 3
size_of (Four q) = greatest_size
