-- The plans of the blocks of a picture as the definitions have them.
use Rattle.std.specs.Prelude.{◌≡◌, ℕ, ◌<◌, List, map, slice_get, Some}
use Rattle.hv_types.specs.declared.settings.Settings.{Settings}
use Rattle.hv_plan.specs.declared.offsets.SaoParam.{SaoParam}
use Rattle.hv_block.specs.declared.block.Block.{Block}
use Rattle.hv_tree_model.specs.Trees.{CodingTreeUnit}
use Rattle.hv_tree_model.specs.Plans.{Plan, IsPlan}
use Rattle.hv_near.specs.Neighbours.{lists_of_plan}
use Rattle.hv_slice_model.specs.Slices.{picture_sites}
use Rattle.hv_slice_model.specs.PlannedUnits.{planned_units}

abbrev pub plan_of : Block → Plan
plan_of block = lists_of_plan block.plan

abbrev pub plans_of : List Block → List Plan
plans_of blocks = map plan_of blocks

-- so many of them from the first on have the lists of a block
abbrev pub AreWhole : ℕ → List Plan → Type 0
AreWhole count plans =
    (index : ℕ) (plan : Plan) → index < count → slice_get plans index ≡ Some plan → IsPlan plan

-- the coding tree units of a padded picture of these blocks with these offsets
abbrev pub units_in : Settings → List Block → List SaoParam → List CodingTreeUnit
units_in cfg blocks offsets = planned_units (picture_sites cfg) (plans_of blocks) offsets
