-- Coding tree units that an encoder keeps as plans, a plan and offsets for each block of a picture.
use Rattle.std.specs.Prelude.{◌≡◌, ℕ, List, [], ◌∷◌, slice_get, Some}
use Rattle.hv_plan.specs.declared.offsets.SaoParam.{SaoParam}
use Rattle.hv_tree_model.specs.Trees.{CodingTreeUnit}
use Rattle.hv_tree_model.specs.Sites.{Site, site}
use Rattle.hv_tree_model.specs.Validity.{is_empty}
use Rattle.hv_tree_model.specs.Plans.{Plan, tree_of, NamesItsUnits}

-- those of these blocks, as far as there are plans and offsets: the last one ends the slice
abbrev pub planned_units : List Site → List Plan → List SaoParam → List CodingTreeUnit
planned_units [] plans offsets = []
planned_units (site ∷ sites) [] offsets = []
planned_units (site ∷ sites) (plan ∷ plans) [] = []
planned_units (site ∷ sites) (plan ∷ plans) (sao ∷ offsets) =
    record { sao = sao; tree = tree_of site plan; end_of_slice_segment_flag = is_empty sites } ∷
    planned_units sites plans offsets

-- in a picture of these sides, each square inside the picture names depth and prediction of its
-- coding unit
abbrev pub NameTheirUnits : ℕ → ℕ → List Plan → Type 0
NameTheirUnits width height plans =
    (index : ℕ) (plan : Plan) → slice_get plans index ≡ Some plan →
    NamesItsUnits (site width height index) plan
