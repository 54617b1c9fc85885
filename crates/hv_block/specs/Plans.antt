-- What is decided for a coding tree block, as lists.
use Rattle.std.specs.Prelude.{◌≡◌, ℕ, ◌+◌, ◌-◌, ◌*◌, ◌^◌, ◌≤◌, List, ◌++◌, length, take, drop, replicate, All, ℤ, pos}
use Rattle.hv_plan.specs.declared.prediction.Pred.{Pred}
use Rattle.hv_plan.specs.declared.prediction.Pred.TheVariants.{Intra}
use Rattle.hv_plan.specs.declared.prediction.Unit.{Unit}

-- The units of the 64 squares of 8x8 luma samples, by their addresses, and the levels of the
-- transform blocks, in decoding order, those of each block by rows: 4,096 of luma, and 1,024 each
-- of Cb and Cr.
pub record CtbPlan : Type 0 where
  pub units : List Unit
  pub luma : List ℤ
  pub cb : List ℤ
  pub cr : List ℤ

abbrev pub plan_of_lists : List Unit → List ℤ → List ℤ → List ℤ → CtbPlan
plan_of_lists units luma cb cr = record { units = units; luma = luma; cb = cb; cr = cr }

-- its coding unit lies no deeper in the coding quadtree than one of 8x8
abbrev pub HasDepth : Unit → Type 0
HasDepth unit = unit.depth ≤ 3

pub record IsWholePlan (plan : CtbPlan) : Type 0 where
  pub units : length plan.units ≡ 64
  pub depths : All HasDepth plan.units
  pub luma : length plan.luma ≡ 4096
  pub cb : length plan.cb ≡ 1024
  pub cr : length plan.cr ≡ 1024

abbrev pub unit_of : ℕ → Pred → Unit
unit_of depth pred = record { depth = depth; pred = pred }

-- IntraPredModeY of DC prediction
abbrev pub intra_dc : ℕ
intra_dc = 1

-- one coding unit of 64x64 with DC prediction, and all levels 0
abbrev pub opening_unit : Unit
opening_unit = unit_of 0 (Intra intra_dc)

abbrev pub opening_plan : CtbPlan
opening_plan =
    plan_of_lists (replicate 64 opening_unit) (replicate 4096 (pos 0)) (replicate 1024 (pos 0))
    (replicate 1024 (pos 0))

-- so many from this one on are `unit`
abbrev pub with_units : List Unit → ℕ → ℕ → Unit → List Unit
with_units units from count unit =
    take from units ++ (replicate count unit ++ drop (from + count) units)

-- A node of this size, 0 for 8x8 to 3 for 64x64, has its squares one behind the other. They become
-- those of one coding unit.
abbrev pub with_leaf : CtbPlan → ℕ → ℕ → Pred → CtbPlan
with_leaf plan size address pred =
    record plan { units = with_units plan.units address (4 ^ size) (unit_of (3 - size) pred) }

-- so many from this one on are those of another list
abbrev pub with_part : {A : Type 0} → List A → List A → ℕ → ℕ → List A
with_part list other from count =
    take from list ++ (take count (drop from other) ++ drop (from + count) list)

-- The squares of a node of this size are those of another plan, and so are its levels.
abbrev pub with_node : CtbPlan → CtbPlan → ℕ → ℕ → CtbPlan
with_node plan other size address =
    plan_of_lists (with_part plan.units other.units address (4 ^ size))
    (with_part plan.luma other.luma (64 * address) (64 * 4 ^ size))
    (with_part plan.cb other.cb (16 * address) (16 * 4 ^ size))
    (with_part plan.cr other.cr (16 * address) (16 * 4 ^ size))

-- so many levels from this one on are 0
abbrev pub with_zeros : List ℤ → ℕ → ℕ → List ℤ
with_zeros levels from count =
    take from levels ++ (replicate count (pos 0) ++ drop (from + count) levels)

-- all levels of a node are 0
abbrev pub without_levels : CtbPlan → ℕ → ℕ → CtbPlan
without_levels plan size address =
    plan_of_lists plan.units (with_zeros plan.luma (64 * address) (64 * 4 ^ size))
    (with_zeros plan.cb (16 * address) (16 * 4 ^ size))
    (with_zeros plan.cr (16 * address) (16 * 4 ^ size))
