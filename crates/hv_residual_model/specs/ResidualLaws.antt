-- What is read of the bins of a transform block's levels is what was coded, and what is read has 16
-- bits.
use Rattle.std.specs.Prelude.{◌≡◌, ◌≤◌, ◌^◌, ◌*◌, true, List, [], ◌∷◌, length, map, ℤ}
use Rattle.std.specs.List.{list_all}
use Rattle.hv_tables.specs.declared.bins.SliceKind.{SliceKind}
use Rattle.hv_tables.specs.ContextTables.{IsValid}
use Rattle.hv_stream_model.specs.Scripts.{Reads}
use Rattle.hv_residual_model.specs.UnitBins.{UnitQuestion, ByContext, InBypass, UnitBin, UnitScript, slice_bin, in_slice}
use Rattle.hv_residual_model.specs.ResidualContexts.{TransformBlock}
use Rattle.hv_residual_model.specs.ResidualSyntax.{residual_coding}
use Rattle.hv_plan.specs.Levels.{has_16_bits, any_significant}
use Rattle.hv_residual_model.specs.ResidualBins.{residual_bins}

-- sides 4 to 32
abbrev pub HasSide : TransformBlock → Type 0
HasSide b = (2 ≤ b.log2TrafoSize) × (b.log2TrafoSize ≤ 5)

-- levels of 16 bits by rows, one of them not 0
pub record AreLevels (b : TransformBlock) (levels : List ℤ) : Type 0 where
  pub whole : length levels ≡ 2 ^ b.log2TrafoSize * 2 ^ b.log2TrafoSize
  pub small : list_all has_16_bits levels ≡ true
  pub some : any_significant levels ≡ true

abbrev pub LevelsAreReadBack : Type 0
LevelsAreReadBack =
    (b : TransformBlock) (levels : List ℤ) → HasSide b → AreLevels b levels →
    Reads (residual_coding b) (residual_bins b levels) levels

-- whatever answers: what is read is a block of levels of 16 bits
abbrev pub LevelsThatAreReadHave16Bits : Type 0
LevelsThatAreReadHave16Bits =
    (b : TransformBlock) (bins : List UnitBin) (levels : List ℤ) →
    Reads (residual_coding b) bins levels →
    (length levels ≡ 2 ^ b.log2TrafoSize * 2 ^ b.log2TrafoSize) ×
    (list_all has_16_bits levels ≡ true)

-- what a script reads of the bins of a unit, it reads of them among the bins of a slice
abbrev pub UnitScriptsReadInSlices : Type 0 → Type 0
UnitScriptsReadInSlices A =
    (script : UnitScript A) (bins : List UnitBin) (value : A) →
    Reads script bins value → Reads (in_slice script) (map slice_bin bins) value

-- ---- contexts

-- every context of the list has a variable in slices of this kind
abbrev pub IsAskedIn : SliceKind → UnitQuestion → Type 0
IsAskedIn kind (ByContext context) = IsValid kind context
IsAskedIn kind InBypass = Unit {0}

abbrev pub AreAskedIn : SliceKind → List UnitBin → Type 0
AreAskedIn kind [] = Unit {0}
AreAskedIn kind (bin ∷ bins) = IsAskedIn kind bin.question × AreAskedIn kind bins

abbrev pub LevelsAskForVariablesThatAreThere : Type 0
LevelsAskForVariablesThatAreThere =
    (kind : SliceKind) (b : TransformBlock) (levels : List ℤ) → HasSide b →
    AreAskedIn kind (residual_bins b levels)
